use Rattle.std.proofs.Common.{◌≡◌, ◌<◌, ℕ, length, map, rules, ap, arith, ◌∙◌}
use Rattle.std.proofs.lemmas.Option.{slice_get_within}
use Rattle.lock_history.specs.Outcomes.{line_seen}
use Rattle.lock_model.specs.Plans.{config_of}
use Rattle.lock_model.specs.Words.{word_of}
use Rattle.lock_state.specs.Run.{Run, queue_lines}
use Rattle.run_tracks.specs.Rows.{TellsThread}
use Rattle.run_rows.proofs.Noting.{kept, noted_as}
use Rattle.run_rows.proofs.columns.Columns.note.Goals as goal

pub change_each-requires-clause-each : goal.change_each-requires-clause-each
change_each-requires-clause-each c i x e =
    let low : i < length c.args.world.now.plan.threads = let l = slice_get_within _ i x.now e in
    omega (arith, l, c.requires.1.thread_each) in
    let told : (runs : ℕ → Run)
    × TellsThread c.args.world.now.plan runs c.args.row i x.now = (c.requires.0, c.requires.1.of_threads i x.now e) in
    search rules

pub change_each-requires-2-clause-each : goal.change_each-requires-2-clause-each
change_each-requires-2-clause-each c i x e =
    let low : i < length c.args.world.now.plan.locks = let l = slice_get_within _ i x.now e in
    omega (arith, l, c.requires.1.word_each) in
    let before = (c.requires.1.of_words i x.now e).within in
    search rules

pub returns : goal.returns
returns c runs h others old =
    let w = c.args.world.now in
    let threads = c.in_ok-change_each.ensures in
    let words = c.in_ok-change_each-2.ensures in
    record {
      thread_each = threads.number ∙ c.threads.ensures.number;
      of_threads = λ t thread e. let changed = threads.each t thread e in
          let was = old.of_threads t changed.0.now changed.2 in
          rw (← changed.3) (search rules);
      word_each = words.number ∙ c.locks.ensures.number;
      of_words = λ l track e. let changed = words.each l track e in
          let was = old.of_words l changed.0.now changed.2 in
          rw (← changed.3) (noted_as
          (λ n w. word_of w ≡ (runs n).state.word l) changed.0.now changed.1.now c.args.row was (search rules));
      of_queues = kept (λ n lines. map line_seen lines ≡ queue_lines w.chains (config_of w.plan) (runs n).state) _ _
          c.args.row c.from_vec.result old.of_queues c.in_ok-keep.ensures.kept
          (ap (map line_seen) c.from_vec.ensures ∙ c.in_ok-queues.ensures (runs c.args.row) h);
    }
