use Rattle.std.proofs.Common.{◌≡◌, map, rules, ap, ◌∙◌}
use Rattle.lock_history.specs.Outcomes.{line_seen}
use Rattle.lock_model.specs.Plans.{config_of}
use Rattle.lock_state.specs.Run.{queue_lines}
use Rattle.run_rows.proofs.Noting.{first_told}
use Rattle.run_rows.proofs.columns.Columns.begin.Goals as goal

pub returns : goal.returns
returns c runs h =
    let w = c.args.world.now in
    let threads = c.in_ok-threads.ensures in
    let words = c.in_ok-words.ensures in
    record {
      thread_each = threads.number ∙ c.threads.ensures.number;
      of_threads = λ t thread e. let made = threads.each t thread e in search rules;
      word_each = words.number ∙ c.locks.ensures.number;
      of_words = λ l track e. let made = words.each l track e in search (rules, first_told);
      of_queues = first_told (λ n lines. map line_seen lines ≡ queue_lines w.chains (config_of w.plan) (runs n).state) _
          c.from_vec.result c.in_ok-begin.ensures
          (ap (map line_seen) c.from_vec.ensures ∙ c.in_ok-queues.ensures (runs 0) h);
    }
