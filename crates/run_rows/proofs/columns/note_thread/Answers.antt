use Rattle.std.proofs.Common.{◌≡◌, length, rules, ap, ◌∙◌}
use Rattle.lock_objects.specs.Represents.{hold_of}
use Rattle.run_rows.proofs.Noting.{noted, noted_as}
use Rattle.run_rows.proofs.Turns.{holds_stay}
use Rattle.run_tracks.specs.Rows.{IsThread}
use Rattle.run_rows.proofs.columns.note_thread.Goals as goal

pub returns-then-ne : goal.returns-then-ne
returns-then-ne c = λ runs h others old. record {
  row = noted (λ n row. IsThread c.args.world.now.plan (runs n) c.args.t.0 row) _ _ c.args.row c.row_of.result old.row
      c.in_ok-note.ensures.noted
      (c.row_of.ensures (runs c.args.row) h) c.in_ok-note.ensures.kept;
  locks = old.locks;
  held = holds_stay runs c.args.row c.args.who.0 c.args.t.0 c.args.tracks.now.held others (search rules) old.held;
}

pub returns : goal.returns
returns c = λ runs h others old.
    let held = c.in_ok-change_each.ensures in
    let same = c.into_vec-held.ensures ∙ c.replace.ensures.value in
    record {
      row = noted (λ n row. IsThread c.args.world.now.plan (runs n) c.args.t.0 row) _ _ c.args.row c.row_of.result
          old.row c.in_ok-note.ensures.noted
          (c.row_of.ensures (runs c.args.row) h) c.in_ok-note.ensures.kept;
      locks = ap length c.from_vec-2.ensures ∙ held.number ∙ c.locks.ensures.number;
      held = λ l track e.
          let changed = held.each l track (rw (← c.from_vec-2.ensures) e) in
          let was = old.held l changed.0.now (rw (← same) changed.2) in
          rw (← changed.3) (noted_as (λ n mode. hold_of mode ≡ (runs n).state.held c.args.t.0 l) changed.0.now
          changed.1.now c.args.row was (search rules));
    }
