use Rattle.std.proofs.Common.{length, rules, ap, ◌∙◌}
use Rattle.run_rows.proofs.Noting.{first_told}
use Rattle.run_tracks.specs.Rows.{IsThread}
use Rattle.run_rows.proofs.columns.begin_thread.Goals as goal

pub returns : goal.returns
returns c runs h =
    let held = c.in_ok-held.ensures in
    record {
      row = first_told (λ n row. IsThread c.args.world.now.plan (runs n) c.args.t.0 row) _ c.row_of.result
          c.in_ok-row.ensures (c.row_of.ensures (runs 0) h);
      locks = ap length c.from_vec.ensures ∙ held.number ∙ c.locks.ensures.number;
      held = λ l track e. let made = held.each l track (rw (← c.from_vec.ensures) e) in search (rules, first_told);
    }
