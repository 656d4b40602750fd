use Rattle.lock_floor.proofs.Names.{ℕ, [], get_or, length, vec_capacity, Knowledge, keeper, Pass, first_pass}
use Rattle.std.proofs.Common.{◌≡◌, ◌<◌, ◌≤◌}
use Rattle.lock_floor.proofs.Keeping.{rooms_from}
use Rattle.lock_floor.proofs.keeper.hand_out.Given as goal

abbrev pub invariant-loop-t : goal.invariant-loop-t
invariant-loop-t l = record {
  table : l.seat.table_id ≡ l.board.shared.table_id;
  first : l.seat.id ≡ 0;
  me : l.seat.me ≡ (record (keeper l.description) { made = l.t; spare = rooms_from l.description l.t }, []);
  count : length l.passes.items ≡ l.t;
  room : length l.description.threads ≤ vec_capacity l.passes;
  each : (k : ℕ) (d : Pass Knowledge) → k < l.t
      → get_or l.passes.items k d ≡ first_pass l.board.shared.table_id l.description k;
}
