use Rattle.std.proofs.Common.{◌≡◌, ℕ, ◌<◌, ◌≤◌, get_or}
use Rattle.witness_orders.specs.Graph.{row_behind}
use Rattle.witness_orders.proofs.orders.close.Given as goal

abbrev pub invariant-loop-a : goal.invariant-loop-a
invariant-loop-a l = record {
  done : (k : ℕ) → k < l.a → get_or l.rows k 0 ≡ row_behind l.held l.reached k (get_or l.initial.rows k 0);
  rest : (k : ℕ) → l.a ≤ k → get_or l.rows k 0 ≡ get_or l.initial.rows k 0;
}
