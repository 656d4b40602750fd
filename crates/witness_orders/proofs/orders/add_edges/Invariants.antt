use Rattle.std.proofs.Common.{◌≡◌, ℕ, ◌||◌, ◌&&◌, eqb, take, get_or}
use Rattle.std.specs.List.{list_any}
use Rattle.lock_model.specs.Counts.{has_bit}
use Rattle.witness_orders.proofs.orders.add_edges.Given as goal

abbrev pub invariant-loop-h : goal.invariant-loop-h
invariant-loop-h l = (a b : ℕ) → has_bit b (get_or l.edges a 0)
    ≡ (has_bit b (get_or l.initial.edges a 0) || list_any (λ h. eqb h.0 a) (take l.h-index l.held) && eqb l.wanted.0 b)
