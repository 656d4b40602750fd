use Rattle.std.proofs.Common.{◌≡◌, take, get_or, true}
use Rattle.std.specs.List.{list_all}
use Rattle.lock_model.specs.Counts.{has_bit}
use Rattle.witness_orders.proofs.orders.are_known.Given as goal

-- those so far have their edge
abbrev pub invariant-loop-h : goal.invariant-loop-h
invariant-loop-h l = list_all (λ h. has_bit l.wanted.0 (get_or l.edges h.0 0)) (take l.h-index l.held) ≡ true
