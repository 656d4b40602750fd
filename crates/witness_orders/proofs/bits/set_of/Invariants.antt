use Rattle.std.proofs.Common.{◌≡◌, ℕ, ◌==◌, take}
use Rattle.std.specs.List.{list_any}
use Rattle.lock_model.specs.Counts.{has_bit}
use Rattle.witness_orders.proofs.bits.set_of.Given as goal

abbrev pub invariant-loop-c : goal.invariant-loop-c
invariant-loop-c l = (b : ℕ) → has_bit b l.set ≡ list_any (λ c. c.0 == b) (take l.c-index l.classes)
