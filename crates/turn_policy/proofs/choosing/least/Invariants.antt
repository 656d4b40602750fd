use Rattle.std.proofs.Common.{◌≡◌, ◌&&◌, ℕ, nat_le, take}
use Rattle.std.specs.List.{list_all}
use Rattle.turn_policy.proofs.choosing.least.Given as goal

-- the least of the first and of those so far
abbrev pub invariant-loop-candidate : goal.invariant-loop-candidate
invariant-loop-candidate l = (n : ℕ)
    → nat_le n l.least.0 ≡
    (nat_le n l.initial.least.0 && list_all (λ c. nat_le n c.priority.0) (take l.candidate-index l.others))
