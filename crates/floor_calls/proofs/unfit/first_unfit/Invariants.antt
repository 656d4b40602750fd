use Rattle.floor_calls.proofs.Names.{Option, drop, IsFirst, Spoils, Unfit}
use Rattle.floor_calls.proofs.unfit.first_unfit.Given as goal

-- what is the first of those that are left is the first of all
abbrev pub invariant-loop-why : goal.invariant-loop-why
invariant-loop-why l =
    (found : Option Unfit) → IsFirst (λ u. Spoils u l.description) (drop l.why-index l.all) found
    → IsFirst (λ u. Spoils u l.description) l.all found
