-- A run of an ordered plan's threads is done: no take of it was refused, and nobody was halted.
use Rattle.floor_run.proofs.Names.{refl, ap, IsProper, IsOrdered, Outcome, IsDone, Plan, unhalted, unrefused, IsOutcome}
use Rattle.std.proofs.Common.{◌≡◌, ◌∙◌}

pub ordered_done : (plan : Plan) (o : Outcome) → IsProper plan → IsOrdered plan → IsOutcome plan o → o.ending ≡ IsDone
ordered_done plan o p i run =
    let halted = unhalted plan p i run.history run.legal in
    let refused = unrefused plan p i run.history run.legal in
    ap (λ (x : Outcome). x.ending) run.outcome ∙ rw (halted, refused) refl
