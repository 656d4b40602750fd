use Rattle.lock_floor.proofs.Names.{List, IfSome, length, subst, Mark, Knowledge, Pass}
use Rattle.std.proofs.Common.{◌≡◌, ◌<◌, ◌∷◌}
use Rattle.lock_floor.proofs.Marked.{first_told, first_of_floor}
use Rattle.lock_floor.proofs.marking.PassOf+Slot+View+Description+Law.first_marked.Goals as goal

pub returns-clause-some : goal.returns-clause-some
returns-clause-some c =
    subst (λ (p : Pass Knowledge). IfSome c.first_of.result
    (λ t. (m : Mark) × (ms : List Mark) × (p.view.share.doing.marked ≡ m ∷ ms) × (m.thread ≡ t.0))) c.self.view_is
    (first_told c.self.inside.seat.me.0.description c.self.inside.marked c.self.inside.seat.me.0.share.doing.marked
    c.first_of.result c.self.invariant.marks c.first_of.ensures.some)

pub returns-clause-of_floor : goal.returns-clause-of_floor
returns-clause-of_floor c =
    subst (λ (p : Pass Knowledge). IfSome c.first_of.result (λ t. t.0 < length p.view.description.threads))
    c.self.view_is
    (first_of_floor c.self.inside.seat.me.0.description c.self.inside.marked c.self.inside.seat.me.0.share.doing.marked
    c.first_of.result c.self.invariant.marks c.first_of.ensures.some)
