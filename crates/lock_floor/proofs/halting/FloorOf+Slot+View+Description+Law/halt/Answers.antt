use Rattle.lock_floor.proofs.Names.{[], sym, subst, Halts, MayMake, Knowledge, Description, Floor, Pass}
use Rattle.std.proofs.Common.{◌∷◌}
use Rattle.lock_floor.proofs.HaltStep.{halt_allowed}
use Rattle.lock_floor.proofs.halting.FloorOf+Slot+View+Description+Law.halt.Goals as goal

pub set_halt-requires-clause-may : goal.set_halt-requires-clause-may
set_halt-requires-clause-may c =
    let may = subst (λ (z : Floor Description × Pass Knowledge). MayMake z.0.description z.1.view (λ s. Unit {0})
    (Halts z.1.view.thread ∷ [])) (λ i. (sym c.self.view_is i, sym c.pass.view_is i)) c.requires.may in
    halt_allowed c.self.inside.board.shared.key c.pass.inside.seat.me c.pass.invariant.role
    c.self.inside.board.shared.table_id.slots c.pass.inside.seat.id may
