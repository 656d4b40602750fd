use Rattle.lock_floor.proofs.Names.{[], sym, subst, CountsEnd, MayMake, Knowledge, Description, Floor, Pass}
use Rattle.std.proofs.Common.{◌∷◌}
use Rattle.lock_floor.proofs.EndStep.{end_allowed}
use Rattle.lock_floor.proofs.ends.FloorOf+Slot+View+Description+Law.end.Goals as goal

pub add_ended-requires-clause-may : goal.add_ended-requires-clause-may
add_ended-requires-clause-may c =
    let may = subst (λ (z : Floor Description × Pass Knowledge). MayMake z.0.description z.1.view (λ s. Unit {0})
    (CountsEnd z.1.view.thread ∷ [])) (λ i. (sym c.self.view_is i, sym c.pass.view_is i)) c.requires.may in
    end_allowed c.self.inside.board.shared.key c.pass.inside.seat.me c.pass.invariant.role
    c.self.inside.board.shared.table_id.slots c.pass.inside.seat.id may
