use Rattle.lock_floor.proofs.Names.{[], length, sym, subst, Looks, Description, MayMake, Knowledge, Floor, Pass, counts}
use Rattle.std.proofs.Common.{◌<◌, ◌∷◌}
use Rattle.lock_floor.proofs.Looking.{look_allowed}
use Rattle.lock_floor.proofs.steps.FloorOf+Slot+View+Description+Law.look.Goals as goal

pub read_word-requires-clause-may : goal.read_word-requires-clause-may
read_word-requires-clause-may c =
    let l = c.args.l.0 in
    let table = c.self.inside.board.shared.table_id in
    let low = subst (λ (f : Floor Description). l < length f.description.locks) (sym c.self.view_is) c.requires.lock in
    let may = subst (λ (z : Floor Description × Pass Knowledge). MayMake z.0.description z.1.view (λ s. Unit {0})
    (Looks z.1.view.thread l (counts z.1.view l) ∷ [])) (λ i. (sym c.self.view_is i, sym c.pass.view_is i))
    c.requires.may in
    look_allowed c.self.inside.board.shared.key c.pass.inside.seat.me l c.pass.invariant.role low table.slots
    c.pass.inside.seat.id may
