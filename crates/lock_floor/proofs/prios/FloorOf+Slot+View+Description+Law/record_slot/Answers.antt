use Rattle.lock_floor.proofs.Names.{Some, sym, ap, Knowledge, Pass}
use Rattle.std.proofs.Common.{◌∙◌}
use Rattle.lock_floor.proofs.Priorities.{own_place}
use Rattle.lock_floor.proofs.prios.FloorOf+Slot+View+Description+Law.record_slot.Goals as goal

pub returns : goal.returns
returns c =
    let p = c.pass.inside in
    own_place c.args.self.now.description c.args.pass.now.view p.seat.me p.who.0 p.held p.marked p.log p.finished
    c.pass.invariant (ap (λ (q : Pass Knowledge). q.view) c.pass.view_is) c.requires.description
    ∙ ap Some (sym c.from.ensures)
