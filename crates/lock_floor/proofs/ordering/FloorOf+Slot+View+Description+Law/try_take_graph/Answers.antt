use Rattle.lock_floor.proofs.Names.{Some, sym, ap, subst, ClassGraph, Takes}
use Rattle.lock_floor.proofs.ordering.FloorOf+Slot+View+Description+Law.try_take_graph.Goals as goal

pub try_take-requires-clause-may : goal.try_take-requires-clause-may
try_take-requires-clause-may c = (ClassGraph, ap Some (sym c.graph_slot-slot.ensures), c.requires.may)

pub returns-clause-out : goal.returns-clause-out
returns-clause-out c hit =
    subst (λ j. Takes c.args.self.now.description ClassGraph j c.args.pass.now.view c.try_take.new.pass.view)
    c.graph_slot-slot.ensures (c.try_take.ensures.out hit ClassGraph (ap Some (sym c.graph_slot-slot.ensures)))

pub returns-clause-elsewhere : goal.returns-clause-elsewhere
returns-clause-elsewhere c missed =
    c.try_take.ensures.elsewhere missed ClassGraph (ap Some (sym c.graph_slot-slot.ensures))
