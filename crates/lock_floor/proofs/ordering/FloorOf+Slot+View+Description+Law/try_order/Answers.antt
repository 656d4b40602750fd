use Rattle.lock_floor.proofs.OrderCall.{may_take_graph, may_order_on, has_graph}
use Rattle.lock_floor.proofs.ordering.FloorOf+Slot+View+Description+Law.try_order.Goals as goal

pub try_take_graph-requires-clause-may : goal.try_take_graph-requires-clause-may
try_take_graph-requires-clause-may c =
    may_take_graph c.args.self.now.description c.args.l.0 c.args.pass.now.view c.requires.first c.requires.may

pub settle-requires-clause-may : goal.settle-requires-clause-may
settle-requires-clause-may c =
    may_order_on c.args.self.now.description c.args.l.0 c.args.pass.now.view c.try_take_graph.new.pass.view
    c.requires.first c.requires.may (c.try_take_graph.ensures.out c.if-not-try_take_graph.false)

pub settle-requires-clause-graph : goal.settle-requires-clause-graph
settle-requires-clause-graph c =
    has_graph c.args.self.now.description c.args.l.0 c.args.pass.now.view c.try_take_graph.new.pass.view
    c.requires.first c.requires.may (c.try_take_graph.ensures.out c.if-not-try_take_graph.false)
