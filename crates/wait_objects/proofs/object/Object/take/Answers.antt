use Rattle.std.proofs.Common.{rules}
use Rattle.wait_objects.proofs.Taken.{goes, contents_left, others_taken, last_taken}
use Rattle.wait_objects.proofs.object.Object.take.Goals as goal

pub invariant_of-self : goal.invariant_of-self
invariant_of-self g c = goes g.E.Own c.args.which c.args.side c.self.inside c.take-nodes.result c.take-nodes.new.self
    c.deal.new.free c.take-nodes.ensures.taken c.take-nodes.ensures.left c.deal.ensures.left c.self.invariant

pub returns-clause-contents : goal.returns-clause-contents
returns-clause-contents g c = rw (← c.self.view_is)
    (contents_left g.E.Own c.args.which c.args.side c.self.inside c.take-nodes.result c.take-nodes.new.self
    c.deal.new.free c.take-nodes.ensures.taken c.take-nodes.ensures.left c.deal.ensures.left)

pub returns-clause-taken : goal.returns-clause-taken
returns-clause-taken g c = search rules

pub returns-clause-others : goal.returns-clause-others
returns-clause-others g c = rw (returns-clause-taken g c, ← c.self.view_is)
    (others_taken g.E.Own c.args.which c.args.side c.self.inside c.take-nodes.result c.take-nodes.new.self
    c.deal.new.free c.take-nodes.ensures.taken c.take-nodes.ensures.left c.deal.ensures.left c.self.invariant)

pub returns-clause-last : goal.returns-clause-last
returns-clause-last g c = rw (returns-clause-taken g c) (rw (← c.self.view_is)
    (last_taken g.E.Own c.args.which c.args.side c.self.inside c.take-nodes.result c.take-nodes.new.self c.deal.new.free
    c.take-nodes.ensures.taken c.take-nodes.ensures.left c.deal.ensures.left c.self.invariant))
