use Rattle.std.proofs.Common.{◌∙◌}
use Rattle.chain_table.proofs.Kept.{IsChain-cons}
use Rattle.chain_table.proofs.chain.Chain.place.Goals as goal

pub invariant_of-self : goal.invariant_of-self
invariant_of-self g c =
    let head = c.link.ensures.same ∙ g.met.H.Head.is_itself c.args.head.value c.requires.bare in
    rw (head, c.link.ensures.linked, c.take-behind.ensures.value, c.self.view_is)
    (IsChain-cons g.H.Head.name_of g.H.Head.behind c.args.head.value c.args.self.now c.requires.absent c.requires.bare
    (rw c.self.view_is at c.self.invariant))

pub returns-clause-chain : goal.returns-clause-chain
returns-clause-chain g c =
    let head = c.link.ensures.same ∙ g.met.H.Head.is_itself c.args.head.value c.requires.bare in
    rw (head, c.link.ensures.linked, c.take-behind.ensures.value, c.self.view_is)
    (IsChain-cons g.H.Head.name_of g.H.Head.behind c.args.head.value c.args.self.now c.requires.absent c.requires.bare
    (rw c.self.view_is at c.self.invariant))
