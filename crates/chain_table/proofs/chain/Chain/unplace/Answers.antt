use Rattle.chain_table.proofs.Kept.{IsChain-without}
use Rattle.chain_table.proofs.Lookups.{head_of-without_itself, unchanged_at_none}
use Rattle.chain_table.proofs.chain.Chain.unplace.Goals as goal

pub invariant_of-self : goal.invariant_of-self
invariant_of-self g c =
    rw (c.take_out-rest.ensures.others, c.take.ensures.value)
    (IsChain-without g.H.Head.name_of g.H.Head.behind c.args.q _ c.self.invariant)

pub returns-clause-unchanged : goal.returns-clause-unchanged
returns-clause-unchanged g c =
    let view = rw (← c.take.ensures.value) at c.self.view_is in
    rw (← view) (unchanged_at_none c.args.q _ _ c.take_out-rest.result.1 c.take_out-rest.ensures.taken
    c.take_out-rest.ensures.others)

pub returns-clause-absent : goal.returns-clause-absent
returns-clause-absent g c =
    rw (c.take_out-rest.ensures.others, c.take.ensures.value)
    (head_of-without_itself c.args.q _ c.self.invariant.distinct)

pub returns-clause-chain : goal.returns-clause-chain
returns-clause-chain g c =
    rw (c.take_out-rest.ensures.others, c.take.ensures.value)
    (IsChain-without g.H.Head.name_of g.H.Head.behind c.args.q _ c.self.invariant)
