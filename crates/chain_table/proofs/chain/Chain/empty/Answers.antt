use Rattle.chain_table.proofs.Kept.{IsChain-empty}
use Rattle.chain_table.proofs.chain.Chain.empty.Goals as goal

pub invariant_of-result : goal.invariant_of-result
invariant_of-result g c = IsChain-empty g.H.Head.name_of g.H.Head.behind
