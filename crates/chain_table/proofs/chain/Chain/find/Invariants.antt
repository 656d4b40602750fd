use Rattle.std.proofs.Common.{◌≡◌, length}
use Rattle.chain_table.specs.Chains.{head_of, entries_of, IsNamed}
use Rattle.chain_table.proofs.Heads.{heads_at}
use Rattle.chain_table.proofs.chain.Chain.find.Given as goal

abbrev pub invariant-loop-at : goal.invariant-loop-at
invariant-loop-at g l =
    let hs = heads_at g.H.Head.unlinked g.H.Head.behind l.at in
    record {
      same : head_of l.q (entries_of g.H.Head.name_of hs) ≡ head_of l.q l.self;
      named : IsNamed g.H.Head.name_of (entries_of g.H.Head.name_of hs);
    }

abbrev pub decreases-loop-at : goal.decreases-loop-at
decreases-loop-at g l = length (heads_at g.H.Head.unlinked g.H.Head.behind l.at)
