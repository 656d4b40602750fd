use Rattle.std.proofs.Common.{ap, sym, ◌∙◌}
use Rattle.std.proofs.lemmas.Bool.{false≢true}
use Rattle.chain_table.proofs.Heads.{heads_at, heads_at-next, head_of_passed, named_rest}
use Rattle.chain_table.proofs.chain.Chain.find.Goals as goal

pub loop-at-preserved : goal.loop-at-preserved
loop-at-preserved g c =
    let h = c.in-Some.head.now in
    let all = ap (heads_at g.H.Head.unlinked g.H.Head.behind) c.in-Some.is in
    let rest = heads_at-next g.H.Head.unlinked g.H.Head.behind c.next-at.result (g.H.Head.behind h) c.next-at.ensures in
    let named = c.loop-at.invariant.named in
    let other = head_of_passed g.H.Head.name_of c.args.q (g.H.Head.unlinked h) _ (g.H.Head.behind h) _ all rest named
    (λ e. false≢true (c.if-is_named.ensures.1 (sym (g.met.H.Head.keeps_name h) ∙ e))) in
    record {
      same = rw other c.loop-at.invariant.same;
      named = rw rest (named_rest g.H.Head.name_of (g.H.Head.unlinked h) (g.H.Head.behind h) (rw all at named));
    }
