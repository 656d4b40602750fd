use Rattle.std.proofs.Common.{◌≡◌, ap, refl, ◌∙◌}
use Rattle.std.proofs.lemmas.Bool.{false≢true}
use Rattle.chain_table.specs.Chains.{heads_of, entries_of, head_of}
use Rattle.chain_table.proofs.Heads.{head_of_passed, without_passed, named_rest, same_name, taken_named}
use Rattle.chain_table.proofs.chain.take_out.Goals as goal

pub take_behind-found-requires : goal.take_behind-found-requires
take_behind-found-requires g c =
    rw c.deref_mut-2.ensures.value (named_rest g.H.Head.name_of _ _ (rw c.in-Some.is at c.requires))

pub returns-clause-taken : goal.returns-clause-taken
returns-clause-taken g c =
    let h = c.in-Some.head.value in
    let all = ap (heads_of g.H.Head.unlinked g.H.Head.behind) c.in-Some.is in
    let same : g.H.Head.unlinked c.deref.result.now ≡ g.H.Head.unlinked h = cc in
    let name = same_name g.H.Head.name_of g.H.Head.unlinked g.met.H.Head.keeps_name c.deref.result.now h same in
    c.take_behind-found.ensures.taken
    ∙ ap (λ k. head_of c.args.q (entries_of g.H.Head.name_of (g.H.Head.behind k))) c.deref_mut-2.ensures.value
    ∙ head_of_passed g.H.Head.name_of c.args.q (g.H.Head.unlinked h) _ (g.H.Head.behind h)
    (g.H.Head.behind h) all refl c.requires (λ e. false≢true (c.if-is_named.ensures.1 (name ∙ e)))

pub returns-clause-named : goal.returns-clause-named
returns-clause-named g c =
    taken_named g.H.Head.name_of c.args.q _ c.requires c.take_behind-found.result (returns-clause-taken g c)

pub returns-clause-others : goal.returns-clause-others
returns-clause-others g c =
    let h = c.in-Some.head.value in
    let all = ap (heads_of g.H.Head.unlinked g.H.Head.behind) c.in-Some.is in
    let same : g.H.Head.unlinked c.deref.result.now ≡ g.H.Head.unlinked h = cc in
    let name = same_name g.H.Head.name_of g.H.Head.unlinked g.met.H.Head.keeps_name c.deref.result.now h same in
    let first : g.H.Head.unlinked c.take_behind-found.new.self ≡ g.H.Head.unlinked h = cc in
    rw (first, c.take_behind-found.ensures.others, c.deref_mut-2.ensures.value)
    (without_passed g.H.Head.name_of c.args.q (g.H.Head.unlinked h) _ (g.H.Head.behind h)
    (g.H.Head.behind h) all refl c.requires (λ e. false≢true (c.if-is_named.ensures.1 (name ∙ e))))
