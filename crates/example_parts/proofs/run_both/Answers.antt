use Rattle.std.proofs.Common.{◌≡◌, ◌-◌, get_or, ap, sym, subst, ◌∙◌, arith}
use Rattle.std.proofs.lemmas.List.{get_or-take}
use Rattle.example_parts.specs.Threads.{IsBeginning}
use Rattle.example_parts.proofs.run_both.Goals as goal

pub run-requires-clause-second : goal.run-requires-clause-second
run-requires-clause-second g c =
    let f = c.args.floor.now in
    let all = c.args.passes in
    let p = c.unwrap.result in
    let last = c.pop.ensures.value p (omega (arith, c.requires.two, all.ok.0)) in
    let is : p ≡ get_or all.items (all.len - 1) p = cc in
    c.start-second.ensures f
    (subst (IsBeginning f) (sym is) (c.requires.begin (all.len - 1) p (omega (arith, c.requires.two, all.ok.0))))

pub run-requires-clause-first : goal.run-requires-clause-first
run-requires-clause-first g c =
    let f = c.args.floor.now in
    let all = c.args.passes in
    let left = c.pop.new.self in
    let shorter = rw c.unwrap.ensures at c.pop.ensures.len in
    let q = c.unwrap-2.result in
    let last = c.pop-2.ensures.value q (omega (arith, c.requires.two, all.ok.0, shorter)) in
    let is : q ≡ get_or left.items (left.len - 1) q = cc in
    let there =
    ap (λ ps. get_or ps (left.len - 1) q) c.pop.ensures.rest
    ∙ get_or-take (all.len - 1) all.items (left.len - 1) q (omega (arith, c.requires.two, all.ok.0, shorter)) in
    c.start-first.ensures f
    (subst (IsBeginning f) (sym (is ∙ there))
    (c.requires.begin (left.len - 1) q (omega (arith, c.requires.two, all.ok.0, shorter))))
