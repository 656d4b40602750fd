use Rattle.floor_calls.proofs.Names.{true, false, List, length, get_or, Some, None, sym, subst, arith, drop_all}
use Rattle.floor_calls.proofs.Names.{drop_more, IsFirst, none, here, later, Spoils, Unfit, ManyThreads}
use Rattle.std.proofs.Common.{◌≡◌, ◌<◌, ◌∙◌}
use Rattle.floor_calls.proofs.unfit.first_unfit.Goals as goal

pub returns-then-spoils : goal.returns-then-spoils
returns-then-spoils c =
    let xs = c.args.all.now in
    let i = c.loop-why.why-index in
    let lt : i < length xs = omega (arith, c.loop-why-test.true) in
    c.loop-why.invariant (Some (get_or xs i ManyThreads))
    (subst
    (λ (ys : List Unfit). IsFirst (λ (u : Unfit). Spoils u c.args.description.now) ys (Some (get_or xs i ManyThreads)))
    (sym (drop_more xs i ManyThreads lt)) (here (c.spoils.ensures.0 c.if-spoils.true)))

pub loop-why-preserved : goal.loop-why-preserved
loop-why-preserved c found h =
    let xs = c.args.all.now in
    let i = c.loop-why.why-index in
    let lt : i < length xs = omega (arith, c.loop-why-test.true) in
    c.loop-why.invariant found
    (subst (λ (ys : List Unfit). IsFirst (λ (u : Unfit). Spoils u c.args.description.now) ys found)
    (sym (drop_more xs i ManyThreads lt))
    (later (λ so. let z : true ≡ false = sym (c.spoils.ensures.1 so) ∙ c.if-spoils.false in cc) h))

pub returns : goal.returns
returns c =
    let xs = c.args.all.now in
    let i = c.loop-why.why-index in
    c.loop-why.invariant None
    (subst (λ (ys : List Unfit). IsFirst (λ (u : Unfit). Spoils u c.args.description.now) ys None)
    (sym (drop_all i xs (omega (arith, c.loop-why-test.false)))) none)
