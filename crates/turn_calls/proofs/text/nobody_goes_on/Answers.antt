use Rattle.std.proofs.Common.{◌≡◌, ◌<◌, ◌≤◌, ℕ, false, not, length, sym, ap, subst, inl, inr, ◌∙◌, arith}
use Rattle.std.proofs.lemmas.Bool.{cases_lt}
use Rattle.turn_calls.specs.Texts.{goes_on}
use Rattle.turn_calls.proofs.Rounds.{so_of_all, one_fails}
use Rattle.turn_calls.proofs.text.nobody_goes_on.Goals as goal

pub loop-t-preserved : goal.loop-t-preserved
loop-t-preserved c r u h l =
    let plan = c.args.world.now.plan in
    elim (cases_lt u c.loop-t.t) [
      | inl below ↦ c.loop-t.invariant r u h below
      | inr above ↦
          let here : c.loop-t.t ≡ u = omega (arith, l, above) in
          subst (λ (k : ℕ). goes_on plan r k ≡ false) here (sym (c.goes_on.ensures r h) ∙ c.if-goes_on.false)
    ]

pub returns-then-goes_on : goal.returns-then-goes_on
returns-then-goes_on c r h =
    let plan = c.args.world.now.plan in
    let within : c.loop-t.t < length plan.threads =
    omega (arith, c.loop-t-test.true, c.loop-t.auto.t-end, c.threads-t-end.ensures.number) in
    sym (one_fails (λ t. not (goes_on plan r t)) (length plan.threads) c.loop-t.t within
    (ap not (sym (c.goes_on.ensures r h) ∙ c.if-goes_on.true)))

pub returns : goal.returns
returns c r h =
    let plan = c.args.world.now.plan in
    let all : length plan.threads ≤ c.loop-t.t =
    omega (arith, c.loop-t-test.false, c.loop-t.auto.t-end, c.threads-t-end.ensures.number) in
    sym (so_of_all (λ t. not (goes_on plan r t)) (length plan.threads)
    (λ t l. ap not (c.loop-t.invariant r t h (omega (arith, l, all)))))
