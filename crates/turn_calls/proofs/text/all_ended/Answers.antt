use Rattle.std.proofs.Common.{◌≡◌, ◌<◌, ◌≤◌, ℕ, true, length, sym, subst, inl, inr, ◌∙◌, arith}
use Rattle.std.proofs.lemmas.Bool.{cases_lt}
use Rattle.lock_state.specs.Run.{has_ended}
use Rattle.turn_calls.proofs.Rounds.{so_of_all, one_fails}
use Rattle.turn_calls.proofs.text.all_ended.Goals as goal

pub loop-t-preserved : goal.loop-t-preserved
loop-t-preserved c r u h l =
    let plan = c.args.world.now.plan in
    elim (cases_lt u c.loop-t.t) [
      | inl below ↦ c.loop-t.invariant r u h below
      | inr above ↦
          let here : c.loop-t.t ≡ u = omega (arith, l, above) in
          subst (λ (k : ℕ). has_ended plan r k ≡ true) here (sym (c.has_ended.ensures r h) ∙ c.if-not-has_ended.false)
    ]

pub returns-then-not-has_ended : goal.returns-then-not-has_ended
returns-then-not-has_ended c r h =
    let plan = c.args.world.now.plan in
    let within : c.loop-t.t < length plan.threads =
    omega (arith, c.loop-t-test.true, c.loop-t.auto.t-end, c.threads-t-end.ensures.number) in
    sym (one_fails (has_ended plan r) (length plan.threads) c.loop-t.t within
    (sym (c.has_ended.ensures r h) ∙ c.if-not-has_ended.true))

pub returns : goal.returns
returns c r h =
    let plan = c.args.world.now.plan in
    let all : length plan.threads ≤ c.loop-t.t =
    omega (arith, c.loop-t-test.false, c.loop-t.auto.t-end, c.threads-t-end.ensures.number) in
    sym (so_of_all (has_ended plan r) (length plan.threads)
    (λ t l. (c.loop-t.invariant r t h (omega (arith, l, all)))))
