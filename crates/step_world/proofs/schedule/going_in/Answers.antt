use Rattle.step_world.proofs.Names.{ℕ, Bool, not, nat_lt, length, sym, ap, arith, le-ltb, has_ended}
use Rattle.std.proofs.Common.{◌≡◌, ◌&&◌, ◌||◌, ◌==◌, ◌∙◌}
use Rattle.step_world.proofs.Scheduling.{goes_more, goes_no_more}
use Rattle.step_world.proofs.schedule.going_in.Goals as goal
use Rattle.step_world.proofs.schedule.going_in.Goals.{then-not-has_ended, else-not-has_ended}

pub loop-t-init : goal.loop-t-init
loop-t-init c = λ r u h. c.none-going.ensures u
    ∙ sym (ap (λ (b : Bool). b && not (has_ended c.args.world.now.plan r u)) (le-ltb u 0 (omega arith)))

pub loop-t-preserved : goal.loop-t-preserved
loop-t-preserved c =
    let plan = c.args.world.now.plan in
    let t = c.loop-t.t in
    let i = c.loop-t.invariant in
    elim c.if-not-has_ended.branch [
      | then-not-has_ended b ↦ rw b.going-is (λ r u h.
          b.put.ensures u ∙ ap (λ (x : Bool). t == u || x) (i r u h)
          ∙ goes_more (has_ended plan r) t u (sym (c.has_ended.ensures r h) ∙ b.if-not-has_ended.true))
      | else-not-has_ended b ↦ rw b.going-is (λ r u h.
          i r u h ∙ goes_no_more (has_ended plan r) t u (sym (c.has_ended.ensures r h) ∙ b.if-not-has_ended.false))
    ]

pub returns : goal.returns
returns c =
    let plan = c.args.world.now.plan in
    let all : c.loop-t.t ≡ length plan.threads =
    omega (arith, c.loop-t-test.false, c.loop-t.auto.t-end, c.threads-t-end.ensures.number) in
    λ r u h. c.loop-t.invariant r u h ∙ ap (λ (n : ℕ). nat_lt u n && not (has_ended plan r u)) all
