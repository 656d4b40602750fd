use Rattle.step_world.proofs.Names.{ℕ, true, not, refl, subst, sym, ap, arith, Plan, go_on, is_over, course_after}
use Rattle.step_world.proofs.Names.{IsCourse, none_made, one_more, stays_over}
use Rattle.std.proofs.Common.{◌≡◌, ◌+◌, ◌-◌, ◌≤◌, ◌∙◌}
use Rattle.lock_state.specs.Run as run
use Rattle.step_world.proofs.schedule.make_turns.Goals as goal

pub loop-left-init : goal.loop-left-init
loop-left-init c = record {
  within = omega arith;
  plan = refl;
  chains = refl;
  turns = λ n e h. let none : 0 ≡ n = omega (arith, e) in
      subst (λ (m : ℕ). IsCourse c.args.course.now (course_after c.args.course.now.world.plan m)) none
      (subst (IsCourse c.args.course.now) (sym (none_made c.args.course.now.world.plan)) h);
}

pub loop-left-preserved : goal.loop-left-preserved
loop-left-preserved c =
    let i = c.loop-left.invariant in
    let plan = c.args.course.now.world.plan in
    let passed = c.pass_sleepers-left.result in
    record {
      within = omega (arith, i.within);
      plan = c.pass_sleepers-left.ensures.plan ∙ c.go_on.ensures.plan ∙ i.plan;
      chains = c.pass_sleepers-left.ensures.chains ∙ c.go_on.ensures.chains ∙ i.chains;
      turns = λ n e h.
          -- so many were made before
          let m : ℕ = n - (passed + 1) in
          let k : run.Course = course_after plan m in
          let before : m + c.loop-left.left ≡ c.args.turns =
          omega (arith, e, i.within, c.pass_sleepers-left.ensures.few, c.loop-left-test.true) in
          let one : IsCourse c.go_on.new.self (course_after plan (m + 1)) =
          subst (IsCourse c.go_on.new.self) (ap (λ (p : Plan). go_on p k) i.plan ∙ sym (one_more plan m))
          (c.go_on.ensures.course k (i.turns m before h)) in
          let same : c.go_on.new.self.world.plan ≡ plan = c.go_on.ensures.plan ∙ i.plan in
          let all : m + 1 + passed ≡ n =
          omega (arith, e, i.within, c.pass_sleepers-left.ensures.few, c.loop-left-test.true) in
          let behind = c.pass_sleepers-left.ensures.turns (m + 1)
          (subst (λ (p : Plan). IsCourse c.go_on.new.self (course_after p (m + 1))) (sym same) one) in
          subst (λ (j : ℕ). IsCourse c.pass_sleepers-left.new.self (course_after plan j)) all
          (subst (λ (p : Plan). IsCourse c.pass_sleepers-left.new.self (course_after p (m + 1 + passed))) same behind);
    }

pub returns-else-is_some-clause-turns : goal.returns-else-is_some-clause-turns
returns-else-is_some-clause-turns c h =
    let i = c.loop-left.invariant in
    let n : ℕ = c.args.turns - c.loop-left.left in
    let made : n + c.loop-left.left ≡ c.args.turns = omega (arith, i.within) in
    let plan = c.args.course.now.world.plan in
    let k : run.Course = course_after plan n in
    let over : is_over plan k ≡ true =
    sym (ap (λ (p : Plan). is_over p k) i.plan) ∙ sym (c.go_on.ensures.over k (i.turns n made h))
    ∙ ap not (sym c.is_some.ensures ∙ c.if-is_some.false) in
    let one : n ≤ n + 1 = omega arith in
    let all : n ≤ c.args.turns = omega (arith, made) in
    subst (IsCourse c.go_on.new.self)
    (ap (λ (p : Plan). go_on p k) i.plan ∙ sym (one_more plan n) ∙ stays_over plan n (n + 1) one over
    ∙ sym (stays_over plan n c.args.turns all over))
    (c.go_on.ensures.course k (i.turns n made h))
