use Rattle.std.proofs.Common.{◌≡◌, ℕ, length, ap, subst, sym, ◌∙◌}
use Rattle.lock_history.specs.Outcomes.{outcome_seen}
use Rattle.run_laws.proofs.LegalRuns.{outcomes_are_legal}
use Rattle.lock_model.specs.Text as text
use Rattle.lock_model.specs.declared.plan.Plan.{Plan}
use Rattle.lock_state.specs.Run as run
use Rattle.lock_state.specs.Run.{course_after, outcome_of, scheduled_run, start_course, HasLegalHistory}
use Rattle.step_world.specs.Courses.{IsCourse}
use Rattle.run_rows.proofs.Turns.{whole_run}
use Rattle.run_rows.proofs.rows.rows_of.Goals as goal

pub make_run-requires-clause-begins : goal.make_run-requires-clause-begins
make_run-requires-clause-begins c =
    let begins = c.in_ok-course.ensures in
    subst (λ (p : Plan). IsCourse c.in_ok-course.course (start_course p)) (sym begins.plan) begins.begins

pub returns : goal.returns
unfolding scheduled_run
returns c =
    let plan = c.args.plan.now in
    let chains = c.args.chains in
    let turns = c.args.turns in
    let begins = c.in_ok-course.ensures in
    let made = rw (begins.plan, begins.chains) at c.in_ok-made.ensures in
    let at = made.at in
    let k : run.Course = course_after plan (length c.in_ok-made.made.items) in
    let outcome : outcome_seen c.in_ok-into_outcome.field-0 ≡ scheduled_run plan chains turns =
    c.in_ok-into_outcome.ensures k at.course_is ∙ ap (λ (p : Plan). outcome_of p c.make_run.new.course.world.chains k)
    at.plan_is ∙ ap (λ (m : ℕ). outcome_of plan m k) at.chains_are
    ∙ ap (outcome_of plan chains)
    (whole_run plan chains turns c.in_ok-made.made.items c.make_run.new.course c.in_ok-made.columns made) in
    rw (c.from_vec.ensures, c.from_vec-2.ensures, c.from_vec-3.ensures) (record {
      few = made.few;
      ends = made.ends;
      each = made.each;
      columns = at.tells;
      outcome = outcome;
      legal = subst (λ (x : text.Outcome). HasLegalHistory plan x) (sym outcome)
          (outcomes_are_legal plan chains turns c.requires.proper);
    })
