use Rattle.step_world.proofs.Names
use Names.{ℕ, Result, Ok, Err, IfOk, sym, ap, subst, IsProper, start_course, course_after, outcome_of, scheduled_run}
use Names.{HasLegalHistory, Plan, outcome_seen, Outcome, outcomes_are_legal, Course, IsCourse}
use Rattle.std.proofs.Common.{◌≡◌, ◌∙◌}
use Rattle.lock_model.specs.Text as text
use Rattle.lock_state.specs.Run as run
use Rattle.step_world.proofs.schedule.run_schedule.Goals as goal
use Rattle.step_world.proofs.schedule.run_schedule.Goals.{After-into_outcome}

-- what is promised of each course that the last one is holds of the definition's
of_course : {E : Type 0} (r : Result Outcome E) (course : Course) (plan : Plan) (chains : ℕ) (k : run.Course)
    → course.world.plan ≡ plan → course.world.chains ≡ chains → IsCourse course k
    → IfOk r
    (λ o. (j : run.Course) → IsCourse course j → outcome_seen o ≡ outcome_of course.world.plan course.world.chains j)
    → IfOk r (λ o. outcome_seen o ≡ outcome_of plan chains k)
of_course (Ok o) course plan chains k p n h all = all k h ∙ ap (λ (q : Plan). outcome_of q course.world.chains k) p
    ∙ ap (λ (m : ℕ). outcome_of plan m k) n
of_course (Err e) course plan chains k p n h all = tt

-- an outcome of the definition has a legal history
legal : {E : Type 0} (r : Result Outcome E) (plan : Plan) (chains turns : ℕ) → IsProper plan → IfOk r
    (λ o. outcome_seen o ≡ scheduled_run plan chains turns) → IfOk r (λ o. HasLegalHistory plan (outcome_seen o))
legal (Ok o) plan chains turns proper e =
    subst (λ (x : text.Outcome). HasLegalHistory plan x) (sym e) (outcomes_are_legal plan chains turns proper)
legal (Err e) plan chains turns proper h = tt

outcome : (c : After-into_outcome)
    → IfOk c.into_outcome.result (λ o. outcome_seen o ≡ scheduled_run c.args.plan.now c.args.chains c.args.turns)
unfolding scheduled_run
outcome c =
    let made = c.make_turns.ensures in
    let begins = c.in_ok-course.ensures in
    let plan = c.args.plan.now in
    let turns = c.args.turns in
    let behind = made.turns
    (subst (λ (p : Plan). IsCourse c.in_ok-course.course (start_course p)) (sym begins.plan) begins.begins) in
    of_course c.into_outcome.result c.make_turns.new.course plan c.args.chains (course_after plan turns)
    (made.plan ∙ begins.plan) (made.chains ∙ begins.chains)
    (subst (λ (p : Plan). IsCourse c.make_turns.new.course (course_after p turns)) begins.plan behind)
    c.into_outcome.ensures

pub returns-clause-outcome : goal.returns-clause-outcome
returns-clause-outcome c = outcome c

pub returns-clause-legal : goal.returns-clause-legal
returns-clause-legal c =
    legal c.into_outcome.result c.args.plan.now c.args.chains c.args.turns c.requires.proper (outcome c)
