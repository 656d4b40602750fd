use Rattle.step_world.proofs.Names.{ℕ, start_course, course_after, IsCourse}
use Rattle.std.proofs.Common.{◌≡◌, ◌+◌, ◌≤◌}
use Rattle.step_world.proofs.schedule.make_turns.Given as goal

-- the course is the definition's behind as many turns as were made
abbrev pub invariant-loop-left : goal.invariant-loop-left
invariant-loop-left l = record {
  within : l.left ≤ l.turns;
  plan : l.course.world.plan ≡ l.initial.course.world.plan;
  chains : l.course.world.chains ≡ l.initial.course.world.chains;
  turns : (n : ℕ) → n + l.left ≡ l.turns → IsCourse l.initial.course (start_course l.initial.course.world.plan)
      → IsCourse l.course (course_after l.initial.course.world.plan n);
}

abbrev pub decreases-loop-left : goal.decreases-loop-left
decreases-loop-left l = l.left
