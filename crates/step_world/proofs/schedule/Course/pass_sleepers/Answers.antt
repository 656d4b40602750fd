use Rattle.step_world.proofs.Scheduling.{sound_passed, course_passed}
use Rattle.step_world.proofs.schedule.Course.pass_sleepers.Goals as goal

pub invariant_of-self : goal.invariant_of-self
invariant_of-self c = sound_passed c.self.invariant c.pass.ensures.passed

pub returns-clause-turns : goal.returns-clause-turns
returns-clause-turns c =
    rw (← c.self.view_is) (λ n h. course_passed c.self.invariant c.pass.ensures.passed c.self.inside.idle n h)
