use Rattle.step_world.proofs.Scheduling.{course_start, sound_start}
use Rattle.step_world.proofs.schedule.Course.make.Goals as goal

pub invariant_of-result : goal.invariant_of-result
invariant_of-result c =
    let world = c.in_ok-world.ensures in
    sound_start c.args.plan.now c.none.result.bits c.requires.proper world.plan world.begins c.as_slice.ensures
    c.none.ensures c.none-2.ensures c.going_in-going.ensures

pub returns-clause-begins : goal.returns-clause-begins
returns-clause-begins c =
    course_start c.args.plan.now c.none.result.bits c.in_ok-world.ensures.begins c.as_slice.ensures c.none.ensures
