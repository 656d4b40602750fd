use Rattle.step_world.proofs.Scheduling.{sound_rest, sound_taken}
use Rattle.step_world.proofs.schedule.Course.take_first.Goals as goal

pub invariant_of-self : goal.invariant_of-self
invariant_of-self c = sound_rest c.self.invariant c.in-Some.ensures.cases.0

pub invariant_of-self-in-None : goal.invariant_of-self-in-None
invariant_of-self-in-None c =
    sound_taken {old = c.self.inside.round} {new = c.take_first.new.self} c.take_first.result c.self.invariant
    c.take_first.ensures.none c.take_first.ensures.some
