use Rattle.step_world.proofs.Names.{refl, sym}
use Rattle.step_world.proofs.Scheduling.{members_are, sound_round}
use Rattle.step_world.proofs.schedule.Course.begin_round.Goals as goal

pub invariant_of-self : goal.invariant_of-self
invariant_of-self c = sound_round c.self.invariant

pub returns-clause-course : goal.returns-clause-course
returns-clause-course c =
    rw (← c.self.view_is)
    (λ k h. record { shows = h.shows; coming = sym (members_are c.self.invariant k.run h.shows); idle = refl })
