use Rattle.step_machine.proofs.Names.{refl}
use Rattle.step_machine.proofs.Kit.{aside_stays, read}
use Rattle.step_machine.proofs.Ending.{walk_ended}
use Rattle.step_machine.proofs.machine.Machine.end_walk.Goals as goal

pub returns-clause-step : goal.returns-clause-step
returns-clause-step c k s h lawful g =
    rw c.from.ensures
    (walk_ended c.index_mut.result.now h g (read h.threads g.thread c.from.ensures c.index_mut.ensures.value))

pub returns-clause-progress : goal.returns-clause-progress
returns-clause-progress c =
    let m = c.requires.may in
    rw c.from.ensures (aside_stays _ _ _ (read m.2.threads m.4.thread c.from.ensures c.index_mut.ensures.value) refl)
