use Rattle.step_machine.proofs.Names.{refl, ap, chan_queue, bits_of_threads, somebody_sleeps}
use Rattle.std.proofs.Common.{◌∙◌}
use Rattle.step_machine.proofs.Kit.{aside_stays, read}
use Rattle.step_machine.proofs.Opening.{woken_are, bits_fit, woken_shown}
use Rattle.step_machine.proofs.machine.Machine.wake.Goals as goal

pub take_off-sleepers-requires : goal.take_off-sleepers-requires
take_off-sleepers-requires c =
    let m = c.requires.may in
    somebody_sleeps m.0 m.1 (chan_queue c.args.c.0) m.3 m.2.sleepers refl

pub bits_of-woken-requires : goal.bits_of-woken-requires
bits_of-woken-requires c =
    let m = c.requires.may in
    bits_fit c.args.c.0 c.args.all m.2 m.3 c.take_off-sleepers.result c.take_off-sleepers.ensures.marks

pub returns-clause-step : goal.returns-clause-step
returns-clause-step c k s h lawful g =
    let at = read h.threads g.thread c.from.ensures c.index_mut-thread.ensures.value in
    rw c.from.ensures (woken_shown c.args.c.0 c.args.all h lawful g at c.take_off-sleepers.result
    c.take_off-sleepers.ensures.queues c.take_off-sleepers.ensures.marks)

pub returns-clause-woken : goal.returns-clause-woken
returns-clause-woken c k s h lawful =
    c.bits_of-woken.ensures ∙ ap bits_of_threads
    (woken_are c.args.c.0 c.args.all h lawful c.take_off-sleepers.result c.take_off-sleepers.ensures.marks)

pub returns-clause-progress : goal.returns-clause-progress
returns-clause-progress c =
    let m = c.requires.may in
    rw c.from.ensures
    (aside_stays _ _ _ (read m.2.threads m.4.thread c.from.ensures c.index_mut-thread.ensures.value) refl)
