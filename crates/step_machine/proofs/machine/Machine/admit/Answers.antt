use Rattle.step_machine.proofs.Names.{refl}
use Rattle.step_machine.proofs.Kit.{aside_stays, read}
use Rattle.step_machine.proofs.Ordering.{admitted_in_graph, orders_behind, admission_shown}
use Rattle.step_machine.proofs.machine.Machine.admit.Goals as goal

pub admit-requires-clause-admitted : goal.admit-requires-clause-admitted
admit-requires-clause-admitted c =
    let m = c.requires.may in
    admitted_in_graph m.2.orders m.4.1 m.4.2.admitted

pub returns-clause-step : goal.returns-clause-step
returns-clause-step c l k s same h lawful g =
    let th = c.index_mut.result.now in
    let at = read h.threads g.free.thread c.from.ensures c.index_mut.ensures.value in
    rw c.from.ensures
    (admission_shown th h g at (orders_behind h.orders same c.admit.ensures.classes c.admit.ensures.edges))

pub returns-clause-progress : goal.returns-clause-progress
returns-clause-progress c =
    let m = c.requires.may in
    rw c.from.ensures
    (aside_stays _ _ _ (read m.2.threads m.4.2.free.thread c.from.ensures c.index_mut.ensures.value) refl)
