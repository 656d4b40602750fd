use Rattle.step_machine.proofs.Names.{refl, sym, subst, IsSome, chan_queue, X, head_of, Record, CanStand}
use Rattle.step_machine.proofs.Kit.{aside_stays, read}
use Rattle.step_machine.proofs.Blocking.{FallsAsleep, RecordFallsAsleep, add_asks, stands_added}
use Rattle.step_machine.proofs.machine.Machine.add.Goals as goal

pub fall_asleep-requires-clause-own : goal.fall_asleep-requires-clause-own
fall_asleep-requires-clause-own c =
    let m = c.requires.may in
    let at = read m.2.threads m.4.1.thread c.from.ensures c.index_mut.ensures.value in
    subst (λ (r : Record). IsSome r.sleep_queue) (sym c.deref_mut.ensures.value) (add_asks m.2 m.3 m.4.1 at).0

pub fall_asleep-requires-clause-may : goal.fall_asleep-requires-clause-may
fall_asleep-requires-clause-may c =
    let m = c.requires.may in
    let at = read m.2.threads m.4.1.thread c.from.ensures c.index_mut.ensures.value in
    subst (λ (r : Record). CanStand r.thread (head_of (chan_queue c.args.c.0) c.args.self.now.sleepers))
    (sym c.deref_mut.ensures.value) (add_asks m.2 m.3 m.4.1 at).1

pub returns-clause-step : goal.returns-clause-step
returns-clause-step c x k s h lawful g =
    let q = chan_queue c.args.c.0 in
    let at = read h.threads g.thread c.from.ensures c.index_mut.ensures.value in
    let rec = c.deref_mut.ensures.value in
    rw c.from.ensures
    (stands_added h lawful g at
    (subst (λ (r : Record). FallsAsleep q X r c.args.self.now.sleepers c.fall_asleep.new.chain) rec
    c.fall_asleep.ensures.queues)
    (subst (λ (r : Record). RecordFallsAsleep q r c.fall_asleep.new.rec) rec c.fall_asleep.ensures.its_record))

pub returns-clause-progress : goal.returns-clause-progress
returns-clause-progress c =
    let m = c.requires.may in
    rw c.from.ensures (aside_stays _ _ _ (read m.2.threads m.4.1.thread c.from.ensures c.index_mut.ensures.value) refl)
