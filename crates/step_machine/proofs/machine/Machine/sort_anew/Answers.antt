use Rattle.step_machine.proofs.Names.{true, arith, refl, sym, subst, IsSomeAnd, lock_queue, head_of, waits, Record}
use Rattle.step_machine.proofs.Names.{RepresentsRecord, record_in, waits_there}
use Rattle.std.proofs.Common.{◌≡◌}
use Rattle.step_machine.proofs.Kit.{read, record_of, aside_stays}
use Rattle.step_machine.proofs.Walking.{is_waiter, shift_shown}
use Rattle.step_machine.proofs.machine.Machine.sort_anew.Goals as goal

pub index-sorted-requires : goal.index-sorted-requires
index-sorted-requires c =
    let x = c.requires.may in
    omega (arith, c.from.ensures, is_waiter x.2 x.3 x.4.0, x.2.threads.threads, c.args.self.now.threads.ok.0)

pub sort_anew-walk-requires-clause-waits : goal.sort_anew-walk-requires-clause-waits
sort_anew-walk-requires-clause-waits c =
    let x = c.requires.may in
    let there = read x.2.threads (is_waiter x.2 x.3 x.4.0) c.from.ensures c.index-sorted.ensures in
    subst (λ (r : Record). IsSomeAnd (head_of (lock_queue c.args.l.0) c.args.self.now.chain)
    (λ b. waits r.thread b.contents ≡ true)) (sym c.deref.ensures)
    (waits_there x.0 x.1 c.args.t.0 c.args.o.0 c.args.l.0 x.3 x.4.0 x.2.queues
    (record_of (x.2.threads.thread c.args.o.0 c.index-sorted.result.now there)))

pub returns-clause-step : goal.returns-clause-step
returns-clause-step c d s h lawful g =
    let at = read h.threads g.thread c.from-2.ensures c.index_mut.ensures.value in
    let there = read h.threads (is_waiter h lawful g) c.from.ensures c.index-sorted.ensures in
    let rec = subst (λ (r : Record). RepresentsRecord r (record_in s c.args.o.0)) (sym c.deref.ensures)
    (record_of (h.threads.thread c.args.o.0 c.index-sorted.result.now there)) in
    rw c.from-2.ensures (shift_shown h lawful g c.sort_anew-walk.result at
    (c.sort_anew-walk.ensures.queues d s c.args.t.0 c.args.o.0 lawful g h.queues rec)
    (c.sort_anew-walk.ensures.walk d s c.args.t.0 c.args.o.0 lawful g h.queues))

pub returns-clause-progress : goal.returns-clause-progress
returns-clause-progress c =
    let x = c.requires.may in
    rw c.from-2.ensures
    (aside_stays _ _ _ (read x.2.threads x.4.0.thread c.from-2.ensures c.index_mut.ensures.value) refl)
