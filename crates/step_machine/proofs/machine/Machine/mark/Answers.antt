use Rattle.step_machine.proofs.Names.{arith, refl, ap, subst, sym, Record, IsAway, record_woken, node_of}
use Rattle.std.proofs.Common.{◌∙◌}
use Rattle.step_machine.proofs.Kit.{read, aside_stays}
use Rattle.step_machine.proofs.Marking.{is_thread, has_object, read_behind, away, own, marked_shown, some_marked, asides_stay}
use Rattle.step_machine.proofs.machine.Machine.mark.Goals as goal

pub index_mut-woken-requires : goal.index_mut-woken-requires
index_mut-woken-requires c =
    let x = c.requires.may in
    let at = read x.2.threads x.4.2.thread c.from.ensures c.index_mut-thread.ensures.value in
    omega (
      arith,
      c.from-in-Some.ensures ∙ c.thread.ensures,
      is_thread x.2 x.3 x.4.2 at c.in-Some.ensures.some,
      x.2.threads.threads,
      c.args.self.now.threads.ok.0,
    )

pub wake-requires-clause-away : goal.wake-requires-clause-away
wake-requires-clause-away c =
    let x = c.requires.may in
    let first = c.in-Some.ensures.some in
    let at = read x.2.threads x.4.2.thread c.from.ensures c.index_mut-thread.ensures.value in
    let there = read_behind x.2 x.3 x.4.2 at first c.from-in-Some.result c.from.result c.index_mut-woken.result.now
    c.from.ensures (c.from-in-Some.ensures ∙ c.thread.ensures) c.index_mut-woken.ensures.value in
    subst (IsAway c.in-Some.node) (sym c.deref_mut.ensures.value) (away x.2 x.3 x.4.2 at first there)

pub wake-requires-clause-holds : goal.wake-requires-clause-holds
wake-requires-clause-holds c =
    let x = c.requires.may in
    let at = read x.2.threads x.4.2.thread c.from.ensures c.index_mut-thread.ensures.value in
    has_object x.2 x.3 x.4.2 at c.in-Some.ensures.some

pub wake-requires-clause-own : goal.wake-requires-clause-own
wake-requires-clause-own c =
    let x = c.requires.may in
    let first = c.in-Some.ensures.some in
    let at = read x.2.threads x.4.2.thread c.from.ensures c.index_mut-thread.ensures.value in
    let there = read_behind x.2 x.3 x.4.2 at first c.from-in-Some.result c.from.result c.index_mut-woken.result.now
    c.from.ensures (c.from-in-Some.ensures ∙ c.thread.ensures) c.index_mut-woken.ensures.value in
    own x.2 x.3 x.4.2 at first there ∙ ap (λ (r : Record). r.thread) (sym c.deref_mut.ensures.value)

pub returns-in-Some-clause-step : goal.returns-in-Some-clause-step
returns-in-Some-clause-step c k ks d s h lawful g =
    let first = c.in-Some.ensures.some in
    let at = read h.threads g.thread c.from.ensures c.index_mut-thread.ensures.value in
    let number = c.from-in-Some.ensures ∙ c.thread.ensures in
    let there = read_behind h lawful g at first c.from-in-Some.result c.from.result c.index_mut-woken.result.now
    c.from.ensures number c.index_mut-woken.ensures.value in
    let its_record = c.wake.ensures ∙ ap (record_woken c.in-Some.node) c.deref_mut.ensures.value in
    rw (c.from.ensures, its_record, number) (marked_shown h lawful g at first there)

pub returns-in-Some-clause-progress : goal.returns-in-Some-clause-progress
returns-in-Some-clause-progress c =
    let x = c.requires.may in
    let first = c.in-Some.ensures.some in
    let at = read x.2.threads x.4.2.thread c.from.ensures c.index_mut-thread.ensures.value in
    let number = c.from-in-Some.ensures ∙ c.thread.ensures in
    let there = read_behind x.2 x.3 x.4.2 at first c.from-in-Some.result c.from.result c.index_mut-woken.result.now
    c.from.ensures number c.index_mut-woken.ensures.value in
    rw (c.from.ensures, number)
    (asides_stay c.args.self.now c.args.t.0 (node_of c.in-Some.node).place.thread c.index_mut-thread.result.now
    c.index_mut-woken.result.now c.pop.new.self c.wake.new.rec c.index_mut-thread.result.now.marked_from at there)

pub returns-in_default-clause-step : goal.returns-in_default-clause-step
returns-in_default-clause-step c k ks d s h lawful g =
    let at = read h.threads g.thread c.from.ensures c.index_mut-thread.ensures.value in
    absurd (some_marked c.index_mut-thread.result.now h g at c.in_default.ensures.none.0)

pub returns-in_default-clause-progress : goal.returns-in_default-clause-progress
returns-in_default-clause-progress c =
    let x = c.requires.may in
    rw c.from.ensures
    (aside_stays _ _ _ (read x.2.threads x.4.2.thread c.from.ensures c.index_mut-thread.ensures.value) refl)
