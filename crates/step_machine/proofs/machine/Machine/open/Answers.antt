use Rattle.step_machine.proofs.Names
use Names.{true, refl, sym, ap, subst, IsSomeAnd, same_Some, lock_queue, is_turnstile, side_woken, Side, May, head_of}
use Names.{Record, CanOpen, RepresentsRecord, record_in, can_open, can_release, somebody_sleeps, Thread, with_released}
use Rattle.std.proofs.Common.{◌≡◌, ◌∙◌}
use Rattle.step_machine.proofs.Kit.{aside_changed, read, word_read, possible_read, record_of}
use Rattle.step_machine.proofs.Blocking.{has_turnstile}
use Rattle.step_machine.proofs.Opening.{releases, by_turnstile, by_sleep_queue, word_last, word_held, word_opens, side_is, TakesOff, Takes, turnstile_opened, sleep_queue_opened, put_down_progress}
use Rattle.step_machine.proofs.machine.Machine.open.Goals as goal

pub opened-word-requires-clause-well_formed : goal.opened-word-requires-clause-well_formed
opened-word-requires-clause-well_formed c =
    let m = c.requires.may in
    let g = releases m.0 m.1 c.args.t.0 c.args.l.0 m.4.1.0 c.args.kind m.4.1.1 in
    possible_read m.2 m.3 g.lock c.from-i.ensures c.index.ensures

pub opened-word-requires-clause-last : goal.opened-word-requires-clause-last
opened-word-requires-clause-last c =
    let m = c.requires.may in
    let g = releases m.0 m.1 c.args.t.0 c.args.l.0 m.4.1.0 c.args.kind m.4.1.1 in
    word_last m.3 g m.4.0 c.index.result.now (word_read c.from-i.ensures m.2.words g.lock c.index.ensures)

pub opened-word-requires-clause-held : goal.opened-word-requires-clause-held
opened-word-requires-clause-held c =
    let m = c.requires.may in
    let g = releases m.0 m.1 c.args.t.0 c.args.l.0 m.4.1.0 c.args.kind m.4.1.1 in
    word_held m.3 g m.4.0 c.index.result.now (word_read c.from-i.ensures m.2.words g.lock c.index.ensures)

-- 1. Waiters are shown

pub returns-in_default-clause-step : goal.returns-in_default-clause-step
returns-in_default-clause-step c mode k s kind h lawful may =
    let g = releases k s c.args.t.0 c.args.l.0 mode c.args.kind may in
    let word = word_read c.from-i.ensures h.words g.lock c.index.ensures in
    absurd
    (let e = sym c.in_default.is ∙ side_is lawful g kind c.index.result.now word c.opened-word.ensures.side in cc)

pub returns-in_default-clause-progress : goal.returns-in_default-clause-progress
returns-in_default-clause-progress c =
    let m = c.requires.may in
    let g = releases m.0 m.1 c.args.t.0 c.args.l.0 m.4.1.0 c.args.kind m.4.1.1 in
    let word = word_read c.from-i.ensures m.2.words g.lock c.index.ensures in
    absurd (let e = sym c.in_default.is ∙ side_is m.3 g m.4.0 c.index.result.now word c.opened-word.ensures.side in cc)

-- 2. What it asks of the objects

pub open-requires : goal.open-requires
open-requires c =
    let m = c.requires.may in
    let t = c.args.t.0 in
    let l = c.args.l.0 in
    let th = c.index_mut-thread.result.now in
    let g = releases m.0 m.1 t l m.4.1.0 c.args.kind m.4.1.1 in
    let may = subst (May m.0 m.1)
    (by_turnstile t l m.4.1.0 c.args.kind (has_turnstile c.args.kind c.in-Mtx.is)) m.4.1.1 in
    let at = read m.2.threads g.thread c.from.ensures c.index_mut-thread.ensures.value in
    let word = word_read c.from-i.ensures m.2.words g.lock c.index.ensures in
    let side : c.in-Some.side ≡ side_woken (m.0.kind l) (m.1.word l) = same_Some c.in-Some.side _
    (sym c.in-Some.is ∙ side_is m.3 g m.4.0 c.index.result.now word c.opened-word.ensures.side) in
    let rec : c.deref_mut.result.now ≡ th.record.value = c.deref_mut.ensures.value
    ∙ ap (λ (o : Thread). o.record.value) c.put_down.ensures.others in
    subst (λ (d : Side). IsSomeAnd (head_of (lock_queue l) c.args.self.now.chain) (CanOpen l d c.deref_mut.result.now))
    (sym side)
    (subst (λ (r : Record). IsSomeAnd (head_of (lock_queue l) c.args.self.now.chain)
    (CanOpen l (side_woken (m.0.kind l) (m.1.word l)) r)) (sym rec)
    (can_open m.0 m.1 t l m.4.1.0 m.3 may (record_of (m.2.threads.thread t th at)) m.2.queues))

pub take_off-requires : goal.take_off-requires
take_off-requires c =
    let m = c.requires.may in
    let may = subst (May m.0 m.1)
    (by_sleep_queue c.args.t.0 c.args.l.0 m.4.1.0 c.args.kind (ap is_turnstile c.in-Sx.is)) m.4.1.1 in
    somebody_sleeps m.0 m.1 (lock_queue c.args.l.0) m.3 m.2.sleepers may.sleeps

-- 3. What it makes

pub returns-in-Mtx : goal.returns-in-Mtx
returns-in-Mtx c = record {
  step = λ mode k s kind h lawful may.
      let t = c.args.t.0 in
      let l = c.args.l.0 in
      let th = c.index_mut-thread.result.now in
      let g = releases k s t l mode c.args.kind may in
      let is = by_turnstile t l mode c.args.kind (has_turnstile c.args.kind c.in-Mtx.is) in
      let e = subst (May k s) is may in
      let at = read h.threads g.thread c.from.ensures c.index_mut-thread.ensures.value in
      let word = word_read c.from-i.ensures h.words g.lock c.index.ensures in
      let side : c.in-Some.side ≡ side_woken (k.kind l) (s.word l) = same_Some c.in-Some.side _
      (sym c.in-Some.is ∙ side_is lawful g kind c.index.result.now word c.opened-word.ensures.side) in
      let same : c.deref_mut.result.now ≡ th.record.value = c.deref_mut.ensures.value
      ∙ ap (λ (o : Thread). o.record.value) c.put_down.ensures.others in
      let rec = subst (λ (r : Record). RepresentsRecord r (record_in s t)) (sym same)
      (record_of (h.threads.thread t th at)) in
      let can = can_release k s t l mode lawful e in
      rw (c.from-i.ensures, c.from.ensures, is)
      (turnstile_opened h at e c.open.result c.opened-word.result.0 g
      (word_opens lawful g kind c.index.result.now word c.opened-word.result.0 c.opened-word.ensures.word)
      (c.open.ensures.queues k s t side can rec h.queues) (c.open.ensures.its_record k s t can rec)
      (c.open.ensures.marks k s t side can rec h.queues)
      (record { same = c.put_down.ensures.others; items = c.put_down.ensures.held; room = c.put_down.ensures.room }));
  progress =
      let m = c.requires.may in
      let g = releases m.0 m.1 c.args.t.0 c.args.l.0 m.4.1.0 c.args.kind m.4.1.1 in
      let th = c.index_mut-thread.result.now in
      let at = read m.2.threads g.thread c.from.ensures c.index_mut-thread.ensures.value in
      rw c.from.ensures (aside_changed _ _ _ (with_released c.args.l.0) at
      (put_down_progress c.args.l.0 th c.put_down.ensures.others c.put_down.ensures.held c.put_down.ensures.left));
  books = record { log = refl; tables = refl };
}

pub returns-in-Sx-clause-step : goal.returns-in-Sx-clause-step
returns-in-Sx-clause-step c mode k s kind h lawful may =
    let t = c.args.t.0 in
    let l = c.args.l.0 in
    let q = lock_queue l in
    let g = releases k s t l mode c.args.kind may in
    let is = by_sleep_queue t l mode c.args.kind (ap is_turnstile c.in-Sx.is) in
    let e = subst (May k s) is may in
    let at = read h.threads g.thread c.from.ensures c.index_mut-thread.ensures.value in
    let word = word_read c.from-i.ensures h.words g.lock c.index.ensures in
    let side : c.in-Some.side ≡ side_woken (k.kind l) (s.word l) = same_Some c.in-Some.side _
    (sym c.in-Some.is ∙ side_is lawful g kind c.index.result.now word c.opened-word.ensures.side) in
    let off = c.take_off in
    rw (c.from-i.ensures, c.from.ensures, is)
    (sleep_queue_opened h at lawful e off.result c.opened-word.result.0 g
    (word_opens lawful g kind c.index.result.now word c.opened-word.result.0 c.opened-word.ensures.word)
    (subst (λ (d : Side). TakesOff q d true c.args.self.now.sleepers off.new.chain) side off.ensures.queues)
    (subst (λ (d : Side). Takes q d true c.args.self.now.sleepers off.result) side off.ensures.marks)
    (ap (λ (o : Thread). o.record.value) c.put_down.ensures.others)
    (record { same = c.put_down.ensures.others; items = c.put_down.ensures.held; room = c.put_down.ensures.room }))

pub returns-in-Sx-clause-progress : goal.returns-in-Sx-clause-progress
returns-in-Sx-clause-progress c =
    let m = c.requires.may in
    let g = releases m.0 m.1 c.args.t.0 c.args.l.0 m.4.1.0 c.args.kind m.4.1.1 in
    let th = c.index_mut-thread.result.now in
    let at = read m.2.threads g.thread c.from.ensures c.index_mut-thread.ensures.value in
    rw c.from.ensures (aside_changed _ _ _ (with_released c.args.l.0) at
    (put_down_progress c.args.l.0 th c.put_down.ensures.others c.put_down.ensures.held c.put_down.ensures.left))
