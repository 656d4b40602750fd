use Rattle.step_machine.proofs.Names
use Names.{refl, sym, ap, subst, IsSome, entered, owner_of, is_free, is_turnstile, lock_queue, side_of, Side, May}
use Names.{after_ready, head_of, Record, CanStand, RepresentsRecord, record_in}
use Rattle.std.proofs.Common.{◌∙◌}
use Rattle.prio_lending.specs.Hops.{walk_up}
use Rattle.step_machine.proofs.Kit.{aside_stays, read, word_read, possible_read}
use Rattle.step_machine.proofs.Blocking.{is_busy, has_turnstile, on_turnstile, on_sleep_queue, lends, queues_ready, record_ready, has_own, stands_free, seen_is, blocked_on_turnstile, FallsAsleep, RecordFallsAsleep, sleep_asks, blocked_on_sleep_queue}
use Rattle.step_machine.proofs.machine.Machine.block.Goals as goal

pub owner_of-owner-requires : goal.owner_of-owner-requires
owner_of-owner-requires c =
    let m = c.requires.may in
    let b = is_busy m.0 m.1 c.args.t.0 c.args.l.0 c.args.mode m.4.1.0 c.args.kind m.4.1.1.1.0 in
    possible_read m.2 m.3 b.lock c.from-i.ensures c.index.ensures

pub entered-requires-clause-well_formed : goal.entered-requires-clause-well_formed
entered-requires-clause-well_formed c =
    let m = c.requires.may in
    let b = is_busy m.0 m.1 c.args.t.0 c.args.l.0 c.args.mode m.4.1.0 c.args.kind m.4.1.1.1.0 in
    possible_read m.2 m.3 b.lock c.from-i.ensures c.index-2.ensures

pub entered-requires-clause-held : goal.entered-requires-clause-held
entered-requires-clause-held c =
    let m = c.requires.may in
    let b = is_busy m.0 m.1 c.args.t.0 c.args.l.0 c.args.mode m.4.1.0 c.args.kind m.4.1.1.1.0 in
    ap (λ v. is_free v.holder) (word_read c.from-i.ensures m.2.words b.lock c.index-2.ensures) ∙ b.held

-- 1. On a turnstile

pub enter-requires : goal.enter-requires
enter-requires c =
    let m = c.requires.may in
    let at = read m.2.threads m.4.1.1.0.thread c.from.ensures c.index_mut-thread.ensures.value in
    let g = subst (May m.0 (after_ready m.1 c.args.t.0))
    (on_turnstile m.0 m.1 c.args.t.0 c.args.l.0 c.args.mode m.4.1.0 c.args.kind (has_turnstile c.args.kind c.in-Mtx.is))
    m.4.1.1.1.0 in
    record {
      own = subst (λ (r : Record). IsSome r.turnstile) (sym c.deref_mut.ensures.value) (has_own m.2 m.3 m.4.1.1.0 at g);
      may = subst (λ (r : Record). CanStand r.thread (head_of (lock_queue c.args.l.0) c.args.self.now.chain))
          (sym c.deref_mut.ensures.value) (stands_free m.2 m.3 m.4.1.1.0 at g);
    }

pub returns-in-Mtx : goal.returns-in-Mtx
unfolding after_ready
returns-in-Mtx c = record {
  steps = λ x k s kind h lawful g.
      let t = c.args.t.0 in
      let l = c.args.l.0 in
      let b = is_busy k s t l c.args.mode x c.args.kind g.1.0 in
      let is = on_turnstile k s t l c.args.mode x c.args.kind (has_turnstile c.args.kind c.in-Mtx.is) in
      let e = subst (May k (after_ready s t)) is g.1.0 in
      let at = read h.threads g.0.thread c.from.ensures c.index_mut-thread.ensures.value in
      let word = word_read c.from-i.ensures h.words b.lock c.index.ensures in
      let word_then = word_read c.from-i.ensures h.words b.lock c.index-2.ensures in
      let owner = c.owner_of-owner.ensures ∙ ap (λ v. owner_of v.holder) word in
      let rec = subst (λ (r : Record). RepresentsRecord r (record_in (after_ready s t) t))
      (sym c.deref_mut.ensures.value) (record_ready h lawful g.0 at) in
      let queues = c.enter.ensures.queues k (after_ready s t) t c.args.mode x c.side_of-side.ensures owner
      (lends h lawful g.0 at e) rec (queues_ready h lawful g.0) in
      rw (c.from-i.ensures, c.from.ensures, is)
      (blocked_on_turnstile h lawful g.0 at e c.entered.result b
      (c.entered.ensures.word ∙ (λ i. entered (word_then i) (c.side_of-side.ensures i))) queues
      (c.enter.ensures.its_record (after_ready s t) t c.args.mode x rec) owner
      (c.walk_from-thread.ensures ∙ ap (walk_up l) (seen_is (λ o. o.0) c.owner_of-owner.result)));
  progress =
      let m = c.requires.may in
      let th = c.index_mut-thread.result.now in
      rw c.from.ensures
      (aside_stays _ _ _ (read m.2.threads m.4.1.1.0.thread c.from.ensures c.index_mut-thread.ensures.value) refl);
  books = record { log = refl; tables = refl };
}

-- 2. On a sleep queue

pub fall_asleep-requires-clause-own : goal.fall_asleep-requires-clause-own
fall_asleep-requires-clause-own c =
    let m = c.requires.may in
    let at = read m.2.threads m.4.1.1.0.thread c.from.ensures c.index_mut-thread.ensures.value in
    let g = subst (May m.0 (after_ready m.1 c.args.t.0))
    (on_sleep_queue m.0 m.1 c.args.t.0 c.args.l.0 c.args.mode m.4.1.0 c.args.kind (ap is_turnstile c.in-Sx.is))
    m.4.1.1.1.0 in
    subst (λ (r : Record). IsSome r.sleep_queue) (sym c.deref_mut-in-Sx.ensures.value)
    (sleep_asks m.2 m.3 m.4.1.1.0 at g).0

pub fall_asleep-requires-clause-may : goal.fall_asleep-requires-clause-may
fall_asleep-requires-clause-may c =
    let m = c.requires.may in
    let at = read m.2.threads m.4.1.1.0.thread c.from.ensures c.index_mut-thread.ensures.value in
    let g = subst (May m.0 (after_ready m.1 c.args.t.0))
    (on_sleep_queue m.0 m.1 c.args.t.0 c.args.l.0 c.args.mode m.4.1.0 c.args.kind (ap is_turnstile c.in-Sx.is))
    m.4.1.1.1.0 in
    subst (λ (r : Record). CanStand r.thread (head_of (lock_queue c.args.l.0) c.args.self.now.sleepers))
    (sym c.deref_mut-in-Sx.ensures.value) (sleep_asks m.2 m.3 m.4.1.1.0 at g).1

pub returns-in-Sx-clause-steps : goal.returns-in-Sx-clause-steps
returns-in-Sx-clause-steps c x k s kind h lawful g =
    let t = c.args.t.0 in
    let l = c.args.l.0 in
    let b = is_busy k s t l c.args.mode x c.args.kind g.1.0 in
    let is = on_sleep_queue k s t l c.args.mode x c.args.kind (ap is_turnstile c.in-Sx.is) in
    let e = subst (May k (after_ready s t)) is g.1.0 in
    let at = read h.threads g.0.thread c.from.ensures c.index_mut-thread.ensures.value in
    let word = word_read c.from-i.ensures h.words b.lock c.index-2.ensures in
    let rec = c.deref_mut-in-Sx.ensures.value in
    rw (c.from-i.ensures, c.from.ensures, is)
    (blocked_on_sleep_queue h lawful g.0 at e c.entered.result b
    (c.entered.ensures.word ∙ (λ i. entered (word i) (c.side_of-side.ensures i)))
    (subst (λ (r : Record). FallsAsleep (lock_queue l) (side_of c.args.mode) r c.args.self.now.sleepers
    c.fall_asleep.new.chain) rec (subst (λ (d : Side). FallsAsleep (lock_queue l) d c.deref_mut-in-Sx.result.now
    c.args.self.now.sleepers c.fall_asleep.new.chain) c.side_of-side.ensures c.fall_asleep.ensures.queues))
    (subst
    (λ (r : Record). RecordFallsAsleep (lock_queue l) r c.fall_asleep.new.rec) rec c.fall_asleep.ensures.its_record))

pub returns-in-Sx-clause-progress : goal.returns-in-Sx-clause-progress
returns-in-Sx-clause-progress c =
    let m = c.requires.may in
    rw c.from.ensures
    (aside_stays _ _ _ (read m.2.threads m.4.1.1.0.thread c.from.ensures c.index_mut-thread.ensures.value) refl)
