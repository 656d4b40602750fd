-- A thread gains a lock whose word admits it, or claims one whose word shows waiters, and puts one down that it holds.
use Rattle.step_machine.proofs.Names
use Names.{ℕ, Bool, true, false, List, [], length, slice_get, Option, Some, None, is_some, refl, sym, ap, subst, arith}
use Names.{IfSome, with_value, with_item, vec_capacity, Lawful, WordsMatchHolders, shares, effective_of, MayGain}
use Names.{after_gain, MayDrop, after_drop, MayClaim, after_claim, loan_of, hold_in, without_lock, Config, State, Loan}
use Names.{put, put_at, Hold, NotHeld, Holds, word_of, sharers, admits, lock_queue, least_of, Kind, Mtx, Rw, Sx, Mode}
use Names.{Excl, Shared, QueueName, LockNo, Held, put_same, put_other, put_at_other, sum_below-most, owner_is}
use Names.{has_sharer, IsHeldIn, Turnstile, Record, holds_of, RepresentsQueues, RepresentsRecord, queue_in, record_in}
use Names.{once_push, once_without, column_push, column_without, Machine, Thread, Represents, RepresentsThread}
use Names.{thread_in, thread_of, HoldsFew, progress_of, mode_left, with_released}
use Rattle.std.proofs.Common.{◌≡◌, ◌<◌, ◌≤◌, ◌∷◌, ◌++◌, ◌∙◌}
use Rattle.std.specs.Prelude.{option_map}
use Rattle.lock_model.specs.Words as words
use Rattle.lock_words.specs.Views as views
use Rattle.step_machine.proofs.Kit.{OthersStay, thread_changed, word_changed, record_of, shown_by}

-- 1. A gain, and a claim

-- there is room for one lock more
pub room_left : (m : Machine) {c : Config} {s : State} (t : ℕ) (th : Thread) → slice_get m.threads.items t ≡ Some th
    → HoldsFew m t → RepresentsThread th c s t → length th.held.items < vec_capacity th.held
room_left m t th at few h =
    let fewer : length th.held.items
    < 8 = subst (λ o. IfSome (option_map progress_of o) (λ a. length a.held < 8)) at few in
    omega (arith, h.held.room)

-- a word that admits a thread has room for one holder more: no more threads share it than there are
module _ (c : Config) (s : State) (l : ℕ) (lawful : Lawful c s) (few : c.threads ≤ 63) where
  few_share : sharers (s.word l).holder ≤ 63
  unfolding WordsMatchHolders
  few_share =
      let count = (lawful.words.words_match_holders l).sharers_are_counted in
      omega (arith, few, count, sum_below-most c.threads (λ t. shares (s.held t l)) (λ t. one_at_most (s.held t l)))
    where
      one_at_most : (x : Hold) → shares x ≤ 1
      one_at_most NotHeld = omega arith
      one_at_most (Holds Excl) = omega arith
      one_at_most (Holds Shared) = omega arith

  pub may_gain : (mode : Mode) → admits (c.kind l) (s.word l) mode ≡ true → views.MayGain (s.word l).holder mode
  may_gain mode e = go mode (c.kind l) (s.word l).holder few_share e
    where
      go : (m : Mode) (kind : Kind) (x : words.Holder) → sharers x ≤ 63
          → admits kind (record (s.word l) { holder = x }) m ≡ true → views.MayGain x m
      go m kind words.Free few e = tt
      go Excl kind (words.HeldBy u) few e = cc
      go Excl kind (words.SharedBy n) few e = cc
      go Shared Mtx (words.HeldBy u) few e = cc
      go Shared Rw (words.HeldBy u) few e = cc
      go Shared Sx (words.HeldBy u) few e = cc
      go Shared kind (words.SharedBy n) few e = few

-- the lock in the list
abbrev pub entry_of : LockNo → Mode → Bool → Held
entry_of l mode by_try = record { l = l; mode = mode; by_try = by_try }

-- the thread with one lock more, and with another record
pub picked_up : {th p : Thread} {c : Config} {s : State} {t : ℕ} (n : State) (x : Held) (r : Record)
    → RepresentsThread th c s t → p ≡ record th { held = p.held; wants = false }
    → p.held.items ≡ th.held.items ++ x ∷ [] → vec_capacity p.held ≡ vec_capacity th.held
    → s.held t x.l.0 ≡ NotHeld → RepresentsRecord r (record_in n t) → thread_in n t ≡ record (thread_in s
    t) { its_record = record_in n t; held = put_at s.held t x.l.0 (Holds x.mode) t; wants = false }
    → RepresentsThread (record p { «record» = with_value p.record r }) c n t
picked_up {th = th} {p = p} {s = s} {t = t} n x r old same items room unheld rec is =
    let shown : (k : ℕ) → hold_in th.held.items k ≡ s.held t k = λ k. ap (λ v. v.held k) old.columns in
    record {
      columns = (λ i.
          record ((ap thread_of same ∙ (λ j. record (old.columns j) { held = hold_in p.held.items; wants = false }))
          i) {
            its_record = rec.columns i;
            held = λ k. (ap (λ hs. hold_in hs k) items ∙ column_push s.held t th.held.items x unheld shown k) i;
          }) ∙ sym is;
      one_loan_each = rec.one_loan_each;
      held = record {
        once = λ k. subst (λ hs. holds_of k hs ≤ 1) (sym items)
            (once_push th.held.items x (shown x.l.0 ∙ unheld) old.held.once k);
        room = subst (λ i. 8 ≤ i) (sym room) old.held.room;
      };
      marked = rw same old.marked;
    }

gain_of_others : (s : State) (t l : ℕ) (mode : Mode) (by_try : Bool) → OthersStay s (after_gain s t l mode by_try) t
unfolding after_gain
gain_of_others s t l mode by_try u n = λ i. record (thread_in s u) {
  held = λ k. put_at_other s.held t l (Holds mode) u k (λ e. n (sym e)) i;
  wants = is_some (put_other s.wanted t None u (λ e. n (sym e)) i);
}

pub lock_gained : {m : Machine} {c : Config} {s : State} {t : ℕ} {th p : Thread} (l : LockNo) (mode : Mode)
    (by_try : Bool) (w : ℕ) → slice_get m.threads.items t ≡ Some th → word_of w ≡ words.gained (s.word l.0) t mode
    → p ≡ record th { held = p.held; wants = false } → p.held.items ≡ th.held.items ++ entry_of l mode by_try ∷ []
    → vec_capacity p.held ≡ vec_capacity th.held → Represents c m s → MayGain c s t l.0 mode
    → Represents c (record m { words = with_item m.words l.0 w; threads = with_item m.threads t p })
    (after_gain s t l.0 mode by_try)
unfolding after_gain
lock_gained {m = m} {c = c} {s = s} {t = t} {th = th} {p = p} l mode by_try w at new same items room h g =
    let old = h.threads.thread t th at in
    let n = after_gain s t l.0 mode by_try in
    shown_by n h refl refl
    (word_changed m.words.items c s.word l.0 w (words.gained (s.word l.0) t mode) h.words g.lock new) h.queues
    h.sleepers
    (thread_changed n p h.threads g.thread
    (picked_up n (entry_of l mode by_try) p.record.value old same items room g.unheld (rw same (record_of old)) (λ i.
    record (thread_in s t) { held = put_at s.held t l.0 (Holds mode) t; wants = is_some (put_same s.wanted t None i) }))
    (gain_of_others s t l.0 mode by_try))

claim_of_others : (c : Config) (s : State) (t l h : ℕ) (by_try : Bool) → OthersStay s (after_claim c s t l h by_try) t
unfolding after_claim
claim_of_others c s t l h by_try u n =
    let new : Option Loan = loan_of h (least_of (s.lists (lock_queue l))) in
    λ i. record (thread_in s u) {
      its_record = record (record_in s u) {
        effective = put_other s.effective t (effective_of c (put (s.loan t) l new) (s.base t)) u (λ e. n (sym e)) i;
        loan = λ k. put_at_other s.loan t l new u k (λ e. n (sym e)) i;
      };
      held = λ k. put_at_other s.held t l (Holds Excl) u k (λ e. n (sym e)) i;
      wants = is_some (put_other s.wanted t None u (λ e. n (sym e)) i);
    }

pub lock_claimed : {m : Machine} {c : Config} {s : State} {t h : ℕ} {th p : Thread}
    {chain : List (QueueName × Turnstile)} {r : Record} (l : LockNo) (by_try : Bool) (w : ℕ)
    → slice_get m.threads.items t ≡ Some th → word_of w ≡ words.claimed (s.word l.0) t
    → p ≡ record th { held = p.held; wants = false } → p.held.items ≡ th.held.items ++ entry_of l Excl by_try ∷ []
    → vec_capacity p.held ≡ vec_capacity th.held → Represents c m s → MayClaim c s t l.0 h
    → RepresentsQueues c chain (queue_in (after_claim c s t l.0 h by_try)) (after_claim c s t l.0 h by_try).loan_home
    → RepresentsRecord r (record_in (after_claim c s t l.0 h by_try) t)
    → Represents c (record m {
      words = with_item m.words l.0 w;
      chain = chain;
      threads = with_item m.threads t (record p { «record» = with_value p.record r });
    }) (after_claim c s t l.0 h by_try)
unfolding after_claim
lock_claimed {m = m} {c = c} {s = s} {t = t} {h = h} {th = th} {p = p} {r = r} l by_try w at new same items room shown g
    queues rec =
    let n = after_claim c s t l.0 h by_try in
    shown_by n shown refl refl
    (word_changed m.words.items c s.word l.0 w (words.claimed (s.word l.0) t) shown.words g.lock new) queues
    shown.sleepers
    (thread_changed n (record p { «record» = with_value p.record r }) shown.threads g.thread
    (picked_up n (entry_of l Excl by_try) r (shown.threads.thread t th at) same items room g.unheld rec
    (λ i. record (thread_in s t) {
      its_record = record_in n t;
      held = put_at s.held t l.0 (Holds Excl) t;
      wants = is_some (put_same s.wanted t None i);
    }))
    (claim_of_others c s t l.0 h by_try))

-- 2. A drop

-- the word of a lock that a thread holds is held in that mode
pub is_held : (c : Config) (s : State) (t l : ℕ) (mode : Mode) → Lawful c s → t < c.threads → s.held t l ≡ Holds mode
    → IsHeldIn (s.word l).holder mode
is_held c s t l Excl lawful lt held = subst (λ x. IsHeldIn x Excl) (sym (owner_is c s t l lawful held)) tt
is_held c s t l Shared lawful lt held = go (s.word l).holder (has_sharer c s t l lawful lt held)
  where
    go : (x : words.Holder) → 1 ≤ sharers x → IsHeldIn x Shared
    go words.Free some = absurd (omega arith)
    go (words.HeldBy u) some = absurd (omega arith)
    go (words.SharedBy n) some = tt

-- the thread with one lock less
pub put_down : {th new : Thread} {c : Config} {s : State} {t : ℕ} (n : State) (l : ℕ) → RepresentsThread th c s t
    → new ≡ record th { held = new.held; left = new.left } → new.held.items ≡ without_lock l th.held.items
    → vec_capacity new.held ≡ vec_capacity th.held
    → thread_in n t ≡ record (thread_in s t) { held = put_at s.held t l NotHeld t } → RepresentsThread new c n t
put_down {th = th} {new = new} {c = c} {s = s} {t = t} n l old same items room is = record {
  columns = (λ i. record ((ap thread_of same ∙ (λ j. record (old.columns j) { held = hold_in new.held.items })) i) {
    held = λ k. (ap (λ hs. hold_in hs k) items
        ∙ column_without s.held t l th.held.items old.held.once (λ j. ap (λ x. x.held j) old.columns) k) i;
  }) ∙ sym is;
  one_loan_each = rw same old.one_loan_each;
  held = record {
    once = λ k. subst (λ hs. holds_of k hs ≤ 1) (sym items) (once_without l th.held.items old.held.once k);
    room = subst (λ i. 8 ≤ i) (sym room) old.held.room;
  };
  marked = rw same old.marked;
}

-- what no column tells of it
pub released : {new : Thread} (th : Thread) (l : ℕ) → new ≡ record th { held = new.held; left = new.left }
    → new.held.items ≡ without_lock l th.held.items → new.left ≡ mode_left (hold_in th.held.items l) th.left
    → progress_of new ≡ with_released l (progress_of th)
released th l same items left = ap progress_of same ∙ (λ i. record (progress_of th) { held = items i; left = left i })

drop_of_others : (s : State) (t l : ℕ) → OthersStay s (after_drop s t l) t
unfolding after_drop
drop_of_others s t l u n =
    λ i. record (thread_in s u) { held = λ k. put_at_other s.held t l NotHeld u k (λ e. n (sym e)) i }

pub lock_dropped : (m : Machine) (c : Config) (s : State) (t l : ℕ) (mode : Mode) (w : ℕ) (th new : Thread)
    → slice_get m.threads.items t ≡ Some th
    → word_of w ≡ words.dropped (s.word l) → new ≡ record th { held = new.held; left = new.left }
    → new.held.items ≡ without_lock l th.held.items → vec_capacity new.held ≡ vec_capacity th.held
    → Represents c m s → MayDrop c s t l mode
    → Represents c (record m { words = with_item m.words l w; threads = with_item m.threads t new }) (after_drop s t l)
unfolding after_drop
lock_dropped m c s t l mode w th new at word same items room h g =
    let n = after_drop s t l in
    shown_by n h refl refl
    (word_changed m.words.items c s.word l w (words.dropped (s.word l)) h.words g.lock word) h.queues h.sleepers
    (thread_changed n new h.threads g.thread (put_down n l (h.threads.thread t th at) same items room refl)
    (drop_of_others s t l))
