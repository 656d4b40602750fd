-- An abort of the last sleeper of a side of an sx lock's queue: the lock's word loses the side's bit, so that it shows
-- nobody there, and by that the sleeper is taken off the queue. The chain, which the thread has out, is then what the
-- work on it will make of it.
use Rattle.lock_floor.proofs.Names
use Names.{ℕ, Bool, eqb, true, not, List, [], length, None, refl, sym, ap, subst, arith, eqb-true, Me, keeps, Allows}
use Names.{some_there, is_empty, Waiter, Lists, lock_queue, list_of, times_waiting, without_waiter, Word, word_of}
use Names.{holder_of, with_bit, unshown, QueueName, Side, X, S, BitsShowWaiters, ShowsItsWaiters, State, put, Aborts}
use Names.{after_abort, look_leaving, waiters, SleepQueue, Description, Slot, spot, lock_line, lock_word, Board}
use Names.{FloorHolds, FitAll, Knowledge, OfThread, seeing, Finds, Steps, allows, lock_made_with, MayAbortLast}
use Names.{added_off, chain_place}
use Rattle.std.proofs.Common.{◌≡◌, ◌+◌, ◌-◌, ◌/◌, ◌%◌, ◌<◌, ◌∷◌, ◌∙◌}
use Rattle.lock_floor.proofs.AbortStep.{TakenOff, chain_off, loses_sleeper, view_off}
use Rattle.lock_floor.proofs.Looking.{found_word}

-- 1. The word

-- a word that shows somebody on a side shows nobody there without the side's bit
abbrev shown_on : Side → Word → Bool
shown_on X w = w.exclusive_waiters
shown_on S w = w.shared_waiters

falls : (side : Side) (w : ℕ) → w < 18446744073709551616 → shown_on side (word_of w) ≡ true
    → word_of ((w + added_off side) % 18446744073709551616) ≡ unshown (word_of w) side
falls X w small shown =
    let odd : w % 2 ≡ 1 = eqb-true (w % 2) 1 shown in
    let n : ℕ = (w + 18446744073709551615) % 18446744073709551616 in
    let less : n ≡ w - 1 = omega (arith, small, odd) in
    let kind : n / 4 % 2 ≡ w / 4 % 2 = omega (arith, less, odd) in
    let above : n / 8 ≡ w / 8 = omega (arith, less, odd) in
    let even : n % 2 ≡ 0 = omega (arith, less, odd) in
    let beside : n / 2 % 2 ≡ w / 2 % 2 = omega (arith, less, odd) in
    λ i. record {
      holder = holder_of (eqb (kind i) 1) (above i);
      exclusive_waiters = eqb (even i) 1;
      shared_waiters = eqb (beside i) 1;
    }
falls S w small shown =
    let odd : w / 2 % 2 ≡ 1 = eqb-true (w / 2 % 2) 1 shown in
    let n : ℕ = (w + 18446744073709551614) % 18446744073709551616 in
    let less : n ≡ w - 2 = omega (arith, small, odd) in
    let kind : n / 4 % 2 ≡ w / 4 % 2 = omega (arith, less, odd) in
    let above : n / 8 ≡ w / 8 = omega (arith, less, odd) in
    let same : n % 2 ≡ w % 2 = omega (arith, less, odd) in
    let even : n / 2 % 2 ≡ 0 = omega (arith, less, odd) in
    λ i. record {
      holder = holder_of (eqb (kind i) 1) (above i);
      exclusive_waiters = eqb (same i) 1;
      shared_waiters = eqb (even i) 1;
    }

-- where somebody stands on the side, the word shows it
some_shown : (side : Side) (u : ℕ) (w : Word) (q : Lists) → ShowsItsWaiters w q → 0 < times_waiting u (list_of side q)
    → shown_on side w ≡ true
some_shown X u w q shows here = shows.exclusive ∙ ap not (some_there u q.exclusive here)
some_shown S u w q shows here = shows.shared ∙ ap not (some_there u q.shared here)

-- and where nobody is left there, it shows nobody
hidden : (side : Side) (w : Word) (ws : List Waiter) → ws ≡ [] → with_bit w side (not (is_empty ws)) ≡ unshown w side
hidden side w ws e = ap (λ xs. with_bit w side (not (is_empty xs))) e

-- 2. The step

-- the thread took the last of a side off an sx lock's queue, and has no last look
pub record LastOff (floor : Description) (l : ℕ) (side : Side) (u : ℕ) (me behind : Me Slot Knowledge) : Type 0 where
  pub off : TakenOff floor (lock_queue l) side u None me behind
  pub last : without_waiter u (waiters side off.head.contents) ≡ []

module _ (floor : Description) (me : Me Slot Knowledge) (was : me.0.role ≡ OfThread) (l : ℕ) (side : Side) (u : ℕ)
    (low : l < length floor.locks) (may : MayAbortLast floor l side u me.0) where
  abbrev v : Knowledge
  v = me.0

  abbrev q : QueueName
  q = lock_queue l

  abbrev place : ℕ
  place = chain_place floor q

  aborts : (b : Board) (f : Finds floor v b) → lock_word b.words l < 18446744073709551616
      → Steps floor me (spot (lock_line l)) (lock_word b.words l)
      ((lock_word b.words l + added_off side) % 18446744073709551616) (λ found. LastOff floor l side u me) b
  unfolding after_abort BitsShowWaiters
  aborts b f small =
      let s : State = f.state in
      let head : SleepQueue = may.sleeps.head in
      let chain : List (QueueName × SleepQueue) = may.sleepers.chain in
      let x : ℕ = lock_word b.words l in
      let new : ℕ = (x + added_off side) % 18446744073709551616 in
      let its_word : word_of x ≡ s.word l = (found_word floor b v f l low).0 in
      let allowed : FitAll floor s (Aborts v.thread q side u ∷ []) = may.may s f.fits tt in
      let forgotten : None ≡ look_leaving q (without_waiter u (waiters side head.contents)) v.share.doing.last_look =
      ap (λ ws. look_leaving q ws v.share.doing.last_look) (sym may.sleeps.last) in
      let lost = loses_sleeper floor me q side u None may.sleepers head b f was may.sleeps.there may.sleeps.stands
      forgotten allowed in
      let behind : Knowledge = seeing (Aborts v.thread q side u ∷ f.past) (view_off floor v q u head None chain) in
      let left : without_waiter u (list_of side (s.lists q)) ≡ [] = ap (without_waiter u) lost.list ∙ may.sleeps.last in
      let word_then : Word = with_bit (s.word l) side (not (is_empty (without_waiter u (list_of side (s.lists q))))) in
      let shown : shown_on side (word_of x) ≡ true =
      ap (shown_on side) its_word
      ∙ some_shown side u (s.word l) (s.lists q) (f.sound.facts.lawful.queues.bits_show_waiters l)
      allowed.0.fits.may.stands in
      let says_now : word_of new ≡ word_then =
      falls side x small shown ∙ ap (λ y. unshown y side) its_word ∙ sym (hidden side (s.word l) _ left) in
      let made = lock_made_with floor (Aborts v.thread q side u ∷ []) b v behind f was allowed lost.own me.1 l new
      word_then (put f.represents.content place (chain_off q u head chain)) low says_now refl refl refl lost.shelves
      lost.objects in
      let told = lost.told made.1 in (
        behind,
        keeps,
        tt,
        made.0,
        record {
          off = told.0;
          last = subst (λ (h : SleepQueue). without_waiter u (waiters side h.contents) ≡ []) (sym told.1)
              may.sleeps.last;
        },
      )

  pub last_allowed : (n : ℕ) → n ≡ added_off side → (slots id : ℕ)
      → Allows (FloorHolds floor) slots id me (spot (lock_line l)) (λ found. (found + n) % 18446744073709551616)
      (λ found. LastOff floor l side u me)
  last_allowed n is slots id =
      subst (λ n. Allows (FloorHolds floor) slots id me (spot (lock_line l))
      (λ found. (found + n) % 18446744073709551616) (λ found. LastOff floor l side u me)) (sym is)
      (allows floor slots id me (spot (lock_line l)) (λ found. (found + added_off side) % 18446744073709551616)
      (λ found. LastOff floor l side u me) was (λ b f small. aborts b f small))
