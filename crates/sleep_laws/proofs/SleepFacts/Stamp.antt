-- An entry keeps the facts of sleepers: who goes to sleep is on its way to its channel, and a waking names whom its
-- wake took.
use Rattle.sleep_laws.proofs.Names
use Names.{ℕ, Bool, true, false, List, [], Option, Some, None, refl, sym, ap, inl, inr, arith, eq-eqb, subst, cases_eq}
use Names.{ne_eqb, nat_tests, Config, one, times, has_bit, is_asleep, is_named, is_passed_over, entries_up_to}
use Names.{goes_before, wakes, sleeps_on, is_halted_chan, WakingsNameSleepers, Waiter, chan_queue, times_waiting, Event}
use Names.{Base, WokeOne, WokeAll, Entry, State, Queued, Wake, put, MayStamp, is_taking_back, bits_of_threads, entry_of}
use Names.{base_after, unstamped_after, after_stamp, has_slept, Lawful, signals, signals_noted, LeavesNobodyBefore}
use Names.{is_chan_halt, aborted, SleepersFit, NamedAreWoken, AbortedSleep, NoSleepIsHalted, SleepersSlept, WokenSlept}
use Names.{ResumedSlept, SleepersAreUnwoken, SleepersAreUnhalted, AsleepStandThere, AsleepAreOnTheirWay}
use Names.{SleepersInOrder, LatecomersAreLater, SleepersKeepBase, UnnotedAreMarked, UnnotedIsAtWork, UnnotedIsFair}
use Names.{PassedOverAreAborted, off, columns, at_put, put_other, sum_below-zero, each-map, standing_named, in_lists}
use Names.{unstamped_sum, signals_nowhere}
use Rattle.std.proofs.Common.{◌≡◌, ◌≢◌, ◌+◌, ◌≤◌, ◌||◌, ◌∷◌, ◌∙◌}
use Rattle.sleep_laws.proofs.SleepFacts.Best.{SleptLonger, KeepsBase, each_all, in_order-map}
use Rattle.sleep_laws.proofs.SleepFacts.Entries.{asleep_unnamed, slept_back, up_to_most}
use Rattle.sleep_laws.proofs.SleepFacts.Known.{taken_named, taken_asleep, taken_bits}
use Rattle.sleep_laws.proofs.SleepFacts.Waking.{the_wake, fits, over_nobody}
use Rattle.sleep_laws.proofs.SleepFacts.Off.{off_acting, off_signalled}

-- a wake that is not noted behind an entry was not noted before
still_unnoted : (e : Event) (o : Option Wake) (w : Wake) → unstamped_after e o ≡ Some w → o ≡ Some w
still_unnoted e o w x = grind arith

-- an entry leaves another thread's base priority
others_base : (e : Event) (t : ℕ) (base : ℕ → ℕ) (u : ℕ) → t ≢ u → base_after e t base u ≡ base u
others_base (Base p) t base u ne = put_other base t p.0 u ne
others_base other t base u ne = refl

module _ {at_work : ℕ → Option ℕ} {c : Config} {s : State} (l : Lawful c s)
    (h : SleepersFit at_work c s) (t : ℕ) (e : Event) (g : MayStamp c s t e) where
  abbrev entry : Entry
  entry = entry_of s t e

  abbrev history : List Entry
  history = entry ∷ s.history

  abbrev log : ℕ → List Entry
  log = put s.log t (entry ∷ s.log t)

  abbrev to_note : Option Wake
  to_note = unstamped_after e (s.unstamped t)

  abbrev unstamped : ℕ → Option Wake
  unstamped = put s.unstamped t to_note

  abbrev ws : ℕ → List Waiter
  ws d = (s.lists (chan_queue d)).exclusive

  unnoted : (v : ℕ) (w : Wake) → unstamped v ≡ Some w → s.unstamped v ≡ Some w
  unnoted v w =
      at_put (λ v o. o ≡ Some w → s.unstamped v ≡ Some w) s.unstamped t to_note
      (still_unnoted e (s.unstamped t) w) (λ v ne f. f) v

  -- who names a channel, as one that stands on its queue, is another thread
  other : (d u : ℕ) → s.blocked_on u ≡ Some (chan_queue d) → t ≢ u
  other d u a x =
      let z : None ≡ Some (chan_queue d) = sym g.acting.unnamed ∙ ap s.blocked_on x ∙ a in
      cc

  stander_other : (d u : ℕ) → 1 ≤ times_waiting u (ws d) → t ≢ u
  stander_other d u i = other d u (standing_named c s u (chan_queue d) l (omega arith))

  -- 1. Who was named

  -- a waking is noted: signals of its wake count from now on
  module _ (w : Wake) (f : s.unstamped t ≡ Some w) (woken : ℕ)
      (set : woken ≡ bits_of_threads w.taken) (u : ℕ) where
    taken_unnamed : 1 ≤ times u w.taken → is_named s.history u ≡ false
    taken_unnamed i = asleep_unnamed s.history w.chan u (taken_asleep l h t g.thread w f u i)

    noted_now : one (has_bit u woken || is_named s.history u)
        + signals_noted u (s.unstamped t) (s.marked t)
        ≡ signals u (s.marked t) + one (is_named s.history u)
    unfolding UnnotedAreMarked
    noted_now =
        let a = taken_bits l h t g.thread w f u in
        grind (arith, f, set, (h.unnoted_are_marked t w u f).0, taken_unnamed)

    in_wake : has_bit u woken ≡ true → 1 ≤ times u w.taken
    in_wake b = let a = taken_bits l h t g.thread w f u in grind (arith, set)

    taken_unaborted : has_bit u woken ≡ true → off c s u ≡ 0
    unfolding UnnotedAreMarked
    taken_unaborted b =
        let i = in_wake b in
        off_signalled l h u w.chan (taken_named l h t g.thread w f u i) t g.thread
        (omega (arith, (h.unnoted_are_marked t w u f).0))

  by_event : (e : Event) → MayStamp c s t e → (u : ℕ)
      → one (wakes e u || is_named s.history u) + signals_noted u (s.unstamped t) (s.marked t)
      ≡ signals_noted u (unstamped_after e (s.unstamped t)) (s.marked t)
      + one (is_named s.history u)
  by_event (WokeOne d woken) g u =
      let p = the_wake (s.unstamped t) d.0 woken false g.asks in
      noted_now p.0 p.1 woken p.4 u
  by_event (WokeAll d woken) g u =
      let p = the_wake (s.unstamped t) d.0 woken true g.asks in
      noted_now p.0 p.1 woken p.4 u
  by_event other g u = omega arith

  in_no_list : (u : ℕ) → t ≡ u → in_lists c.threads u unstamped s.marked ≡ 0
  in_no_list u x = sum_below-zero c.threads (λ v. signals_noted u (unstamped v) (s.marked v))
      (λ v k. grind (arith, signals_nowhere c s u l v k, g.acting.unnamed))

  named : NamedAreWoken c history s.marked unstamped s.wait (put s.woken_from t None)
  unfolding NamedAreWoken is_named
  named u =
      let b = unstamped_sum c.threads t u s.unstamped s.marked to_note g.thread in
      grind (arith, nat_tests, columns, h.named_are_woken u, by_event e g u, in_no_list u)

  noted : NoSleepIsHalted s.halted (put s.noted t None)
  unfolding NoSleepIsHalted
  noted x u q = grind (arith, columns, h.no_sleep_is_halted x u q)

  -- who was aborted: its thread has noted that
  abbrev behind : ℕ → ℕ
  behind = aborted c s.marked s.wait (put s.noted t None)

  others_off : (u : ℕ) → t ≢ u → behind u ≡ off c s u
  unfolding aborted
  others_off u ne = grind (arith, columns)

  own_off : off c s t ≡ is_chan_halt (s.noted t)
  own_off = off_acting c s t l g.acting.unnamed g.acting.unwoken

  now_unaborted : behind t ≡ 0
  unfolding aborted
  now_unaborted = let a = own_off in grind (arith, columns)

  -- whom a waking names was not aborted
  named_unaborted : (e : Event) → MayStamp c s t e → (u : ℕ) → wakes e u ≡ true → off c s u ≡ 0
  named_unaborted (WokeOne d woken) g u b =
      let p = the_wake (s.unstamped t) d.0 woken false g.asks in
      taken_unaborted p.0 p.1 woken p.4 u b
  named_unaborted (WokeAll d woken) g u b =
      let p = the_wake (s.unstamped t) d.0 woken true g.asks in
      taken_unaborted p.0 p.1 woken p.4 u b
  named_unaborted other g u b = absurd cc

  own_slept : behind t + one (is_named history t) ≤ one (is_taking_back (log t))
  unfolding is_named
  own_slept = let z = now_unaborted in rw (eq-eqb t t refl) (omega (arith, z))

  -- a waking may name another
  newly_named : (u : ℕ) (b k : Bool) → (b ≡ true → off c s u ≡ 0) → off c s u + one k ≤ one (is_taking_back (s.log u))
      → (b ≡ true → one (is_taking_back (s.log u)) ≡ 1) → off c s u + one (b || k) ≤ one (is_taking_back (s.log u))
  newly_named u false k f i g = i
  newly_named u true k f i g = omega (arith, f refl, g refl)

  -- whom a waking names has gone to sleep in its log
  named_slept : (e : Event) → MayStamp c s t e → (u : ℕ) → wakes e u ≡ true → one (is_taking_back (s.log u)) ≡ 1
  unfolding SleepersSlept
  named_slept (WokeOne d woken) g u b =
      let p = the_wake (s.unstamped t) d.0 woken false g.asks in
      ap one (slept_back p.0.chan (s.log u)
      (h.sleepers_slept u p.0.chan (taken_named l h t g.thread p.0 p.1 u (in_wake p.0 p.1 woken p.4 u b))))
  named_slept (WokeAll d woken) g u b =
      let p = the_wake (s.unstamped t) d.0 woken true g.asks in
      ap one (slept_back p.0.chan (s.log u)
      (h.sleepers_slept u p.0.chan (taken_named l h t g.thread p.0 p.1 u (in_wake p.0 p.1 woken p.4 u b))))
  named_slept other g u b = absurd cc

  others_slept : (u : ℕ) → t ≢ u → behind u + one (is_named history u) ≤ one (is_taking_back (log u))
  unfolding AbortedSleep is_named
  others_slept u ne =
      rw (others_off u ne, ne_eqb t u ne, put_other s.log t (entry ∷ s.log t) u ne)
      (newly_named u (wakes e u) (is_named s.history u) (named_unaborted e g u) (h.aborted_sleep u) (named_slept e g u))

  slept_on : AbortedSleep history behind log
  unfolding AbortedSleep
  slept_on u = elim (cases_eq t u) [
    | inl x ↦ subst (λ v. behind v + one (is_named history v) ≤ one (is_taking_back (log v))) x own_slept
    | inr ne ↦ others_slept u ne
  ]

  unhalted : SleepersAreUnhalted s.blocked_on (put s.noted t None)
  unfolding SleepersAreUnhalted
  unhalted u d = grind (arith, columns, h.sleepers_are_unhalted u d)

  -- 2. Logs

  slept : SleepersSlept s.blocked_on log
  unfolding SleepersSlept
  slept u d = grind (arith, columns, h.sleepers_slept u d, g.acting.unnamed)

  woken_slept : WokenSlept s.wait log
  unfolding WokenSlept
  woken_slept u d cause = grind (arith, columns, h.woken_slept u d cause, g.acting.unwoken)

  resumed_slept : ResumedSlept (put s.woken_from t None) log
  unfolding ResumedSlept
  resumed_slept u d =
      at_put (λ v o. o ≡ Some d → has_slept d (log v) ≡ true) s.woken_from t None (λ f. absurd cc)
      (λ v ne f. rw (put_other s.log t (entry ∷ s.log t) v ne) (h.resumed_slept v d f)) u

  unwoken : SleepersAreUnwoken s.blocked_on (put s.woken_from t None)
  unfolding SleepersAreUnwoken
  unwoken u d = grind (arith, columns, h.sleepers_are_unwoken u d)

  -- 3. Who sleeps

  there : AsleepStandThere history s.blocked_on behind
  unfolding AsleepStandThere is_asleep
  there u d q = grind (arith, nat_tests, h.asleep_stand_there u d q, g.acting.unnamed, others_off u)

  goes : (e : Event) → MayStamp c s t e → (d : ℕ) → sleeps_on e d ≡ true
      → (s.wait t ≡ Queued) × (s.wanted t ≡ None)
  goes e g d x = grind arith

  way : ((d : ℕ) → sleeps_on e d ≡ true → at_work d ≡ Some t)
      → AsleepAreOnTheirWay history s.blocked_on behind s.wait s.wanted at_work
  unfolding AsleepAreOnTheirWay is_asleep
  way works u d = grind (arith, nat_tests, h.asleep_are_on_their_way u d, works d, goes e g d, others_off u)

  -- 4. The order of the queues

  up_to : (d u : ℕ) → 1 ≤ times_waiting u (ws d)
      → entries_up_to history u ≡ entries_up_to s.history u
  unfolding entries_up_to
  up_to d u i = grind (arith, nat_tests, stander_other d u i)

  order : SleepersInOrder history s.lists
  unfolding SleepersInOrder
  order d = in_order-map s.history history (ws d)
      (each_all (λ w. entries_up_to history w.thread ≡ entries_up_to s.history w.thread) (ws d)
      (λ w i. up_to d w.thread i)) (h.sleepers_in_order d)

  later : LatecomersAreLater history s.blocked_on behind s.lists
  unfolding LatecomersAreLater entries_up_to is_asleep
  later u d a z b = elim (cases_eq t u) [
    | inl x ↦ each_all (SleptLonger history u) (ws d) (λ w i.
        grind (arith, nat_tests, up_to d w.thread i, up_to_most s.history w.thread))
    | inr x ↦ each-map (SleptLonger s.history u) (SleptLonger history u) (ws d)
        (λ w i r. grind (arith, nat_tests, up_to d w.thread i))
        (h.latecomers_are_later u d (grind (arith, nat_tests, a)) (sym (others_off u x) ∙ z) b)
  ]

  bases : SleepersKeepBase (base_after e t s.base) s.lists
  unfolding SleepersKeepBase
  bases d = each-map (KeepsBase s.base) (KeepsBase (base_after e t s.base)) (ws d)
      (λ w i p. p ∙ sym (others_base e t s.base w.thread (stander_other d w.thread i)))
      (h.sleepers_keep_base d)

  -- 5. Wakes that are not noted

  marked : UnnotedAreMarked unstamped s.marked
  unfolding UnnotedAreMarked
  marked v w u f = h.unnoted_are_marked v w u (unnoted v w f)

  works_there : UnnotedIsAtWork unstamped at_work
  unfolding UnnotedIsAtWork
  works_there v w f = h.unnoted_is_at_work v w (unnoted v w f)

  -- a waiter doesn't go before a thread
  abbrev Before : List Entry → ℕ → Waiter → Type 0
  Before es u w = goes_before c es w.thread u ≡ false

  still : (d u : ℕ) → t ≢ u → (w : Waiter) → 1 ≤ times_waiting w.thread (ws d)
      → Before s.history u w → Before history u w
  unfolding entries_up_to
  still d u ne w i b =
      grind (arith, nat_tests, stander_other d w.thread i)

  fair : UnnotedIsFair c history unstamped s.lists
  unfolding UnnotedIsFair
  fair v w lt f = go w.all w.taken refl (h.unnoted_is_fair v w lt (unnoted v w f))
    where
      taken_other : (u : ℕ) → 1 ≤ times u w.taken → t ≢ u
      taken_other u i = other w.chan u (taken_named l h v lt w (unnoted v w f) u i)

      go : (all : Bool) (us : List ℕ) → us ≡ w.taken
          → LeavesNobodyBefore c s.history all us (ws w.chan)
          → LeavesNobodyBefore c history all us (ws w.chan)
      go true us i p = p
      go false [] i p = p
      go false (u ∷ us) i p =
          let k = taken_other u (rw (← i, eq-eqb u u refl) (omega arith)) in
          (p.0, each-map (Before s.history u) (Before history u) (ws w.chan) (still w.chan u k) p.1)

  -- 6. The law of the history

  over : PassedOverAreAborted c history behind
  unfolding PassedOverAreAborted is_passed_over
  over u p = elim (cases_eq t u) [
    | inl x ↦ absurd (grind (arith, nat_tests, p))
    | inr ne ↦ elim (cases_eq (off c s u) 0) [
      | inl z ↦ absurd (grind (arith, nat_tests, p, over_nobody l h t g.thread e g u ne z, h.passed_over_are_aborted u))
      | inr k ↦ let z = others_off u ne in omega (arith, k)
    ]
  ]

  law : (1 ≤ is_chan_halt (s.noted t) → is_halted_chan e ≡ true) → WakingsNameSleepers c history
  unfolding WakingsNameSleepers PassedOverAreAborted
  law notes = (
    fits l h t g.thread e g,
    λ x. notes (let z = h.passed_over_are_aborted t x in omega (arith, own_off)),
    h.wakings_name_sleepers,
  )

  pub stamps : ((d : ℕ) → sleeps_on e d ≡ true → at_work d ≡ Some t)
      → (1 ≤ is_chan_halt (s.noted t) → is_halted_chan e ≡ true)
      → SleepersFit at_work c (after_stamp c s t e)
  unfolding after_stamp
  stamps works notes =
      let on_way = way works in
      let legal = law notes in
      assumption (
        h,
        named,
        noted,
        slept_on,
        unhalted,
        slept,
        woken_slept,
        resumed_slept,
        unwoken,
        there,
        on_way,
        order,
        later,
        bases,
        marked,
        works_there,
        fair,
        over,
        legal,
      )
