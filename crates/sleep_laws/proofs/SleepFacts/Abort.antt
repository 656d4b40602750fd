-- An abort keeps the facts of sleepers: who was taken off a channel by it sleeps in the history on, and stands there no
-- more. And the halt word: until it is set nobody is aborted.
use Rattle.sleep_laws.proofs.Names
use Names.{ℕ, Bool, true, false, List, [], Option, Some, None, refl, sym, ap, arith, subst, nat_tests, Config}
use Names.{is_asleep, goes_before, Waiter, Lists, Mark, lock_queue, chan_queue, times_waiting, without, dealt, Side, X}
use Names.{S, QueueName, Lock, Chan, State, put, put_queue, MayAbort, sleeper, by_abort, after_abort, after_halt}
use Names.{Lawful, StandsOnce, Each, times_marked, signals, aborts, aborted, InOrder, LeavesNobodyBefore, SleepersFit}
use Names.{NamedAreWoken, AbortedSleep, MarksAreSignals, WokenBySignal, NoSleepIsHalted, SleepersSlept}
use Names.{AsleepStandThere, AsleepAreOnTheirWay, SleepersInOrder, LatecomersAreLater, SleepersKeepBase}
use Names.{SleepersAreExclusive, UnnotedAreMarked, UnnotedIsFair, PassedOverAreAborted, off, columns, sum_below-put}
use Names.{sum_below-at, is_queue_same, standing_named, times_marked-dealt, fits, marked_sum, may_take_off}
use Rattle.std.proofs.Common.{◌≡◌, ◌+◌, ◌<◌, ◌≤◌, ◌∷◌, ◌∙◌}
use Rattle.sleep_laws.proofs.SleepFacts.Best.{SleptLonger, KeepsBase, at_put_chan, each-without, in_order-without}
use Rattle.sleep_laws.proofs.SleepFacts.Entries.{asleep_unnamed, slept_back}
use Rattle.sleep_laws.proofs.SleepFacts.Found.{stander_asleep}
use Rattle.sleep_laws.proofs.SleepFacts.Off.{off_marked, off_standing}

-- 1. Marks by abort

no_signals : (v : ℕ) (ms : List Mark) → signals v (by_abort ms) ≡ 0
no_signals v [] = refl
no_signals v (m ∷ ms) = grind (arith, no_signals v ms)

no_aborts_of_lock : (v l : ℕ) (ws : List Waiter) (xs : List ℕ) (h : Option ℕ)
    → aborts v (by_abort (dealt (lock_queue l) ws xs h)) ≡ 0
no_aborts_of_lock v l [] xs h = refl
no_aborts_of_lock v l (w ∷ ws) [] None = refl
no_aborts_of_lock v l (w ∷ ws) [] (Some h) = omega (arith, no_aborts_of_lock v l ws [] None)
no_aborts_of_lock v l (w ∷ ws) (x ∷ xs) h = omega (arith, no_aborts_of_lock v l ws xs h)

-- on a channel the sleeper's mark is one
aborts-dealt : (v d : ℕ) (w : Waiter) (xs : List ℕ) (h : Option ℕ)
    → 1 ≤ times_marked w.thread (chan_queue d) (dealt (chan_queue d) (w ∷ []) xs h)
    → aborts v (by_abort (dealt (chan_queue d) (w ∷ []) xs h)) ≡ times_waiting v (w ∷ [])
aborts-dealt v d w xs h i = grind arith

-- 2. An abort

module _ {at_work : ℕ → Option ℕ} {c : Config} {s : State} (l : Lawful c s) (h : SleepersFit at_work c s)
    (t : ℕ) (q : QueueName) (side : Side) (u : ℕ) (g : MayAbort c s t q side u) where
  abbrev taken : List Waiter
  taken = sleeper s u ∷ []

  abbrev dealt_marks : List Mark
  dealt_marks = dealt q taken (s.free_list q) (s.head q)

  abbrev ms : List Mark
  ms = by_abort dealt_marks

  abbrev marked : ℕ → List Mark
  marked = put s.marked t ms

  named : NamedAreWoken c s.history marked s.unstamped s.wait s.woken_from
  unfolding NamedAreWoken
  named v =
      let a = marked_sum c.threads t v s.unstamped s.marked ms g.thread in
      grind (arith, columns, h.named_are_woken v, no_signals v dealt_marks, g.unmarked, g.stamped)

  -- the halt word is set
  listed : MarksAreSignals s.halted marked
  unfolding MarksAreSignals
  listed i = absurd (let z : true ≡ false = sym g.halted ∙ i in cc)

  took : UnnotedAreMarked s.unstamped marked
  unfolding UnnotedAreMarked
  took v w k e =
      let p = h.unnoted_are_marked v w k e in
      (grind (arith, columns, p.0, g.stamped), grind (arith, columns, p.1, g.stamped))

-- 3. Of an sx lock's sleeper: no thread is aborted off a channel by it

module _ {at_work : ℕ → Option ℕ} {c : Config} {s : State} (l : Lawful c s) (h : SleepersFit at_work c s)
    (t k : ℕ) (side : Side) (u : ℕ) (g : MayAbort c s t (lock_queue k) side u) where
  abbrev its_marks : List Mark
  its_marks = ms l h t (lock_queue k) side u g

  abbrev behind : ℕ → ℕ
  behind = aborted c (put s.marked t its_marks) s.wait s.noted

  same : behind ≡ off c s
  same = off_marked c s t its_marks g.thread
      (λ v. ap (aborts v) g.unmarked
      ∙ sym (no_aborts_of_lock v k (sleeper s u ∷ []) (s.free_list (lock_queue k)) (s.head (lock_queue k))))

  slept_on : AbortedSleep s.history behind s.log
  slept_on = rw same h.aborted_sleep

  there : AsleepStandThere s.history s.blocked_on behind
  there = rw same h.asleep_stand_there

  way : AsleepAreOnTheirWay s.history s.blocked_on behind s.wait s.wanted at_work
  way = rw same h.asleep_are_on_their_way

  later : LatecomersAreLater s.history s.blocked_on behind s.lists
  later = rw same h.latecomers_are_later

  over : PassedOverAreAborted c s.history behind
  over = rw same h.passed_over_are_aborted

  aborts_at_lock : SleepersFit at_work c (after_abort s t (lock_queue k) side u)
  unfolding after_abort put_queue SleepersInOrder LatecomersAreLater SleepersKeepBase SleepersAreExclusive UnnotedIsFair
  aborts_at_lock =
      let a = named l h t (lock_queue k) side u g in
      let b = listed l h t (lock_queue k) side u g in
      let d = took l h t (lock_queue k) side u g in
      assumption (h, a, b, d, slept_on, there, way, later, over)

-- 4. Of a channel's sleeper, who stands on its exclusive side

none_without : (u : ℕ) (vs : List Waiter) → vs ≡ [] → without u vs ≡ []
none_without u vs e = grind arith

no_sharer : (u : ℕ) (ws : List Waiter) → ws ≡ [] → 1 ≤ times_waiting u ws → ⊥
no_sharer u ws e i = grind arith

module _ {at_work : ℕ → Option ℕ} {c : Config} {s : State} (l : Lawful c s) (h : SleepersFit at_work c s)
    (t d u : ℕ) (g : MayAbort c s t (chan_queue d) X u) where
  abbrev ws : List Waiter
  ws = (s.lists (chan_queue d)).exclusive

  abbrev queue : Lists
  queue = record (s.lists (chan_queue d)) { exclusive = without u ws }

  abbrev lists : QueueName → Lists
  lists = put_queue s.lists (chan_queue d) queue

  abbrev chan_marks : List Mark
  chan_marks = ms l h t (chan_queue d) X u g

  stood : s.blocked_on u ≡ Some (chan_queue d)
  stood = standing_named c s u (chan_queue d) l (let i = g.stands in omega (arith, i))

  unmarked : (v : ℕ) → v < c.threads → times_marked u (chan_queue d) (s.marked v) ≡ 0
  unfolding StandsOnce
  unmarked v k =
      let a = sum_below-at c.threads (λ w. times_marked u (chan_queue d) (s.marked w)) v k in
      grind (arith, l.waits.stands_once u (chan_queue d), g.stands, stood, is_queue_same (chan_queue d))

  was_on : off c s u ≡ 0
  was_on = off_standing l h u d stood unmarked

  asleep : is_asleep s.history d u ≡ true
  asleep = stander_asleep l h u d (let i = g.stands in omega (arith, i))

  its_mark : (v : ℕ) → aborts v chan_marks ≡ times_waiting v (sleeper s u ∷ [])
  its_mark v =
      let few = fits (may_take_off c s t (chan_queue d) X u g l) l in
      let one_mark = times_marked-dealt u (chan_queue d) (sleeper s u ∷ []) (s.free_list (chan_queue d))
      (s.head (chan_queue d)) few in
      aborts-dealt v d (sleeper s u) (s.free_list (chan_queue d)) (s.head (chan_queue d))
      (grind (arith, nat_tests, one_mark))

  abbrev now : ℕ → ℕ
  now = aborted c (put s.marked t chan_marks) s.wait s.noted

  now_off : (v : ℕ) → now v ≡ off c s v + times_waiting v (sleeper s u ∷ [])
  unfolding aborted
  now_off v =
      let a = sum_below-put c.threads (aborts v) s.marked t chan_marks g.thread in
      let e = ap (aborts v) g.unmarked in
      let m = its_mark v in
      omega arith

  sleeps_on : AbortedSleep s.history now s.log
  unfolding AbortedSleep SleepersSlept
  sleeps_on v =
      let back = slept_back d (s.log u) (h.sleepers_slept u d stood) in
      grind (arith, nat_tests, now_off v, h.aborted_sleep v, was_on, asleep_unnamed s.history d u asleep)

  still : (v : ℕ) → now v ≡ 0 → off c s v ≡ 0
  still v z = omega (arith, z, now_off v)

  stand_there : AsleepStandThere s.history s.blocked_on now
  unfolding AsleepStandThere
  stand_there v k r a z = h.asleep_stand_there v k r a (still v z)

  on_way : AsleepAreOnTheirWay s.history s.blocked_on now s.wait s.wanted at_work
  unfolding AsleepAreOnTheirWay
  on_way v k a z = h.asleep_are_on_their_way v k a (still v z)

  passed : PassedOverAreAborted c s.history now
  unfolding PassedOverAreAborted
  passed v p = omega (arith, now_off v, h.passed_over_are_aborted v p)

  -- the queue without it
  order : SleepersInOrder s.history lists
  unfolding SleepersInOrder
  order = at_put_chan (λ k q. InOrder s.history q.exclusive) s.lists d queue
      (in_order-without s.history u ws (h.sleepers_in_order d)) h.sleepers_in_order

  later_on : LatecomersAreLater s.history s.blocked_on now lists
  unfolding LatecomersAreLater
  later_on v k a z n =
      let Longer : Waiter → Type 0 = SleptLonger s.history v in
      at_put_chan (λ k q. is_asleep s.history k v ≡ true → Each Longer q.exclusive) s.lists d queue
      (λ i. each-without Longer u ws (h.latecomers_are_later v d i (still v z) n))
      (λ k i. h.latecomers_are_later v k i (still v z) n) k a

  bases : SleepersKeepBase s.base lists
  unfolding SleepersKeepBase
  bases = at_put_chan (λ k q. Each (KeepsBase s.base) q.exclusive) s.lists d queue
      (each-without (KeepsBase s.base) u ws (h.sleepers_keep_base d)) h.sleepers_keep_base

  sides : SleepersAreExclusive lists
  unfolding SleepersAreExclusive
  sides = at_put_chan (λ k q. q.shared ≡ []) s.lists d queue (h.sleepers_are_exclusive d) h.sleepers_are_exclusive

  fewer : (all : Bool) (us : List ℕ) → LeavesNobodyBefore c s.history all us ws
      → LeavesNobodyBefore c s.history all us (without u ws)
  fewer true us p = none_without u ws p
  fewer false [] p = none_without u ws p
  fewer false (x ∷ us) p = (p.0, each-without (λ w. goes_before c s.history w.thread x ≡ false) u ws p.1)

  fair : UnnotedIsFair c s.history s.unstamped lists
  unfolding UnnotedIsFair
  fair v w lt e =
      at_put_chan (λ k q. k ≡ w.chan → LeavesNobodyBefore c s.history w.all w.taken q.exclusive) s.lists d queue
      (λ i. fewer w.all w.taken
      (subst (λ k. LeavesNobodyBefore c s.history w.all w.taken (s.lists (chan_queue k)).exclusive) (sym i)
      (h.unnoted_is_fair v w lt e)))
      (λ k i. subst (λ k. LeavesNobodyBefore c s.history w.all w.taken (s.lists (chan_queue k)).exclusive) (sym i)
      (h.unnoted_is_fair v w lt e)) w.chan refl

  aborts_off_channel : SleepersFit at_work c (after_abort s t (chan_queue d) X u)
  unfolding after_abort
  aborts_off_channel =
      let a = named l h t (chan_queue d) X u g in
      let b = listed l h t (chan_queue d) X u g in
      let e = took l h t (chan_queue d) X u g in
      assumption (h, a, b, e, sleeps_on, stand_there, on_way, passed, order, later_on, bases, sides, fair)

pub aborts_it : {at_work : ℕ → Option ℕ} {c : Config} {s : State} → Lawful c s → SleepersFit at_work c s
    → (t : ℕ) (q : QueueName) (side : Side) (u : ℕ) → MayAbort c s t q side u
    → SleepersFit at_work c (after_abort s t q side u)
unfolding SleepersAreExclusive
aborts_it l h t (Lock k) side u g = aborts_at_lock l h t k.0 side u g
aborts_it l h t (Chan d) X u g = aborts_off_channel l h t d.0 u g
aborts_it {s = s} l h t (Chan d) S u g =
    absurd (no_sharer u (s.lists (Chan d)).shared (h.sleepers_are_exclusive d.0) (let i = g.stands in omega (arith, i)))

-- 5. The halt word is set

pub halts : {at_work : ℕ → Option ℕ} {c : Config} {s : State} → SleepersFit at_work c s
    → SleepersFit at_work c (after_halt s)
unfolding after_halt MarksAreSignals WokenBySignal NoSleepIsHalted
halts {s = s} h =
    let a : MarksAreSignals true s.marked = (λ i. absurd cc) in
    let b : WokenBySignal true s.wait = (λ i. absurd cc) in
    let d : NoSleepIsHalted true s.noted = (λ i. absurd cc) in
    assumption (h, a, b, d)
