-- A wake keeps the facts of sleepers: whom it took is in the marked list, and the wake is to be noted.
use Rattle.sleep_laws.proofs.Names
use Names.{ℕ, Bool, true, List, [], map, length, Option, Some, sym, ap, arith, subst, Config, some, times, base_in}
use Names.{is_asleep, Waiter, Lists, Mark, chan_queue, dealt, taken_off, left_on, QueueName, X, State, Wake, put}
use Names.{put_queue, MayWake, after_wake, Lawful, BasesReplay, Each, times_marked, AreSignals, signals, aborts}
use Names.{aborted, InOrder, LeavesNobodyBefore, SleepersFit, NamedAreWoken, AbortedSleep, MarksAreSignals}
use Names.{AsleepStandThere, AsleepAreOnTheirWay, SleepersInOrder, LatecomersAreLater, SleepersKeepBase}
use Names.{SleepersAreExclusive, UnnotedAreMarked, UnnotedIsAtWork, UnnotedIsFair, PassedOverAreAborted, off, columns}
use Names.{at_put, put_same, put_other, put_chan_same, put_chan_other, each-map, times_marked-dealt, objects_enough}
use Names.{signals-dealt, all_signals-dealt, times-map, marked_sum, unstamped_sum}
use Rattle.std.proofs.Common.{◌≡◌, ◌+◌, ◌<◌, ◌≤◌, ◌∙◌}
use Rattle.sleep_laws.proofs.SleepFacts.Best.{SleptLonger, KeepsBase, at_put_chan, each-left, in_order-left, wake_fair}
use Rattle.sleep_laws.proofs.SleepFacts.Known.{its_thread}
use Rattle.sleep_laws.proofs.SleepFacts.Off.{off_marked, no_aborts-dealt}

module _ {at_work : ℕ → Option ℕ} {c : Config} {s : State} (l : Lawful c s)
    (h : SleepersFit at_work c s) (t d : ℕ) (all : Bool) (g : MayWake c s t d all)
    (works : at_work d ≡ Some t) where
  abbrev ws : List Waiter
  ws = (s.lists (chan_queue d)).exclusive

  abbrev taken : List Waiter
  taken = taken_off all ws

  abbrev queue : Lists
  queue = record (s.lists (chan_queue d)) { exclusive = left_on all ws }

  abbrev lists : QueueName → Lists
  lists = put_queue s.lists (chan_queue d) queue

  abbrev free : List ℕ
  free = s.free_list (chan_queue d)

  abbrev head : Option ℕ
  head = s.head (chan_queue d)

  abbrev ms : List Mark
  ms = dealt (chan_queue d) taken free head

  abbrev marked : ℕ → List Mark
  marked = put s.marked t ms

  abbrev now : Wake
  now = record { chan = d; all = all; taken = map (λ w. w.thread) taken }

  abbrev unstamped : ℕ → Option Wake
  unstamped = put s.unstamped t (Some now)

  -- 1. Marks

  -- signals of a wake that isn't noted don't count
  named : NamedAreWoken c s.history marked unstamped s.wait s.woken_from
  unfolding NamedAreWoken
  named u =
      let a = marked_sum c.threads t u s.unstamped s.marked ms g.thread in
      let b = unstamped_sum c.threads t u s.unstamped marked (Some now) g.thread in
      grind (arith, columns, h.named_are_woken u, g.unmarked, g.stamped)

  listed : MarksAreSignals s.halted marked
  unfolding MarksAreSignals
  listed i = at_put (λ u x. AreSignals x) s.marked t ms
      (all_signals-dealt (chan_queue d) taken free head) (λ u ne. h.marks_are_signals i u)

  abbrev behind : ℕ → ℕ
  behind = aborted c marked s.wait s.noted

  same : behind ≡ off c s
  same = off_marked c s t ms g.thread
      (λ u. ap (aborts u) g.unmarked ∙ sym (no_aborts-dealt u (chan_queue d) taken free head))

  slept_on : AbortedSleep s.history behind s.log
  slept_on = rw same h.aborted_sleep

  there : AsleepStandThere s.history s.blocked_on behind
  there = rw same h.asleep_stand_there

  way : AsleepAreOnTheirWay s.history s.blocked_on behind s.wait s.wanted at_work
  way = rw same h.asleep_are_on_their_way

  over : PassedOverAreAborted c s.history behind
  over = rw same h.passed_over_are_aborted

  enough : length taken ≤ length free + some head
  enough = objects_enough c s (chan_queue d) X all l

  abbrev Took : ℕ → Wake → List Mark → Type 0
  Took u w ms =
      (times u w.taken ≡ signals u ms) × (times u w.taken ≡ times_marked u (chan_queue w.chan) ms)

  took : (u : ℕ) → Took u now ms
  took u = (
    times-map u taken ∙ sym (signals-dealt u d taken free head enough),
    times-map u taken ∙ sym (times_marked-dealt u (chan_queue d) taken free head enough),
  )

  unnoted : UnnotedAreMarked unstamped marked
  unfolding UnnotedAreMarked
  unnoted v w u =
      at_put (λ v o. o ≡ Some w → Took u w (marked v)) s.unstamped t (Some now)
      (λ e. let z : now ≡ w = cc in rw put_same (subst (λ y. Took u y ms) z (took u)))
      (λ v ne e. rw (put_other s.marked t ms v ne) (h.unnoted_are_marked v w u e)) v

  works_there : UnnotedIsAtWork unstamped at_work
  unfolding UnnotedIsAtWork
  works_there v w =
      at_put (λ v o. o ≡ Some w → at_work w.chan ≡ Some v) s.unstamped t (Some now)
      (λ e. let z : now ≡ w = cc in ap (λ y. at_work y.chan) (sym z) ∙ works)
      (λ v ne. h.unnoted_is_at_work v w) v

  -- 2. The queue

  order : SleepersInOrder s.history lists
  unfolding SleepersInOrder
  order = at_put_chan (λ k q. InOrder s.history q.exclusive) s.lists d queue
      (in_order-left s.history all ws (h.sleepers_in_order d)) h.sleepers_in_order

  later : LatecomersAreLater s.history s.blocked_on (off c s) lists
  unfolding LatecomersAreLater
  later u k a z n =
      let Longer : Waiter → Type 0 = SleptLonger s.history u in
      at_put_chan (λ k q. is_asleep s.history k u ≡ true → Each Longer q.exclusive) s.lists d queue
      (λ i. each-left Longer all ws (h.latecomers_are_later u d i z n))
      (λ k i. h.latecomers_are_later u k i z n) k a

  later_behind : LatecomersAreLater s.history s.blocked_on behind lists
  later_behind = rw same later

  bases : SleepersKeepBase s.base lists
  unfolding SleepersKeepBase
  bases = at_put_chan (λ k q. Each (KeepsBase s.base) q.exclusive) s.lists d queue
      (each-left (KeepsBase s.base) all ws (h.sleepers_keep_base d)) h.sleepers_keep_base

  sides : SleepersAreExclusive lists
  unfolding SleepersAreExclusive
  sides = at_put_chan (λ k q. q.shared ≡ []) s.lists d queue (h.sleepers_are_exclusive d)
      h.sleepers_are_exclusive

  -- it leaves nobody whom it should have taken,
  leaves : LeavesNobodyBefore c s.history all now.taken (left_on all ws)
  unfolding SleepersInOrder SleepersKeepBase BasesReplay
  leaves = wake_fair c s.history all ws (h.sleepers_in_order d)
      (each-map (KeepsBase s.base) (KeepsBase (base_in c s.history)) ws
      (λ w i p. p ∙ l.books.bases_replay w.thread) (h.sleepers_keep_base d))

  abbrev Leaves : Wake → Type 0
  Leaves w = LeavesNobodyBefore c s.history w.all w.taken (lists (chan_queue w.chan)).exclusive

  -- and no other wake of the channel is unnoted
  fair : UnnotedIsFair c s.history unstamped lists
  unfolding UnnotedIsFair
  fair v w =
      at_put (λ v o. v < c.threads → o ≡ Some w → Leaves w) s.unstamped t (Some now)
      (λ lt e. let z : now ≡ w = cc in subst Leaves z (rw (put_chan_same s.lists d queue) leaves))
      another v
    where
      another : (v : ℕ) → (t ≡ v → ⊥) → v < c.threads → s.unstamped v ≡ Some w → Leaves w
      another v ne lt e =
          rw (put_chan_other s.lists d queue w.chan (λ i. ne (its_thread l h t d v w works e i)))
          (h.unnoted_is_fair v w lt e)

  pub wakes : SleepersFit at_work c (after_wake s t d all)
  unfolding after_wake
  wakes = assumption (
    h,
    named,
    listed,
    unnoted,
    works_there,
    slept_on,
    there,
    way,
    over,
    order,
    later_behind,
    bases,
    sides,
    fair,
  )
