-- Facts of sleepers on channels: where a thread is that sleeps or was woken, and what a wake did that is not noted yet.
use Rattle.std.specs.Prelude.{◌≡◌, ℕ, ◌+◌, ◌<◌, ◌≤◌, Bool, true, false, not, ◌&&◌, ◌==◌, List, [], ◌∷◌, Option, Some, None, ⊤}
use Rattle.lock_model.specs.Config.{Config}
use Rattle.lock_model.specs.Counts.{sum_below, one, some, times}
use Rattle.lock_model.specs.Law.{is_asleep, is_named, is_passed_over, entries_up_to, goes_before}
use Rattle.lock_model.specs.Queues.{Cause, BySignal, Waiter, Lists, Mark, chan_queue}
use Rattle.lock_model.specs.declared.plan.QueueName.{QueueName}
use Rattle.lock_model.specs.declared.plan.QueueName.TheVariants.{Lock, Chan}
use Rattle.lock_model.specs.declared.event.Entry.{Entry}
use Rattle.lock_state.specs.State.{Wait, Running, Queued, Woken, Wake, Note, OrderRefused, SleepHalted}
use Rattle.lock_state.specs.Steps.LockWords.{is_taking_back}
use Rattle.lock_state.specs.Steps.SleepQueues.{has_slept}
use Rattle.lock_state.specs.Facts.Loans.{Each}
use Rattle.lock_state.specs.Facts.Waits.{is_signal, times_marked}

-- 1. Wakes by signal from channels

abbrev pub is_chan : QueueName → Bool
is_chan (Lock l) = false
is_chan (Chan d) = true

-- how often a thread stands in a marked list by a signal from a channel
abbrev pub signals : ℕ → List Mark → ℕ
signals t [] = 0
signals t (m ∷ ms) = one (is_chan m.queue && (is_signal m.cause && (t == m.thread))) + signals t ms

-- the same, where the wake of that list is noted
abbrev pub signals_noted : ℕ → Option Wake → List Mark → ℕ
signals_noted t None ms = signals t ms
signals_noted t (Some w) ms = 0

-- 1 where the wait word says that a signal from a channel woke the thread
abbrev pub is_signalled : Wait → ℕ
is_signalled Running = 0
is_signalled Queued = 0
is_signalled (Woken q cause) = one (is_chan q && is_signal cause)

-- A thread that a waking has named since its last entry is, once, in a marked list or woken, or has resumed since. No
-- other thread is.
unfoldable pub NamedAreWoken : Config → List Entry → (ℕ → List Mark) → (ℕ → Option Wake)
    → (ℕ → Wait) → (ℕ → Option ℕ) → Type 0
NamedAreWoken c history marked unstamped wait woken_from =
    (t : ℕ) → one (is_named history t)
    ≡ sum_below c.threads (λ u. signals_noted t (unstamped u) (marked u))
    + is_signalled (wait t) + some (woken_from t)

-- each mark of a list is by signal
abbrev pub AreSignals : List Mark → Type 0
AreSignals [] = ⊤
AreSignals (m ∷ ms) = (m.cause ≡ BySignal) × AreSignals ms

-- Until the halt word is set no sleeper is aborted: each mark and each wake is by a signal, and no sleep that was ended
-- is to be noted
unfoldable pub MarksAreSignals : Bool → (ℕ → List Mark) → Type 0
MarksAreSignals halted marked = halted ≡ false → (t : ℕ) → AreSignals (marked t)

unfoldable pub WokenBySignal : Bool → (ℕ → Wait) → Type 0
WokenBySignal halted wait =
    halted ≡ false → (t : ℕ) (q : QueueName) (cause : Cause) → wait t ≡ Woken q cause
    → cause ≡ BySignal

unfoldable pub NoSleepIsHalted : Bool → (ℕ → Option Note) → Type 0
NoSleepIsHalted halted noted =
    halted ≡ false → (t : ℕ) (q : QueueName) → noted t ≡ Some (SleepHalted q) → ⊥

-- 2. Aborts from channels

-- how often a thread stands in a marked list by an abort from a channel
abbrev pub aborts : ℕ → List Mark → ℕ
aborts t [] = 0
aborts t (m ∷ ms) =
    one (is_chan m.queue && (not (is_signal m.cause) && (t == m.thread))) + aborts t ms

-- 1 where the wait word says that an abort woke the thread from a channel
abbrev pub is_aborted : Wait → ℕ
is_aborted Running = 0
is_aborted Queued = 0
is_aborted (Woken q cause) = one (is_chan q && not (is_signal cause))

-- 1 where it is to be noted that a sleep on a channel was ended
abbrev pub is_chan_halt : Option Note → ℕ
is_chan_halt None = 0
is_chan_halt (Some (OrderRefused l k)) = 0
is_chan_halt (Some (SleepHalted q)) = one (is_chan q)

-- how often a thread was aborted off a channel since its last entry: it is in a marked list or woken by that, or has
-- resumed, and has yet to note it
unfoldable pub aborted : Config → (ℕ → List Mark) → (ℕ → Wait) → (ℕ → Option Note) → ℕ → ℕ
aborted c marked wait noted t =
    sum_below c.threads (λ u. aborts t (marked u)) + is_aborted (wait t) + is_chan_halt (noted t)

-- A thread that was aborted off a channel (off says how often) was so once, and sleeps in the history on: its newest
-- entry is the Sleeps entry, and no waking names it since
unfoldable pub AbortedSleep : List Entry → (ℕ → ℕ) → (ℕ → List Entry) → Type 0
AbortedSleep history off log =
    (t : ℕ) → off t + one (is_named history t) ≤ one (is_taking_back (log t))

-- 3. Who stands on a channel's queue, is in a marked list from there, or was woken

-- its newest entry is the Sleeps entry
unfoldable pub SleepersSlept : (ℕ → Option QueueName) → (ℕ → List Entry) → Type 0
SleepersSlept blocked_on log =
    (t d : ℕ) → blocked_on t ≡ Some (chan_queue d) → has_slept d (log t) ≡ true

-- so is that of a thread that was woken from there,
unfoldable pub WokenSlept : (ℕ → Wait) → (ℕ → List Entry) → Type 0
WokenSlept wait log =
    (t d : ℕ) (cause : Cause) → wait t ≡ Woken (chan_queue d) cause → has_slept d (log t) ≡ true

-- and of one that says from which channel it was woken
unfoldable pub ResumedSlept : (ℕ → Option ℕ) → (ℕ → List Entry) → Type 0
ResumedSlept woken_from log =
    (t d : ℕ) → woken_from t ≡ Some d → has_slept d (log t) ≡ true

-- who stands there wants nothing
unfoldable pub SleepersWantNothing : (ℕ → Option QueueName) → (ℕ → Option ℕ) → Type 0
SleepersWantNothing blocked_on wanted =
    (t d : ℕ) → blocked_on t ≡ Some (chan_queue d) → wanted t ≡ None

-- and has not been woken since
unfoldable pub SleepersAreUnwoken : (ℕ → Option QueueName) → (ℕ → Option ℕ) → Type 0
SleepersAreUnwoken blocked_on woken_from =
    (t d : ℕ) → blocked_on t ≡ Some (chan_queue d) → woken_from t ≡ None

-- and has no sleep to note that was ended
unfoldable pub SleepersAreUnhalted : (ℕ → Option QueueName) → (ℕ → Option Note) → Type 0
SleepersAreUnhalted blocked_on noted =
    (t d : ℕ) → blocked_on t ≡ Some (chan_queue d) → is_chan_halt (noted t) ≡ 0

-- 4. Who sleeps in the history. A thread that was aborted does so while it takes the lock of its wait back

-- a thread that sleeps on a channel, and wasn't aborted, stands on no other queue
unfoldable pub AsleepStandThere : List Entry → (ℕ → Option QueueName) → (ℕ → ℕ) → Type 0
AsleepStandThere history blocked_on off =
    (t d : ℕ) (q : QueueName)
    → is_asleep history d t ≡ true → off t ≡ 0 → blocked_on t ≡ Some q → q ≡ chan_queue d

-- where it stands on none it is on its way to the channel's, and at work on the channel
unfoldable pub AsleepAreOnTheirWay : List Entry → (ℕ → Option QueueName) → (ℕ → ℕ) → (ℕ → Wait)
    → (ℕ → Option ℕ) → (ℕ → Option ℕ) → Type 0
AsleepAreOnTheirWay history blocked_on off wait wanted at_work =
    (t d : ℕ) → is_asleep history d t ≡ true → off t ≡ 0 → blocked_on t ≡ None
    → (wait t ≡ Queued) × (wanted t ≡ None) × (at_work d ≡ Some t)

-- 5. The order of a channel's queue

-- each has slept longer than those behind it
abbrev pub InOrder : List Entry → List Waiter → Type 0
InOrder es [] = ⊤
InOrder es (w ∷ ws) =
    Each (λ v. entries_up_to es w.thread < entries_up_to es v.thread) ws × InOrder es ws

-- sleepers stand in the order of their Sleeps entries
unfoldable pub SleepersInOrder : List Entry → (QueueName → Lists) → Type 0
SleepersInOrder history lists = (d : ℕ) → InOrder history (lists (chan_queue d)).exclusive

-- who is on its way to the channel comes last
unfoldable pub LatecomersAreLater : List Entry → (ℕ → Option QueueName) → (ℕ → ℕ)
    → (QueueName → Lists) → Type 0
LatecomersAreLater history blocked_on off lists =
    (t d : ℕ) → is_asleep history d t ≡ true → off t ≡ 0 → blocked_on t ≡ None
    → Each (λ w. entries_up_to history w.thread < entries_up_to history t)
    (lists (chan_queue d)).exclusive

-- each kept priority is its thread's base priority
unfoldable pub SleepersKeepBase : (ℕ → ℕ) → (QueueName → Lists) → Type 0
SleepersKeepBase base lists =
    (d : ℕ) → Each (λ w. w.kept ≡ base w.thread) (lists (chan_queue d)).exclusive

-- sleepers are exclusive waiters
unfoldable pub SleepersAreExclusive : (QueueName → Lists) → Type 0
SleepersAreExclusive lists = (d : ℕ) → (lists (chan_queue d)).shared ≡ []

-- 6. A wake that is not noted yet

-- those that it took off are the marked list's from the channel, by signal
unfoldable pub UnnotedAreMarked : (ℕ → Option Wake) → (ℕ → List Mark) → Type 0
UnnotedAreMarked unstamped marked =
    (t : ℕ) (w : Wake) (u : ℕ) → unstamped t ≡ Some w
    → (times u w.taken ≡ signals u (marked t))
    × (times u w.taken ≡ times_marked u (chan_queue w.chan) (marked t))

-- its thread is at work on the channel
unfoldable pub UnnotedIsAtWork : (ℕ → Option Wake) → (ℕ → Option ℕ) → Type 0
UnnotedIsAtWork unstamped at_work =
    (t : ℕ) (w : Wake) → unstamped t ≡ Some w → at_work w.chan ≡ Some t

-- A wake of all leaves nobody. A wake of one that took nobody found nobody; else it took one, and nobody that is left
-- goes before that
abbrev pub LeavesNobodyBefore : Config → List Entry → Bool → List ℕ → List Waiter → Type 0
LeavesNobodyBefore c es true us ws = ws ≡ []
LeavesNobodyBefore c es false [] ws = ws ≡ []
LeavesNobodyBefore c es false (u ∷ us) ws =
    (us ≡ []) × Each (λ w. goes_before c es w.thread u ≡ false) ws

-- it took whom it may
unfoldable pub UnnotedIsFair : Config → List Entry → (ℕ → Option Wake) → (QueueName → Lists)
    → Type 0
UnnotedIsFair c history unstamped lists =
    (t : ℕ) (w : Wake) → t < c.threads → unstamped t ≡ Some w
    → LeavesNobodyBefore c history w.all w.taken (lists (chan_queue w.chan)).exclusive

-- 7. Who is passed over by a waking since its last entry was aborted, and has yet to note that
unfoldable pub PassedOverAreAborted : Config → List Entry → (ℕ → ℕ) → Type 0
PassedOverAreAborted c history off =
    (t : ℕ) → is_passed_over c history t ≡ true → 1 ≤ off t
