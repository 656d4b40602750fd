-- Facts by which halts are explained: who stands on a queue has a section open of each other lock that it holds, a lock
-- that is wanted is being taken, and at the moment of the halt each thread had ended, or slept, or waited for a lock of
-- which another had an open section.
use Rattle.std.specs.Prelude.{◌≡◌, ◌⊎◌, ℕ, ◌<◌, ◌≤◌, Bool, true, false, ◌&&◌, ◌||◌, List, [], ◌∷◌, Option, Some, None, ⊤}
use Rattle.lock_model.specs.Config.{Config}
use Rattle.lock_model.specs.Counts.{is_empty}
use Rattle.lock_model.specs.Halts.{entries_below, entries_since, is_sleeping, waits_for_another, first_was_awaited, HaltsComeSince}
use Rattle.lock_model.specs.History.{open_in, entries_of}
use Rattle.lock_model.specs.Holds.{Hold, NotHeld, Holds}
use Rattle.lock_model.specs.Law.{is_halt, passes_over}
use Rattle.lock_model.specs.Queues.{Cause, lock_queue, chan_queue}
use Rattle.lock_model.specs.declared.plan.Mode.{Mode}
use Rattle.lock_model.specs.declared.plan.QueueName.{QueueName}
use Rattle.lock_model.specs.declared.plan.QueueName.TheVariants.{Lock, Chan}
use Rattle.lock_model.specs.declared.event.Entry.{Entry}
use Rattle.lock_state.specs.State.{Wait, Woken, Note, SleepHalted, Phase}
use Rattle.lock_state.specs.Steps.LockWords.{is_woken}
use Rattle.lock_state.specs.Facts.Counts.{is_at_rest}

-- 1. Who stands on a queue

-- the lock is that of the wait on the queue
abbrev pub IsLockOf : Config → QueueName → ℕ → Type 0
IsLockOf c (Lock l) k = ⊥
IsLockOf c (Chan d) k = k ≡ c.chan_lock d.0

-- the sections of all locks that it holds are open, but that of the lock of its wait
unfoldable pub StandersAreOpen : Config → (ℕ → Option QueueName) → (ℕ → ℕ → Hold) → List Entry
    → Type 0
StandersAreOpen c blocked_on held history =
    (t : ℕ) (q : QueueName) → blocked_on t ≡ Some q → (l : ℕ) (mode : Mode)
    → held t l ≡ Holds mode → (IsLockOf c q l → ⊥) → open_in c history t l ≡ Holds mode

-- where it stands on a channel, and is parked or a finder, it has released that lock
unfoldable pub RestingHasReleased : Config → (ℕ → Phase) → (ℕ → Option QueueName)
    → (ℕ → ℕ → Hold) → Type 0
RestingHasReleased c phase blocked_on held =
    (t d : ℕ) → is_at_rest (phase t) ≡ true → blocked_on t ≡ Some (chan_queue d)
    → held t (c.chan_lock d) ≡ NotHeld

-- 2. What is taken

-- a lock that a thread wants is the one that it takes
unfoldable pub WantedIsTaken : (ℕ → Option ℕ) → (ℕ → Option ℕ) → Type 0
WantedIsTaken wanted taking = (t l : ℕ) → wanted t ≡ Some l → taking t ≡ Some l

-- a thread that stands on a channel's queue, or was woken from there, takes nothing
unfoldable pub SleepersTakeNothing : (ℕ → Option QueueName) → (ℕ → Wait) → (ℕ → Option ℕ) → Type 0
SleepersTakeNothing blocked_on wait taking =
    (t d : ℕ) → (blocked_on t ≡ Some (chan_queue d))
    ⊎ ((cause : Cause) × (wait t ≡ Woken (chan_queue d) cause)) → taking t ≡ None

-- a thread that has the halt of a take to note wants nothing, and is on no queue and not woken
unfoldable pub HaltedWantNothing : (ℕ → Option Note) → (ℕ → Option ℕ) → (ℕ → Option QueueName)
    → (ℕ → Wait) → Type 0
HaltedWantNothing noted wanted blocked_on wait =
    (t l : ℕ) → noted t ≡ Some (SleepHalted (lock_queue l))
    → (wanted t ≡ None) × (blocked_on t ≡ None) × (is_woken (wait t) ≡ false)

-- 3. The moment of the halt

-- no entry is that of a halt, and none is a waking that passes over a thread
unfoldable pub NobodyIsHalted : Config → List Entry → Type 0
NobodyIsHalted c [] = ⊤
NobodyIsHalted c (e ∷ es) =
    (is_halt e.event ≡ false) × ((t : ℕ) → passes_over c es e.event t ≡ false)
    × NobodyIsHalted c es

-- until the halt word is set nobody is halted or passed over,
unfoldable pub UnhaltedBefore : Config → Bool → List Entry → Type 0
UnhaltedBefore c halted history = halted ≡ false → NobodyIsHalted c history

-- and then only from that moment on
unfoldable pub HaltedSince : Config → Bool → ℕ → ℕ → List Entry → Type 0
HaltedSince c halted at next history =
    halted ≡ true → (at ≤ next) × HaltsComeSince c at history

-- Whether a halt at that moment has a cause with a thread. It has made no entry since, and has ended, or takes a lock
-- of which another had an open section; or it slept then; or the first entry that it has made since ended the take, or
-- the taking back, of such a lock
abbrev pub has_cause : Config → Bool → Option ℕ → ℕ → List Entry → ℕ → Bool
has_cause c ended taking at es t =
    is_empty (entries_of (entries_since at es) t)
    && (ended || waits_for_another c (entries_below at es) t taking)
    || (is_sleeping (entries_below at es) t
    || first_was_awaited c (entries_below at es) t (entries_of (entries_since at es) t))

-- so it is with each thread
unfoldable pub HaltsHaveCauses : Config → Bool → ℕ → (ℕ → Bool) → (ℕ → Option ℕ) → List Entry
    → Type 0
HaltsHaveCauses c halted at has_ended taking history =
    halted ≡ true → (t : ℕ) → t < c.threads
    → has_cause c (has_ended t) (taking t) at history t ≡ true
