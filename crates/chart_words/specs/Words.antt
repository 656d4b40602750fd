-- What a chart says of its bars, arrows and marks, and of the queues and threads that it names.
use Rattle.std.specs.Prelude.{ℕ, Bool, ◌==◌, if◌then◌else◌, List, [], ◌∷◌, ◌++◌, codes, decimal, Option, Some, None}
use Rattle.lock_model.specs.Text.{spaced, mode_letter, found_word, queue_word, thread_name, lock_name, lock_kind, chan_name, class_name}
use Rattle.lock_model.specs.Events.{wakes_nobody}
use Rattle.lock_model.specs.Plans.{lock_class}
use Rattle.lock_model.specs.declared.event.Event.{Event}
use Rattle.lock_model.specs.declared.event.Event.TheVariants.{Locked, Tried, Busy, Unlocked, Set, Added, Got, Base, Shown, Sleeps, Woke, HaltedChan, HaltedLock, WokeOne, WokeAll, Reversed}
use Rattle.lock_model.specs.declared.numbers.ClassNo.{ClassNo}
use Rattle.lock_model.specs.declared.numbers.LockNo.{LockNo}
use Rattle.lock_model.specs.declared.numbers.ThreadNo.{ThreadNo}
use Rattle.lock_model.specs.declared.plan.Kind.{Kind}
use Rattle.lock_model.specs.declared.plan.Kind.TheVariants.{Mtx, Rw, Sx}
use Rattle.lock_model.specs.declared.plan.Mode.{Mode}
use Rattle.lock_model.specs.declared.plan.Mode.TheVariants.{Excl, Shared}
use Rattle.lock_model.specs.declared.plan.Plan.{Plan}
use Rattle.lock_model.specs.declared.plan.QueueName.{QueueName}
use Rattle.lock_model.specs.declared.plan.QueueName.TheVariants as queue
use Rattle.lock_model.specs.declared.turn.StepKind.{StepKind}
use Rattle.lock_model.specs.declared.turn.StepKind.TheVariants as step
use Rattle.chart_layout.specs.declared.layout.Arrow.{Arrow}
use Rattle.chart_layout.specs.declared.layout.ArrowKind.{ArrowKind}
use Rattle.chart_layout.specs.declared.layout.ArrowKind.TheVariants as arrow
use Rattle.chart_layout.specs.declared.layout.BarKind.{BarKind}
use Rattle.chart_layout.specs.declared.layout.BarKind.TheVariants as bar
use Rattle.chart_layout.specs.declared.layout.MarkKind.{MarkKind}
use Rattle.chart_layout.specs.declared.layout.MarkKind.TheVariants as mark

-- 1. Queues and threads

-- the name of the lock, condition variable or channel that a queue belongs to
abbrev pub queue_name : Plan → QueueName → List ℕ
queue_name plan q = queue_word plan q

-- what waiting on a queue is called, and the queue's name: `waits for bus`, `sleeps on ready`
unfoldable pub queue_words : Plan → QueueName → List ℕ
queue_words plan (queue.Lock l) = codes "waits for " ++ lock_name plan l.0
queue_words plan (queue.Chan c) = codes "sleeps on " ++ chan_name plan c.0

-- names that follow another: each behind a comma, but the last behind `and`
abbrev pub between : List ThreadNo → List ℕ
between [] = codes " and "
between (t ∷ ts) = codes ", "

abbrev pub other_names : Plan → List ThreadNo → List ℕ
other_names plan [] = []
other_names plan (t ∷ ts) = between ts ++ thread_name plan t.0 ++ other_names plan ts

-- the names of threads: `a`, `a and b`, `a, b and c`
unfoldable pub thread_names : Plan → List ThreadNo → List ℕ
thread_names plan [] = []
thread_names plan (t ∷ ts) = thread_name plan t.0 ++ other_names plan ts

-- 2. Bars

-- what holding a lock of that kind in that mode is called
abbrev pub hold_word : Kind → Mode → List ℕ
hold_word kind Excl = codes "holds"
hold_word Mtx Shared = codes "holds"
hold_word Rw Shared = codes "reads"
hold_word Sx Shared = codes "shares"

-- what a bar says: `holds bus`, `waits for bus`, `taken off`, `woken`, `walks`
unfoldable pub bar_words : Plan → BarKind → List ℕ
bar_words plan (bar.Holds l mode) =
    hold_word (lock_kind plan l.0) mode ++ 32 ∷ lock_name plan l.0
bar_words plan (bar.Waits q) = queue_words plan q
bar_words plan (bar.TakenOff q) = codes "taken off"
bar_words plan (bar.Woken q) = codes "woken"
bar_words plan bar.Walks = codes "walks"

-- 3. Arrows

-- what an arrow says; a loan names its priority where the owner didn't run by it already
abbrev pub arrow_kind_words : ArrowKind → List ℕ
arrow_kind_words (arrow.Lends before prio) =
    if before.0 == prio.0 then codes "lends" else codes "lends" ++ 32 ∷ decimal prio.0
arrow_kind_words arrow.Wakes = codes "wakes"
arrow_kind_words arrow.BlockedOn = codes "blocks on"
arrow_kind_words arrow.Behind = codes "waits behind"
arrow_kind_words arrow.Refused = codes "may not wait for"

-- those of an arrow, by its kind
unfoldable pub arrow_words : Arrow → List ℕ
arrow_words arrow = arrow_kind_words arrow.kind

-- 4. Marks

-- what a step of a turn is called
unfoldable pub verb : StepKind → List ℕ
verb step.Gain = codes "gain"
verb step.Claim = codes "claim"
verb step.Drop = codes "give up"
verb step.Enter = codes "block"
verb step.OpenUp = codes "give up"
verb step.Mark = codes "wake"
verb step.Resume = codes "awake"
verb step.Lend = codes "lend"
verb step.Shift = codes "sort"
verb step.WalkEnd = codes "walk ends"
verb step.Add = codes "sleep"
verb step.Wake = codes "take off"
verb step.Note = codes "note"

-- the word of an event; a lock's name stands in it where the lock is taken, released or refused
unfoldable pub event_word : Plan → Event → List ℕ
event_word plan (Locked l m) =
    mode_letter (lock_kind plan l.0) m ++ codes "lock" ++ 32 ∷ lock_name plan l.0
event_word plan (Tried l m) =
    codes "try" ++ mode_letter (lock_kind plan l.0) m ++ codes "lock" ++ 32 ∷ lock_name plan l.0
event_word plan (Busy l seen) = codes "busy" ++ 32 ∷ lock_name plan l.0
event_word plan (Unlocked l m) =
    mode_letter (lock_kind plan l.0) m ++ codes "unlock" ++ 32 ∷ lock_name plan l.0
event_word plan (Set l key value) = codes "set"
event_word plan (Added l key amount) = codes "add"
event_word plan (Got l key found) = codes "get"
event_word plan (Base prio) = codes "prio"
event_word plan (Shown base eff) = codes "show"
event_word plan (Sleeps c) = codes "sleep"
event_word plan (Woke c) = codes "woke"
event_word plan (HaltedChan c) = codes "halted"
event_word plan (HaltedLock l) = codes "halted"
event_word plan (WokeOne c woken) = codes "signal"
event_word plan (WokeAll c woken) = codes "wake all"
event_word plan (Reversed l held) = codes "refused" ++ 32 ∷ lock_name plan l.0

-- the word that stands at a mark; an idle turn has none
unfoldable pub mark_words : Plan → MarkKind → List ℕ
mark_words plan (mark.Noted event) = event_word plan event
mark_words plan (mark.Did kind) = verb kind
mark_words plan mark.Idle = []

-- what an event tells beside its word: keys, values and priorities, queues, and the class
-- under which a take was refused
unfoldable pub note_words : Plan → Event → List ℕ
note_words plan (Locked l m) = []
note_words plan (Tried l m) = []
note_words plan (Busy l seen) = spaced (decimal seen ∷ [])
note_words plan (Unlocked l m) = []
note_words plan (Set l key value) = spaced (lock_name plan l.0 ∷ decimal key ∷ decimal value ∷ [])
note_words plan (Added l key amount) =
    spaced (lock_name plan l.0 ∷ decimal key ∷ decimal amount ∷ [])
note_words plan (Got l key found) =
    spaced (lock_name plan l.0 ∷ decimal key ∷ found_word found ∷ [])
note_words plan (Base prio) = spaced (decimal prio.0 ∷ [])
note_words plan (Shown base eff) = spaced (decimal base.0 ∷ decimal eff.0 ∷ [])
note_words plan (Sleeps c) = spaced (chan_name plan c.0 ∷ [])
note_words plan (Woke c) = spaced (chan_name plan c.0 ∷ [])
note_words plan (HaltedChan c) = spaced (chan_name plan c.0 ∷ [])
note_words plan (HaltedLock l) = spaced (lock_name plan l.0 ∷ [])
note_words plan (WokeOne c woken) = spaced (chan_name plan c.0 ∷ [])
note_words plan (WokeAll c woken) = spaced (chan_name plan c.0 ∷ [])
note_words plan (Reversed l held) = codes " under class " ++ class_name plan held.0

-- why a take was refused, by a class: the thread holds a lock of that, which is the lock's own, or one behind which the
-- lock's own may not come
abbrev pub order_words : Bool → List ℕ
order_words is_same =
    if is_same then codes ": its class is that of " else codes ": its class must come before that of "

abbrev pub refusal_words : Plan → LockNo → ClassNo → Option LockNo → List ℕ
refusal_words plan l class None = codes " under class " ++ class_name plan class.0
refusal_words plan l class (Some held) =
    order_words (lock_class plan l.0 == class.0) ++ lock_name plan held.0
    ++ codes ", which is held"

-- what is said where a wake found nobody asleep
unfoldable pub lost_words : Event → List ℕ
lost_words event = if wakes_nobody event then codes ": lost, nobody sleeps there" else []
