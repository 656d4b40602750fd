-- The text that a run prints: a line for each entry of the history, for each queue that isn't empty, for each thread
-- and for each key of the tables, and a last line that says how the run ended. A line is its words with one space
-- between them, and byte 10. Numbers are decimal, and the words are those of the script.
use Rattle.std.specs.Prelude.{ℕ, ◌/◌, ◌%◌, ◌==◌, if◌then◌else◌, List, [], ◌∷◌, ◌++◌, length, map, flat_map, codes, Option, Some, None, decimal}
use Rattle.std.specs.List.{zip}
use Rattle.lock_model.specs.Operations.{operations_in_all}
pub use Rattle.lock_model.specs.Plans.{thread_name, lock_name, lock_kind, chan_name, is_cond, class_name}
use Rattle.lock_model.specs.declared.plan.Kind.{Kind}
use Rattle.lock_model.specs.declared.plan.Kind.TheVariants.{Mtx, Rw, Sx}
use Rattle.lock_model.specs.declared.plan.Mode.{Mode}
use Rattle.lock_model.specs.declared.plan.Mode.TheVariants.{Excl, Shared}
use Rattle.lock_model.specs.declared.plan.Plan.{Plan}
use Rattle.lock_model.specs.declared.plan.QueueName.{QueueName}
use Rattle.lock_model.specs.declared.plan.QueueName.TheVariants as queue
use Rattle.lock_model.specs.Queues.{Waiter}
use Rattle.lock_model.specs.declared.event.Entry.{Entry}
use Rattle.lock_model.specs.declared.event.Event.{Event}
use Rattle.lock_model.specs.declared.event.Event.TheVariants.{Locked, Tried, Busy, Unlocked, Set, Added, Got, Base, Shown, Sleeps, Woke, HaltedChan, HaltedLock, WokeOne, WokeAll, Reversed}

-- 1. Words of an event

-- how the words of a kind and mode begin: lock, rlock, wlock, slock, xlock
abbrev pub mode_letter : Kind → Mode → List ℕ
mode_letter Mtx m = []
mode_letter Rw Excl = codes "w"
mode_letter Rw Shared = codes "r"
mode_letter Sx Excl = codes "x"
mode_letter Sx Shared = codes "s"

-- a word for a condition variable, or else for a channel
abbrev pub chan_word : Plan → ℕ → List ℕ → List ℕ → List ℕ
chan_word plan c on_cond on_chan = if is_cond plan c then on_cond else on_chan

-- those of the names whose bits are set, the first name's bit being the lowest
abbrev pub names_at_bits : List (List ℕ) → ℕ → List (List ℕ)
names_at_bits [] bits = []
names_at_bits (name ∷ names) bits =
    if bits % 2 == 1 then name ∷ names_at_bits names (bits / 2) else names_at_bits names (bits / 2)

abbrev pub or_dash : List (List ℕ) → List (List ℕ)
or_dash [] = codes "-" ∷ []
or_dash (word ∷ words) = word ∷ words

-- the threads that a waking took, by number, or a dash
abbrev pub woken_words : Plan → ℕ → List (List ℕ)
woken_words plan woken = or_dash (names_at_bits (map (λ d. d.name) plan.threads) woken)

abbrev pub found_word : Option ℕ → List ℕ
found_word None = codes "-"
found_word (Some value) = decimal value

abbrev pub event_words : Plan → Event → List (List ℕ)
event_words plan (Locked l m) =
    (mode_letter (lock_kind plan l.0) m ++ codes "lock") ∷ lock_name plan l.0 ∷ []
event_words plan (Tried l m) =
    (codes "try" ++ mode_letter (lock_kind plan l.0) m ++ codes "lock") ∷ lock_name plan l.0 ∷ []
event_words plan (Busy l seen) = codes "busy" ∷ lock_name plan l.0 ∷ decimal seen ∷ []
event_words plan (Unlocked l m) =
    (mode_letter (lock_kind plan l.0) m ++ codes "unlock") ∷ lock_name plan l.0 ∷ []
event_words plan (Set l key value) =
    codes "set" ∷ lock_name plan l.0 ∷ decimal key ∷ decimal value ∷ []
event_words plan (Added l key amount) =
    codes "add" ∷ lock_name plan l.0 ∷ decimal key ∷ decimal amount ∷ []
event_words plan (Got l key found) =
    codes "get" ∷ lock_name plan l.0 ∷ decimal key ∷ found_word found ∷ []
event_words plan (Base prio) = codes "prio" ∷ decimal prio.0 ∷ []
event_words plan (Shown base eff) = codes "show" ∷ decimal base.0 ∷ decimal eff.0 ∷ []
event_words plan (Sleeps c) =
    chan_word plan c.0 (codes "wait") (codes "msleep") ∷ chan_name plan c.0 ∷ []
event_words plan (Woke c) = codes "woke" ∷ chan_name plan c.0 ∷ []
event_words plan (HaltedChan c) = codes "halted" ∷ chan_name plan c.0 ∷ []
event_words plan (HaltedLock l) = codes "halted" ∷ lock_name plan l.0 ∷ []
event_words plan (WokeOne c woken) =
    chan_word plan c.0 (codes "signal") (codes "wakeup_one") ∷ chan_name plan c.0
    ∷ woken_words plan woken
event_words plan (WokeAll c woken) =
    chan_word plan c.0 (codes "broadcast") (codes "wakeup") ∷ chan_name plan c.0
    ∷ woken_words plan woken
event_words plan (Reversed l held) =
    codes "reversed" ∷ lock_name plan l.0 ∷ class_name plan held.0 ∷ []

-- 2. Lines

-- words, each behind a space
abbrev pub spaced : List (List ℕ) → List ℕ
spaced words = flat_map (λ word. 32 ∷ word) words

-- a line of a first word and others
abbrev pub line_of : List ℕ → List (List ℕ) → List ℕ
line_of first others = first ++ spaced others ++ 10 ∷ []

abbrev pub entry_line : Plan → Entry → List ℕ
entry_line plan e =
    line_of (decimal e.ticket) (thread_name plan e.thread.0 ∷ event_words plan e.event)

-- a queue that isn't empty in the end: the slot of its chain, the thread whose object is its head, those whose
-- objects are on its free list, the first of it first, and who waits on either side, from the front
pub record QueueLine : Type 0 where
  pub queue : QueueName
  pub slot : ℕ
  pub head : ℕ
  pub free : List ℕ
  pub exclusive : List Waiter
  pub shared : List Waiter

-- the lock, condition variable or channel whose queue it is
abbrev pub queue_word : Plan → QueueName → List ℕ
queue_word plan (queue.Lock l) = lock_name plan l.0
queue_word plan (queue.Chan c) = chan_name plan c.0

-- a waiter and its kept priority, joined by `@`
abbrev pub waiter_word : Plan → Waiter → List ℕ
waiter_word plan w = thread_name plan w.thread ++ 64 ∷ decimal w.kept

-- items joined by commas, or a dash where there is none
abbrev pub joined : List (List ℕ) → List ℕ
joined [] = codes "-"
joined (item ∷ items) = item ++ flat_map (λ other. 44 ∷ other) items

abbrev pub queue_line : Plan → QueueLine → List ℕ
queue_line plan q = line_of (codes "queue") (
    queue_word plan q.queue ∷ codes "slot" ∷ decimal q.slot ∷ codes "head" ∷ thread_name plan q.head
    ∷ codes "free" ∷ joined (map (thread_name plan) q.free)
    ∷ codes "excl" ∷ joined (map (waiter_word plan) q.exclusive)
    ∷ codes "shared" ∷ joined (map (waiter_word plan) q.shared) ∷ [])

-- a thread's base and effective priority in the end
abbrev pub thread_line : List ℕ × (ℕ × ℕ) → List ℕ
thread_line t =
    line_of (codes "thread") (t.0 ∷ codes "base" ∷ decimal t.1.0 ∷ codes "eff" ∷ decimal t.1.1 ∷ [])

-- a key of a lock's table, and its value
abbrev pub table_line : Plan → (ℕ × ℕ) × ℕ → List ℕ
table_line plan row =
    line_of (codes "table") (lock_name plan row.0.0 ∷ decimal row.0.1 ∷ decimal row.1 ∷ [])

-- 3. The whole text

-- how a run ended: every thread has ended, nobody could go on, an order was refused, or the turns were used up
pub data Ending : Type 0 where
  IsDone : Ending
  IsStuck : Ending
  IsReversed : Ending
  IsTooLong : Ending

abbrev pub ending_word : Ending → List ℕ
ending_word IsDone = codes "ok"
ending_word IsStuck = codes "stuck"
ending_word IsReversed = codes "reversed"
ending_word IsTooLong = codes "toolong"

-- what a run leaves to be printed: the entries in order of their tickets, the queues that aren't empty, locks by
-- number and then channels by number, each thread's base and effective priority, and the keys that are present with
-- their values, by lock and then by key
pub record Outcome : Type 0 where
  pub history : List Entry
  pub queues : List QueueLine
  pub finals : List (ℕ × ℕ)
  pub tables : List ((ℕ × ℕ) × ℕ)
  pub ending : Ending

unfoldable pub text_of : Plan → Outcome → List ℕ
text_of plan o =
    flat_map (entry_line plan) o.history
    ++ (flat_map (queue_line plan) o.queues
    ++ (flat_map thread_line (zip (map (λ d. d.name) plan.threads) o.finals)
    ++ (flat_map (table_line plan) o.tables
    ++ line_of (ending_word o.ending) [])))

-- the text for a source that is no script
abbrev pub fault_text : ℕ → ℕ → List ℕ
fault_text line code = line_of (codes "line") (decimal line ∷ codes "code" ∷ decimal code ∷ [])

-- how many threads, locks, conditions together with channels and classes a script has, and so many operations
abbrev pub count_words : Plan → ℕ → List (List ℕ)
count_words plan operations =
    codes "threads" ∷ decimal (length plan.threads) ∷ codes "locks" ∷ decimal (length plan.locks)
    ∷ codes "channels" ∷ decimal (length plan.chans)
    ∷ codes "classes" ∷ decimal (length plan.classes)
    ∷ codes "operations" ∷ decimal operations ∷ []

-- the text for a script that is only read; each `endtry` is an operation
abbrev pub counts_text : Plan → List ℕ
counts_text plan = line_of (codes "ok") (count_words plan (operations_in_all plan))
