-- Those that a thread took off a queue and has yet to wake, by which cause, and what the wake of one makes of its
-- record.
use Rattle.std.specs.Prelude.{◌≡◌, ◌≢◌, true, false, List, [], ◌∷◌, map, None}
use Rattle.lock_model.specs.Config.{Config}
use Rattle.lock_model.specs.Queues.{Cause, BySignal, ByAbort, Mark, is_turnstile_queue}
use Rattle.lock_model.specs.declared.plan.QueueName.{QueueName}
use Rattle.wait_objects.specs.Seen.{Node, Place}
use Rattle.thread_records.specs.Records.{Record}
use Rattle.lock_objects.specs.declared.marked.Marked.{Marked}
use Rattle.lock_objects.specs.declared.marked.Marked.TheVariants.{Waiters, Sleepers, AbortedSleepers}
use Rattle.lock_objects.specs.declared.marked.Woken.{Woken}
use Rattle.lock_objects.specs.declared.marked.Woken.TheVariants.{Waiter, Sleeper, AbortedSleeper}
use Rattle.lock_objects.specs.Represents.{mark_by}

-- who they are, each with the object that it takes back
abbrev pub places_of : Marked → List Place
places_of (Waiters ps) = ps
places_of (Sleepers ps) = ps
places_of (AbortedSleepers ps) = ps

-- by what they were taken off: sleepers alone are ever taken off by an abort
abbrev pub cause_in : Marked → Cause
cause_in (Waiters ps) = BySignal
cause_in (Sleepers ps) = BySignal
cause_in (AbortedSleepers ps) = ByAbort

-- their marks, where they were taken off that queue
abbrev pub marks_in : QueueName → Marked → List Mark
marks_in q marked = map (mark_by (cause_in marked) q) (places_of marked)

-- they are waiters or sleepers, as the queue is off which they were taken
abbrev pub AreOfKind : Config → Marked → QueueName → Type 0
AreOfKind c (Waiters ps) q = ps ≢ [] → is_turnstile_queue c q ≡ true
AreOfKind c (Sleepers ps) q = ps ≢ [] → is_turnstile_queue c q ≡ false
AreOfKind c (AbortedSleepers ps) q = ps ≢ [] → is_turnstile_queue c q ≡ false

-- the node of one of them
abbrev pub node_of : Woken → Node
node_of (Waiter b) = b.value
node_of (Sleeper b) = b.value
node_of (AbortedSleeper b) = b.value

-- by what it was taken off
abbrev pub cause_by : Woken → Cause
cause_by (Waiter b) = BySignal
cause_by (Sleeper b) = BySignal
cause_by (AbortedSleeper b) = ByAbort

-- others of its kind, taken off by its cause
abbrev pub like : Woken → List Place → Marked
like (Waiter b) ps = Waiters ps
like (Sleeper b) ps = Sleepers ps
like (AbortedSleeper b) ps = AbortedSleepers ps

-- it was the first, those that are left are of its kind and by its cause, and it stands in no list any more
pub record IsFirst (w : Woken) (old new : Marked) : Type 0 where
  pub was : old ≡ like w ((node_of w).place ∷ places_of new)
  pub left : new ≡ like w (places_of new)
  pub alone : (node_of w).next ≡ []

-- its object and its node are away
abbrev pub IsAway : Woken → Record → Type 0
IsAway (Waiter b) r = r.turnstile ≡ None
IsAway (Sleeper b) r = r.sleep_queue ≡ None
IsAway (AbortedSleeper b) r = r.sleep_queue ≡ None

-- the record with both back, and no queue named
abbrev pub record_woken : Woken → Record → Record
record_woken (Waiter b) r = record r { turnstile = b.value.place.object; on = None }
record_woken (Sleeper b) r = record r { sleep_queue = b.value.place.object; on = None }
record_woken (AbortedSleeper b) r = record r { sleep_queue = b.value.place.object; on = None }
