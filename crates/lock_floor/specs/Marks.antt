-- Those whom a thread took off a queue and has yet to wake, and how it wakes the first of them.
use Rattle.std.specs.Prelude.{◌≡◌, ◌≢◌, ◌⊎◌, ℕ, ◌<◌, true, List, [], ◌∷◌, ◌++◌, length, if◌then◌else◌, IsSome, None, Some}
use Rattle.std.specs.Box.{with_value}
use Rattle.std.specs.List.{All}
use Rattle.std.specs.declared.alloc.Global.{Global}
use Rattle.std.specs.declared.boxed.Box.{Box}
use Rattle.atomic_table.specs.Table.{rest}
use Rattle.lock_model.specs.Config.{Config}
use Rattle.lock_model.specs.Queues.{Mark, is_turnstile_queue}
use Rattle.lock_model.specs.declared.plan.QueueName.{QueueName}
use Rattle.lock_objects.specs.Marked.{AreOfKind, places_of, marks_in}
use Rattle.lock_objects.specs.declared.marked.Marked.{Marked}
use Rattle.lock_state.specs.Steps.{Step, TakesItem, GivesItem, CountsIn, Marks, is_halting}
use Rattle.lock_state.specs.Steps.Items.{RecordOf}
use Rattle.lock_state.specs.Steps.Turnstiles.{phase_marked}
use Rattle.thread_records.specs.Records.{Record as RecordSeen}
use Rattle.thread_records.specs.declared.record.ThreadRec.{ThreadRec}
use Rattle.floor_table.specs.Descriptions.{config_in}
use Rattle.floor_table.specs.Shares.{Doing}
use Rattle.floor_table.specs.Steps.{MayMake, Makes, MakesEach}
use Rattle.floor_table.specs.Views.{Knowledge, StandsOn, seeing}
use Rattle.floor_table.specs.declared.description.Description.{Description}
use Rattle.floor_table.specs.declared.slot.Slot.{Slot}
use Rattle.floor_table.specs.declared.slot.Slot.TheVariants.{Record}
use Rattle.lock_floor.specs.Counts.{counted_in_more}
use Rattle.lock_floor.specs.Passes.{IsGoing, IsOffTheWay}

-- 1. The marked list

-- The objects of a marked list: each is that of its mark, of a thread of the floor, and has that thread's object with
-- it. All were taken off one queue by one cause, and are waiters or sleepers as that queue is
pub record AreMarked (floor : Description) (objects : Marked) (marks : List Mark) : Type 0 where
  pub queue : QueueName
  pub same : marks ≡ marks_in queue objects
  pub kind : AreOfKind (config_in floor) objects queue
  pub held : All (λ p. IsSome p.object) (places_of objects)
  pub of_floor : All (λ m. m.thread < length floor.threads) marks

-- 2. The first of it is woken

-- a record that has its thread's object back, and names no queue
abbrev pub record_marked : Config → Mark → RecordSeen → RecordSeen
record_marked c m r =
    if is_turnstile_queue c m.queue then record r { turnstile = Some m.object; on = None } else
    record r { sleep_queue = Some m.object; on = None }

-- the record is the marked thread's, and its object is away
pub record LacksObject (c : Config) (m : Mark) (r : RecordSeen) : Type 0 where
  pub thread : r.thread ≡ m.thread
  pub away : (if is_turnstile_queue c m.queue then r.turnstile else r.sleep_queue) ≡ None

-- the values that are out, after the record that was taken last has its object back
abbrev pub out_marked : Config → Mark → Box ThreadRec Global → List (ℕ × Slot) → List (ℕ × Slot)
out_marked c m b out = (m.thread, Record (with_value b (record_marked c m b.value))) ∷ rest out

-- after the first of the marked list was woken, with these values out then
abbrev pub marked_first : Knowledge → Mark → List Mark → List (ℕ × Slot) → Knowledge
marked_first v m ms out =
    let after : Doing = record v.share.doing {
      marked = ms;
      counting = None;
      phase = phase_marked v.thread m.thread v.share.doing.phase;
    } in
    record v { share = record v.share { doing = after }; out = out }

-- somebody is in the marked list, and the first one's record was taken last
pub record HasFirstOut (v : Knowledge) : Type 0 where
  pub mark : Mark
  pub others : List Mark
  pub marked : v.share.doing.marked ≡ mark ∷ others
  pub box : Box ThreadRec Global
  pub last : v.out ≡ (mark.thread, Record box) ∷ rest v.out

-- the thread may wake the first of its marked list, whose record it took last
pub record MayMark (floor : Description) (v : Knowledge) : Type 0 where
  pub first : HasFirstOut v
  pub lacks : LacksObject (config_in floor) first.mark first.box.value
  pub may : MayMake floor v (λ s. Unit {0}) (Marks v.thread first.mark first.others ∷ [])

-- The thread woke the first of its marked list, u: it has its object back, its record names no queue, and its wait word
-- says that it was woken, all in one step. Who wakes itself stands on that queue
pub record MarksFirst (floor : Description) (u : ℕ) (old new : Knowledge) : Type 0 where
  pub first : HasFirstOut old
  pub thread : first.mark.thread ≡ u
  pub view : new ≡ seeing new.seen (marked_first old first.mark first.others
      (out_marked (config_in floor) first.mark first.box old.out))
  pub step : Makes floor (Marks old.thread first.mark first.others ∷ []) old new
  pub itself : u ≡ old.thread → old.pose ≡ StandsOn first.mark.queue

-- 3. All of it

-- these alone are left in the marked list
abbrev pub with_marks : Knowledge → List Mark → Knowledge
with_marks v ms =
    let after : Doing = record v.share.doing { marked = ms } in
    record v { share = record v.share { doing = after } }

-- the first one's record is taken, it is counted in and then woken, and the record is given back
abbrev pub wakes : ℕ → Mark → List Mark → List (List Step)
wakes t m ms =
    (TakesItem t (RecordOf m.thread) ∷ []) ∷ (CountsIn t m.thread ∷ []) ∷ (Marks t m ms ∷ [])
    ∷ (GivesItem t (RecordOf m.thread) ∷ []) ∷ []

-- each in turn
abbrev pub marking : ℕ → List Mark → List (List Step)
marking t [] = []
marking t (m ∷ ms) = wakes t m ms ++ marking t ms

-- the thread goes on, or is at halting others, and has no wake to note
abbrev pub MayWakeOthers : Knowledge → Type 0
MayWakeOthers v =
    IsGoing v
    ⊎ ((is_halting v.share.doing.phase ≡ true) × (v.share.doing.unstamped ≡ None))

-- A thread that goes on, has nothing out and counted in nobody yet may wake those of its marked list. It runs, or
-- stands on another queue than they did: so it wakes others
pub record CanMark (v : Knowledge) : Type 0 where
  pub settled : IsOffTheWay v.pose
  pub elsewhere : (q : QueueName) → v.pose ≡ StandsOn q
      → All (λ m. m.queue ≢ q) v.share.doing.marked
  pub nothing_out : v.out ≡ []
  pub going : IsGoing v
  pub uncounted : v.share.doing.counting ≡ None

-- it woke the first of them, which is that thread, and counted it in before
pub record WakesFirst (floor : Description) (t : ℕ) (old new : Knowledge) : Type 0 where
  pub mark : Mark
  pub others : List Mark
  pub marked : old.share.doing.marked ≡ mark ∷ others
  pub thread : mark.thread ≡ t
  pub view : new ≡ seeing new.seen (counted_in_more t (with_marks old others))
  pub steps : MakesEach floor (wakes old.thread mark others) old new
