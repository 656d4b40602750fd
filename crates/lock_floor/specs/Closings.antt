-- What a floor leaves when it is closed.
use Rattle.std.specs.Prelude.{◌≡◌, ◌≢◌, ℕ, ◌^◌, ◌<◌, ◌≤◌, true, false, List, [], length, map, reverse, slice_index_or, IsSome, None}
use Rattle.std.specs.declared.alloc.Global.{Global}
use Rattle.std.specs.declared.boxed.Box.{Box}
use Rattle.lock_model.specs.BusyWords.{BusyIsExplained}
use Rattle.lock_model.specs.Counts.{times}
use Rattle.lock_model.specs.Halts.{HaltsAreHonest}
use Rattle.lock_model.specs.History.{base_in, entries_of, tables_of}
use Rattle.lock_model.specs.Legal.{IsLegalSoFar}
use Rattle.lock_model.specs.Takes.{OrdersAreLegal}
use Rattle.lock_model.specs.declared.event.Entry.{Entry}
use Rattle.lock_state.specs.Facts.Halts.{NobodyIsHalted}
use Rattle.lock_state.specs.State.{State}
use Rattle.lock_state.specs.Steps.{Step}
use Rattle.thread_records.specs.Records.{Record}
use Rattle.thread_records.specs.declared.record.ThreadRec.{ThreadRec}
use Rattle.floor_table.specs.Descriptions.{config_in}
use Rattle.floor_table.specs.declared.description.Description.{Description}
use Rattle.floor_table.specs.Steps.{IsSound}
use Rattle.lock_floor.specs.declared.closing.Closing.{Closing}

-- Logs are those of these threads, in their order, behind a history, whose newest entry is first: each is its thread's
-- part of the history, the oldest entry first, and no other thread has a part. So the logs, merged by the tickets of
-- their entries, are the history.
pub record AreLogsOf (threads : List ℕ) (logs : List (List Entry)) (history : List Entry) : Type 0
  where
    pub parts : logs ≡ map (λ t. reverse (entries_of history t)) threads
    pub once : (t : ℕ) → times t threads ≤ 1
    pub no_other : (t : ℕ) → entries_of history t ≢ [] → times t threads ≡ 1

-- a thread's record behind a history: it has its last base, a turnstile and a sleep queue at home, and no loan, and it
-- names no queue
pub record IsHome (floor : Description) (history : List Entry) (t : ℕ) (r : Record) : Type 0 where
  pub thread : r.thread ≡ t
  pub base : r.base ≡ base_in (config_in floor) history t
  pub turnstile : IsSome r.turnstile
  pub sleep_queue : IsSome r.sleep_queue
  pub no_loans : r.loans ≡ []
  pub nowhere : r.on ≡ None

abbrev pub record_at : List (Box ThreadRec Global) → ℕ → Box ThreadRec Global → Record
record_at recs t d = (slice_index_or recs t d).value

-- a part of two records differs
abbrev pub Differ : {A : Type 0} → (Record → A) → List (Box ThreadRec Global) → Type 0
Differ part recs =
    (t u : ℕ) (d : Box ThreadRec Global) → t < length recs → u < length recs
    → part (record_at recs t d) ≡ part (record_at recs u d) → t ≡ u

-- What is left of a floor, which took in the passes of these threads, in that order: the logs of a history that keeps
-- the law, but for its part on operations; each thread's record, in its place; the tables that the history leaves; and
-- whether the halt word was set. Steps of the floor's threads, the newest first, led to a last state, which is lawful
-- as each between two steps is, with that history and that halt word; and where it wasn't set, nobody was halted or
-- passed over
pub record IsClosing (floor : Description) (threads : List ℕ) (x : Closing) : Type 0 where
  pub history : List Entry
  pub logs : AreLogsOf threads (map (λ b. b.entries) x.logs.items) history
  pub legal : IsLegalSoFar (config_in floor) true history
  pub orders_are_legal : OrdersAreLegal (config_in floor) history
  pub halts_are_honest : HaltsAreHonest (config_in floor) history
  pub busies_are_explained : BusyIsExplained (config_in floor) history
  pub few : length history < 2 ^ 32
  pub count : length x.recs.items ≡ length floor.threads
  pub home : (t : ℕ) (d : Box ThreadRec Global) → t < length floor.threads
      → IsHome floor history t (record_at x.recs.items t d)
  pub turnstiles_differ : Differ (λ r. r.turnstile) x.recs.items
  pub sleep_queues_differ : Differ (λ r. r.sleep_queue) x.recs.items
  pub tables : x.tables.present ≡ tables_of history
  pub past : List Step
  pub last : State
  pub sound : IsSound floor past last
  pub left : last.history ≡ history
  pub halted : x.halted ≡ last.halted
  pub unhalted : x.halted ≡ false → NobodyIsHalted (config_in floor) history
