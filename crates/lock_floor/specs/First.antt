-- The words, and the values behind latches, when a floor is made.
use Rattle.std.specs.Prelude.{◌≡◌, ◌≢◌, ℕ, ◌<◌, ◌≤◌, List, [], length, slice_index_or, None}
use Rattle.thread_records.specs.Records.{made}
use Rattle.floor_table.specs.Descriptions.{config_in}
use Rattle.floor_table.specs.Places.{spot, awake_line, words_for, first_cell, first_turnstile_chain, first_sleep_chain, graph_place}
use Rattle.floor_table.specs.declared.description.Description.{Description}
use Rattle.floor_table.specs.declared.slot.Slot.{Slot}
use Rattle.floor_table.specs.declared.slot.Slot.TheVariants.{Record, Cell, Turnstiles, SleepQueues, Graph}

-- so many threads are awake, and every other word of a table with so many values is 0
pub record AreFirstWords (threads slots : ℕ) (words : List ℕ) : Type 0 where
  pub count : length words ≡ words_for slots
  pub awake : slice_index_or words (spot awake_line) 0 ≡ threads
  pub others : (i : ℕ) → i ≢ spot awake_line → slice_index_or words i 0 ≡ 0

-- In place j there is the new record of thread j; or behind all records a cell without a value; or behind all cells a
-- chain of turnstiles with none, then such a chain of sleep queues, and last a class graph without an edge, which has
-- the class of each lock
abbrev pub IsFirst : Description → ℕ → Slot → Type 0
IsFirst floor j (Record b) =
    (j < first_cell floor) × (b.value ≡ made j ((config_in floor).declared_base j))
IsFirst floor j (Cell value) =
    (first_cell floor ≤ j) × (j < first_turnstile_chain floor) × (value ≡ None)
IsFirst floor j (Turnstiles chain) =
    (first_turnstile_chain floor ≤ j) × (j < first_sleep_chain floor) × (chain ≡ [])
IsFirst floor j (SleepQueues chain) =
    (first_sleep_chain floor ≤ j) × (j < graph_place floor) × (chain ≡ [])
IsFirst floor j (Graph b) =
    (j ≡ graph_place floor) × (b.value.edges ≡ [])
    × ((l : ℕ) → l < length floor.locks → (config_in floor).class l < b.value.classes)
