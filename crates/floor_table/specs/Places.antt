-- Where the words and the values of a floor's table are.
use Rattle.std.specs.Prelude.{ℕ, zero, suc, ◌+◌, ◌*◌, ◌&&◌, ◌==◌, Bool, nat_lt, if◌then◌else◌, List, length, slice_index_or, option_map, Option, Some, None}
use Rattle.std.specs.List.{position}
use mathlib.Core.Option as slots
use Rattle.floor_table.specs.declared.description.Description.{Description}
use Rattle.lock_state.specs.Steps.Items.{Item, TurnstileChain, SleepChain, RecordOf, CellOf, ClassGraph}
use Rattle.floor_table.specs.declared.slot.Slot.{Slot}

-- 1. Words. Each is the first of a line of its own.

-- how many words a line has: those of a cache line, so that no two words lie on one
abbrev pub line_words : ℕ
line_words = 8

-- where the word on a line is
abbrev pub spot : ℕ → ℕ
spot line = line_words * line

-- the word on a line
abbrev pub word_at : List ℕ → ℕ → ℕ
word_at words line = slice_index_or words (spot line) 0

-- The lines: first the words of locks, then the wait words of threads; then the words of which there is one, with room
-- for others: the next ticket, how many threads are awake, how many have ended, and whether a finder halts others; and
-- then the latches
abbrev pub lock_line : ℕ → ℕ
lock_line l = l

abbrev pub wait_line : ℕ → ℕ
wait_line t = 64 + t

abbrev pub ticket_line : ℕ
ticket_line = 96

abbrev pub awake_line : ℕ
awake_line = 97

abbrev pub ended_line : ℕ
ended_line = 98

abbrev pub halt_line : ℕ
halt_line = 99

abbrev pub latch_line : ℕ → ℕ
latch_line j = 128 + j

-- the words of locks, of waiting threads, and of latches
abbrev pub lock_word : List ℕ → ℕ → ℕ
lock_word words l = word_at words (lock_line l)

abbrev pub wait_word : List ℕ → ℕ → ℕ
wait_word words t = word_at words (wait_line t)

abbrev pub latch_word : List ℕ → ℕ → ℕ
latch_word words j = word_at words (latch_line j)

-- how many words there are
abbrev pub words_for : ℕ → ℕ
words_for slots = spot (latch_line slots)

-- 2. Values behind latches: the records of threads, then a cell for each key of a lock's table, then the chains of
--    turnstiles, those of sleep queues, and the class graph

-- where each sort but the records begins
abbrev pub first_cell : Description → ℕ
first_cell floor = length floor.threads

abbrev pub first_turnstile_chain : Description → ℕ
first_turnstile_chain floor = first_cell floor + length floor.keys

abbrev pub first_sleep_chain : Description → ℕ
first_sleep_chain floor = first_turnstile_chain floor + floor.chains

abbrev pub graph_place : Description → ℕ
graph_place floor = first_sleep_chain floor + floor.chains

-- how many values there are
abbrev pub slots_for : Description → ℕ
slots_for floor = suc (graph_place floor)

-- whether it is the key of the lock
abbrev pub is_cell : ℕ → ℕ → ℕ × ℕ → Bool
is_cell l key cell = (cell.0 == l) && (cell.1 == key)

-- the place of an item among the values, where there is one
abbrev pub slot_of : Description → Item → Option ℕ
slot_of floor (TurnstileChain k) =
    if nat_lt k floor.chains then Some (first_turnstile_chain floor + k) else None
slot_of floor (SleepChain k) =
    if nat_lt k floor.chains then Some (first_sleep_chain floor + k) else None
slot_of floor (RecordOf t) = if nat_lt t (length floor.threads) then Some t else None
slot_of floor (CellOf l key) =
    option_map (λ i. first_cell floor + i) (position (is_cell l key) floor.keys)
slot_of floor ClassGraph = Some (graph_place floor)

-- the thread that a latch names: it is 0 where the value is at home, and else one more than the thread's number
abbrev pub taker : ℕ → Option ℕ
taker zero = None
taker (suc t) = Some t

-- what is at home in a place
abbrev pub home_at : List (slots.Option Slot) → ℕ → slots.Option Slot
home_at homes j = slice_index_or homes j slots.none
