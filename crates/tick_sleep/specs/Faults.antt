-- The tests that a line has to pass, by stages: its bytes, its words, its place among the lines, and what it names. The
-- stages and the codes are those of a script of locks, as far as they come here.
use Rattle.std.specs.Prelude.{ℕ, not, ◌&&◌, is_some, if◌then◌else◌, List, [], ◌∷◌, length, Option, Some, None}
use Rattle.lock_model.specs.Counts.{is_empty}
use Rattle.lock_model.specs.Tests.{Test, test, first_fault}
use Rattle.lock_model.specs.Script.Faults.{byte_tests, spelled, reads_priority, has_room}
use Rattle.lock_model.specs.Script.Lines.{has_meaning}
use Rattle.tick_sleep.specs.Limits.{most_sleepers, most_events}
use Rattle.tick_sleep.specs.Statements.{Statement, Declares, Sleeps, WakesOne, WakesAll, Signals, Ticks, IsDone, statement_of}
use Rattle.tick_sleep.specs.Learning.{Known, is_declared, sleeper_named, key_of, sleep_ticks_of, ticks_of, learned}

-- 1. Words

-- a line says nothing, or says something behind `done`
abbrev pub word_tests : Known → List ℕ → List Test
word_tests k line = test 2 (not k.is_done && is_some (statement_of line)) ∷ []

-- 2. Place

-- a sleeper stands behind an event
abbrev pub place_tests : Known → Statement → List Test
place_tests k (Declares name prio) = test 16 (is_empty k.events) ∷ []
place_tests k (Sleeps sig name key ticks) = []
place_tests k (WakesOne key) = []
place_tests k (WakesAll key) = []
place_tests k (Signals name) = []
place_tests k (Ticks ticks) = []
place_tests k IsDone = []

-- 3. Names, numbers and limits

-- a name is declared already
abbrev pub undeclared : Known → List ℕ → Test
undeclared k name = test 4 (not (is_declared k name))

-- a name isn't declared
abbrev pub names_sleeper : Known → List ℕ → Test
names_sleeper k name = test 5 (is_some (sleeper_named k name))

-- a word isn't a key, or no number of ticks
abbrev pub reads_key : List ℕ → Test
reads_key word = test 6 (is_some (key_of word))

abbrev pub reads_sleep_ticks : Option (List ℕ) → List Test
reads_sleep_ticks None = []
reads_sleep_ticks (Some word) = test 6 (is_some (sleep_ticks_of word)) ∷ []

abbrev pub reads_ticks : List ℕ → Test
reads_ticks word = test 6 (is_some (ticks_of word))

-- there are too many events
abbrev pub has_room_for_event : Known → Test
has_room_for_event k = has_room most_events (length k.events)

abbrev pub name_tests : Known → Statement → List Test
name_tests k (Declares name prio) =
    spelled name ∷ undeclared k name ∷ reads_priority prio
    ∷ has_room most_sleepers (length k.names) ∷ []
name_tests k (Sleeps sig name key ticks) =
    spelled name ∷ names_sleeper k name ∷ reads_key key
    ∷ has_room_for_event k ∷ reads_sleep_ticks ticks
name_tests k (WakesOne key) = reads_key key ∷ has_room_for_event k ∷ []
name_tests k (WakesAll key) = reads_key key ∷ has_room_for_event k ∷ []
name_tests k (Signals name) =
    spelled name ∷ names_sleeper k name ∷ has_room_for_event k ∷ []
name_tests k (Ticks ticks) = reads_ticks ticks ∷ has_room_for_event k ∷ []
name_tests k IsDone = []

-- 4. Lines

abbrev pub statement_stages : Known → Option Statement → List (List Test)
statement_stages k None = []
statement_stages k (Some s) = place_tests k s ∷ name_tests k s ∷ []

-- what a line has to pass; where it has no meaning, its bytes alone are judged
abbrev pub stages : Known → List ℕ → List (List Test)
stages k line =
    byte_tests line
    ∷ (if has_meaning line then word_tests k line ∷ statement_stages k (statement_of line) else [])

-- the code of a line's fault
unfoldable pub line_fault : Known → List ℕ → Option ℕ
line_fault k line = first_fault (stages k line)

abbrev pub learned_from : Known → Option Statement → Known
learned_from k None = k
learned_from k (Some s) = learned k s

-- what is known behind a line without a fault
unfoldable pub behind_line : Known → List ℕ → Known
behind_line k line = if has_meaning line then learned_from k (statement_of line) else k
