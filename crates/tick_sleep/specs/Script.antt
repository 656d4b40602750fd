-- Which bytes are a script of ticks, and of which plan, and where the others have their first fault. A source is a list
-- of lines, and each line is judged by what the lines before it have made known, and by nothing else. The grammar is
-- this project's own.
use Rattle.std.specs.Prelude.{◌≡◌, ℕ, suc, if◌then◌else◌, List, [], ◌∷◌, codes, Option, Some, None}
use Rattle.lock_model.specs.Script.{told}
use Rattle.lock_model.specs.Script.Lines.{lines_of, is_same}
use Rattle.tick_sleep.specs.Learning.{Known, nothing_known}
use Rattle.tick_sleep.specs.Faults.{line_fault, behind_line}
use Rattle.tick_sleep.specs.declared.plan.TickPlan.{TickPlan}

-- what reading a source comes to: its plan, or the number and the code of its first faulty line
pub data Reading : Type 0 where
  Reads : TickPlan → Reading
  Faulty : ℕ → ℕ → Reading

abbrev pub plan_of : Known → TickPlan
plan_of k = record { sleepers = k.sleepers; events = k.events }

-- a fault of line n, or what is read where it has none
abbrev pub faulty_or : ℕ → Option ℕ → Reading → Reading
faulty_or n (Some code) r = Faulty (told n) code
faulty_or n None r = r

-- the lines from line n on; a source that ends without `done` lacks a line
unfoldable pub reading_from : ℕ → Known → List (List ℕ) → Reading
reading_from n k [] = if k.is_done then Reads (plan_of k) else Faulty (told n) 17
reading_from n k (line ∷ lines) =
    faulty_or n (line_fault k line) (reading_from (suc n) (behind_line k line) lines)

-- all lines; the first one is the header
unfoldable pub reading_of_lines : List (List ℕ) → Reading
reading_of_lines [] = Faulty 1 1
reading_of_lines (header ∷ lines) =
    if is_same header (codes "ticks 1") then reading_from 2 nothing_known lines else Faulty 1 1

-- what the bytes of a source come to
unfoldable pub reading_of : List ℕ → Reading
reading_of bytes = reading_of_lines (lines_of bytes)

-- the bytes are a script of the plan
unfoldable pub IsAccepted : List ℕ → TickPlan → Type 0
IsAccepted bytes plan = reading_of bytes ≡ Reads plan

-- the bytes are no script, and the first line that has a fault has this one
unfoldable pub IsFaulty : List ℕ → ℕ → ℕ → Type 0
IsFaulty bytes line code = reading_of bytes ≡ Faulty line code
