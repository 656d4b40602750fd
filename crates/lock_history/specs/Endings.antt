-- The priorities and the ending that a caller hands over, as the definition of the text has them.
use Rattle.std.specs.Prelude.{ℕ, List, map}
use Rattle.lock_model.specs.declared.numbers.Prio.{Prio}
use Rattle.lock_model.specs.Text.{Ending, IsDone, IsStuck, IsReversed, IsTooLong}
use Rattle.lock_history.specs.declared.outcome.Last.{Last}
use Rattle.lock_history.specs.declared.outcome.Last.TheVariants.{Done, Stuck, Reversed, TooLong}

-- how a run ended
abbrev pub ending_of : Last → Ending
ending_of Done = IsDone
ending_of Stuck = IsStuck
ending_of Reversed = IsReversed
ending_of TooLong = IsTooLong

-- pairs of priorities as pairs of numbers
abbrev pub numbers_of : List (Prio × Prio) → List (ℕ × ℕ)
numbers_of = map (λ p. (p.0.0, p.1.0))
