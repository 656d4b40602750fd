-- What a line says, by its first word and the number of words behind it.
use Rattle.std.specs.Prelude.{ℕ, Bool, true, false, if◌then◌else◌, List, [], ◌∷◌, codes, option_and_then, Option, Some, None}
use Rattle.std.specs.List.{list_any}
use Rattle.std.specs.Map.{lookup}
use Rattle.lock_model.specs.Counts.{is_empty}
use Rattle.lock_model.specs.Script.Lines.{words_of, is_same}

pub data Statement : Type 0 where
  -- a sleeper's name and its priority
  Declares : List ℕ → List ℕ → Statement
  -- whether a signal ends the sleep, a sleeper, a key, and a number of ticks, if there is one
  Sleeps : Bool → List ℕ → List ℕ → Option (List ℕ) → Statement
  -- a key
  WakesOne : List ℕ → Statement
  WakesAll : List ℕ → Statement
  -- a sleeper
  Signals : List ℕ → Statement
  -- a number of ticks
  Ticks : List ℕ → Statement
  IsDone : Statement

-- what a first word says, by the words that have to stand behind it
pub data Form : Type 0 where
  Alone : Statement → Form
  WithOne : (List ℕ → Statement) → Form
  WithTwo : (List ℕ → List ℕ → Statement) → Form
  -- the third may be left out
  WithTwoOrThree : (List ℕ → List ℕ → Option (List ℕ) → Statement) → Form

-- the first words
abbrev pub forms : List (List ℕ × Form)
forms =
    (codes "sleeper", WithTwo Declares)
    ∷ (codes "sleep", WithTwoOrThree (Sleeps false))
    ∷ (codes "sleepsig", WithTwoOrThree (Sleeps true))
    ∷ (codes "wakeone", WithOne WakesOne)
    ∷ (codes "wakeup", WithOne WakesAll)
    ∷ (codes "signal", WithOne Signals)
    ∷ (codes "tick", WithOne Ticks)
    ∷ (codes "done", Alone IsDone)
    ∷ []

abbrev pub form_of : List ℕ → Option Form
form_of word = lookup (is_same word) forms

-- what a form says with these words behind it
abbrev pub said : Form → List (List ℕ) → Option Statement
said (Alone s) [] = Some s
said (Alone s) (a ∷ more) = None
said (WithOne f) [] = None
said (WithOne f) (a ∷ []) = Some (f a)
said (WithOne f) (a ∷ b ∷ more) = None
said (WithTwo f) [] = None
said (WithTwo f) (a ∷ []) = None
said (WithTwo f) (a ∷ b ∷ []) = Some (f a b)
said (WithTwo f) (a ∷ b ∷ c ∷ more) = None
said (WithTwoOrThree f) [] = None
said (WithTwoOrThree f) (a ∷ []) = None
said (WithTwoOrThree f) (a ∷ b ∷ []) = Some (f a b None)
said (WithTwoOrThree f) (a ∷ b ∷ c ∷ []) = Some (f a b (Some c))
said (WithTwoOrThree f) (a ∷ b ∷ c ∷ d ∷ more) = None

abbrev pub said_by : List (List ℕ) → Option Statement
said_by [] = None
said_by (word ∷ words) = option_and_then (λ form. said form words) (form_of word)

-- what a line says; no word may be empty
abbrev pub statement_of : List ℕ → Option Statement
statement_of line = if list_any is_empty (words_of line) then None else said_by (words_of line)
