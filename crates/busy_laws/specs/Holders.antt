-- Words that show another thread's hold: who holds a lock that a thread finds busy has a section of it in the history,
-- or has yet to note the entry that begins one.
use Rattle.std.specs.Prelude.{◌≡◌, ℕ, Bool, true, false, not, ◌&&◌, ◌||◌, nat_lt, List, Option, Some}
use Rattle.lock_model.specs.Config.{Config}
use Rattle.lock_model.specs.Holds.{Hold, Holds, is_exclusive}
use Rattle.lock_model.specs.Words.{Holder, Free, HeldBy, SharedBy}
use Rattle.lock_model.specs.declared.plan.Mode.{Mode}
use Rattle.lock_model.specs.declared.event.Entry.{Entry}
use Rattle.lock_state.specs.State.{State, Look}
use Rattle.lock_state.specs.Facts.Words.{shares}
use Rattle.lock_model.specs.BusyWords.{is_in_mode, has_section, is_had_by_another}
use Rattle.lock_model.specs.BusyWords.{BusyWordsHaveHolders}

-- 1. Who had a lock

-- whether the thread has a section of the lock in the mode, or holds it so and has yet to note that
abbrev pub has_or_begins : Config → (ℕ → ℕ → Hold) → (ℕ → ℕ → Bool) → List Entry → ℕ → ℕ → Mode
    → Bool
has_or_begins c held has_begun history t l mode =
    has_section c history t l mode || is_in_mode mode (held t l) && not (has_begun t l)

-- whether a word has another holder than the thread that has this hold of its lock
abbrev pub has_another : Hold → Holder → Bool
has_another hold Free = false
has_another hold (HeldBy u) = not (is_exclusive hold)
has_another hold (SharedBy n) = nat_lt (shares hold) n

-- 2. The facts

-- where a section of a held lock began since it was gained, the history has it
unfoldable pub BegunAreNoted : Config → (ℕ → ℕ → Hold) → (ℕ → ℕ → Bool) → List Entry → Type 0
BegunAreNoted c held has_begun history =
    (t l : ℕ) (mode : Mode) → held t l ≡ Holds mode → has_begun t l ≡ true
    → has_section c history t l mode ≡ true

-- where a thread's last look saw a word that another held, such a thread has a section of the lock, or begins one
unfoldable pub LooksHaveHolders : Config → (ℕ → ℕ → Hold) → (ℕ → ℕ → Bool) → (ℕ → Option Look)
    → List Entry → Type 0
LooksHaveHolders c held has_begun last_look history =
    (t : ℕ) (look : Look) → last_look t ≡ Some look
    → has_another (held t look.lock) look.word.holder ≡ true
    → is_had_by_another c (has_or_begins c held has_begun history) t look.lock look.word.holder
    ≡ true

-- a state in which these facts hold, and so it is with each busy word of the history
pub record BusyWordsFit (c : Config) (s : State) : Type 0 where
  pub begun_are_noted : BegunAreNoted c s.held s.has_begun s.history
  pub looks_have_holders : LooksHaveHolders c s.held s.has_begun s.last_look s.history
  pub busy_words_have_holders :
      BusyWordsHaveHolders c (has_or_begins c s.held s.has_begun s.history) s.history

-- no thread has a section left to begin: where it holds a lock, one began since it gained it
abbrev pub NobodyHasToBegin : State → Type 0
NobodyHasToBegin s =
    (t l : ℕ) (mode : Mode) → s.held t l ≡ Holds mode → s.has_begun t l ≡ true
