-- Facts of lock words and of their holders.
use Rattle.std.specs.Prelude.{◌≡◌, ◌≢◌, ℕ, ◌<◌, Bool, false, ◌==◌, not, ◌||◌, List, [], ◌∷◌}
use Rattle.lock_model.specs.Counts.{sum_below}
use Rattle.lock_model.specs.Words.{Word, Holder, Free, HeldBy, SharedBy, sharers}
use Rattle.lock_model.specs.Holds.{is_exclusive, Hold, NotHeld, Holds, is_unheld}
use Rattle.lock_state.specs.State.{HeldLock}
use Rattle.lock_model.specs.Config.{Config}
use Rattle.lock_model.specs.declared.plan.Mode.{Mode}
use Rattle.lock_model.specs.declared.plan.Mode.TheVariants.{Excl, Shared}

-- whether a word is held exclusively by t
abbrev pub owns : ℕ → Holder → Bool
owns t Free = false
owns t (HeldBy u) = t == u
owns t (SharedBy n) = false

-- 1 where the lock is held shared
abbrev pub shares : Hold → ℕ
shares NotHeld = 0
shares (Holds Excl) = 0
shares (Holds Shared) = 1

-- A word is held by a thread exactly where that thread holds the lock exclusively, and shared by exactly as many as
-- hold it shared. A number of sharers is at least 1, so every other word is free and nobody holds its lock.
pub record WordMatchesHolders (c : Config) (word : Word) (l : ℕ) (held : ℕ → ℕ → Hold) : Type 0
  where
    pub owner : (t : ℕ) → is_exclusive (held t l) ≡ owns t word.holder
    pub sharers_are_counted : sum_below c.threads (λ t. shares (held t l)) ≡ sharers word.holder
    pub some_sharer : word.holder ≢ SharedBy 0

-- that of each lock
unfoldable pub WordsMatchHolders : Config → (ℕ → Word) → (ℕ → ℕ → Hold) → Type 0
WordsMatchHolders c word held = (l : ℕ) → WordMatchesHolders c (word l) l held

-- only the plan's threads hold locks
unfoldable pub OnlyThreadsHold : Config → (ℕ → ℕ → Hold) → Type 0
OnlyThreadsHold c held = (t l : ℕ) (mode : Mode) → held t l ≡ Holds mode → t < c.threads

-- whether a lock is in a list of held ones
abbrev pub is_listed : ℕ → List HeldLock → Bool
is_listed l [] = false
is_listed l (h ∷ hs) = (l == h.lock) || is_listed l hs

-- the list of the locks that a thread holds, in order of gaining, has just those that it holds
unfoldable pub HeldAreListed : (ℕ → ℕ → Hold) → (ℕ → List HeldLock) → Type 0
HeldAreListed held held_locks = (t l : ℕ) → is_listed l (held_locks t) ≡ not (is_unheld (held t l))
