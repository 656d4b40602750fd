-- The part of the law of a history that speaks of busy words: a thread that found a lock busy saw a word that another
-- thread held, and that thread has a section of the lock. It is true of whole histories, in which each gain has its
-- entry. A history is a list of entries, the newest first.
use Rattle.std.specs.Prelude.{◌≡◌, ℕ, Bool, true, false, not, ◌&&◌, ◌||◌, ◌==◌, List, [], ◌∷◌, ⊤}
use Rattle.lock_model.specs.Config.{Config}
use Rattle.lock_model.specs.Counts.{any_below}
use Rattle.lock_model.specs.Events.{OfTake, NoTake, GainedBy, FoundBusy, HaltedFor, RefusedBy, facets}
use Rattle.lock_model.specs.History.{begun_by, left_in}
use Rattle.lock_model.specs.Holds.{Hold, NotHeld, Holds}
use Rattle.lock_model.specs.Script.Faults.{is_same_mode}
use Rattle.lock_model.specs.Words.{Holder, Free, HeldBy, SharedBy, word_of}
use Rattle.lock_model.specs.declared.plan.Mode.{Mode}
use Rattle.lock_model.specs.declared.plan.Mode.TheVariants.{Excl, Shared}
use Rattle.lock_model.specs.declared.event.Entry.{Entry}

-- 1. Sections that a history has

-- whether a lock is held in the mode
abbrev pub is_in_mode : Mode → Hold → Bool
is_in_mode mode NotHeld = false
is_in_mode mode (Holds held) = is_same_mode mode held

-- whether the thread has somewhere in the history a section of the lock, in the mode
unfoldable pub has_section : Config → List Entry → ℕ → ℕ → Mode → Bool
has_section c [] t l mode = false
has_section c (e ∷ es) t l mode =
    (e.thread.0 == t) && is_in_mode mode (begun_by c e.event (left_in c es t l) l)
    || has_section c es t l mode

-- 2. Holders of a word

-- Whether another thread than t had the lock as the holder in its word says, where `had` tells by thread, lock and mode
-- who had it: the owner exclusively, or some thread shared. A free word has no holder
abbrev pub is_had_by_another : Config → (ℕ → ℕ → Mode → Bool) → ℕ → ℕ → Holder → Bool
is_had_by_another c had t l Free = false
is_had_by_another c had t l (HeldBy u) = not (u == t) && had u l Excl
is_had_by_another c had t l (SharedBy n) =
    any_below c.threads (λ u. not (u == t) && had u l Shared)

-- 3. The law

-- where an event of the thread says that a lock was busy, another thread had the lock as the word says
abbrev pub WordHasHolder : Config → (ℕ → ℕ → Mode → Bool) → OfTake → ℕ → Type 0
WordHasHolder c had NoTake t = ⊤
WordHasHolder c had (GainedBy l by_try) t = ⊤
WordHasHolder c had (FoundBusy l seen) t =
    is_had_by_another c had t l (word_of seen).holder ≡ true
WordHasHolder c had (HaltedFor l) t = ⊤
WordHasHolder c had (RefusedBy l class) t = ⊤

-- so it is with each of the entries
unfoldable pub BusyWordsHaveHolders : Config → (ℕ → ℕ → Mode → Bool) → List Entry → Type 0
BusyWordsHaveHolders c had [] = ⊤
BusyWordsHaveHolders c had (e ∷ es) =
    WordHasHolder c had (facets e.event).take e.thread.0 × BusyWordsHaveHolders c had es

-- For each busy word another thread has somewhere in the history a section of the lock, in the mode in which the word
-- is held; where that is exclusive, it is the word's owner
abbrev pub BusyIsExplained : Config → List Entry → Type 0
BusyIsExplained c history = BusyWordsHaveHolders c (has_section c history) history
