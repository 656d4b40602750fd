-- Worked histories, held against the law's part on busy words: what it lets through and what it refuses. There are two
-- threads, p and q, and two locks, of which q finds the first busy.
use Rattle.std.proofs.Common.{◌≡◌, ℕ, true, false, List, [], ◌∷◌, refl}
use Rattle.lock_model.specs.Config.{Config}
use Rattle.lock_model.specs.Counts.{any_below}
use Rattle.lock_model.specs.History.{sections_in}
use Rattle.lock_model.specs.declared.numbers.LockNo.{LockNo}
use Rattle.lock_model.specs.declared.numbers.ChanNo.{ChanNo}
use Rattle.lock_model.specs.declared.plan.Kind.TheVariants.{Rw}
use Rattle.lock_model.specs.declared.plan.Mode.{Mode}
use Rattle.lock_model.specs.declared.plan.Mode.TheVariants.{Excl, Shared}
use Rattle.lock_model.specs.declared.event.Entry.{Entry}
use Rattle.lock_model.specs.declared.event.Event.{Event}
use Rattle.lock_model.specs.declared.event.Event.TheVariants.{Locked, Busy, Unlocked, Sleeps, Woke}
use Rattle.lock_model.specs.BusyWords.{BusyIsExplained, BusyWordsHaveHolders, has_section}

abbrev entry : ℕ → ℕ → Event → Entry
entry ticket t e = record { ticket = ticket; thread = record { 0 = t }; event = e }

abbrev lock : LockNo
lock = record { 0 = 0 }

abbrev elsewhere : LockNo
elsewhere = record { 0 = 1 }

abbrev chan : ChanNo
chan = record { 0 = 0 }

two : Config
two = record {
  threads = 2;
  locks = 2;
  chans = 1;
  kind = λ l. Rw;
  class = λ l. l;
  chan_lock = λ d. 0;
  declared_base = λ t. 100;
}

-- p has the lock in the mode, and q finds it busy with the word, in between or before or behind
between : Mode → ℕ → List Entry
between mode word = entry 2 0 (Unlocked lock mode) ∷ entry 1 1 (Busy lock word) ∷ entry 0 0 (Locked lock mode) ∷ []

before : Mode → ℕ → List Entry
before mode word = entry 2 0 (Unlocked lock mode) ∷ entry 1 0 (Locked lock mode) ∷ entry 0 1 (Busy lock word) ∷ []

behind : Mode → ℕ → List Entry
behind mode word = entry 2 1 (Busy lock word) ∷ entry 1 0 (Unlocked lock mode) ∷ entry 0 0 (Locked lock mode) ∷ []

-- 1. The word is that of p's hold, 4 exclusively and 8 shared. An entry comes behind its gain and before its release,
-- and behind its look: so q may have seen the word at any of these places

held : BusyIsExplained two (between Excl 4)
unfolding BusyWordsHaveHolders has_section sections_in any_below two between
held = (tt, (refl, (tt, tt)))

held_early : BusyIsExplained two (before Excl 4)
unfolding BusyWordsHaveHolders has_section sections_in any_below two before
held_early = (tt, (tt, (refl, tt)))

held_late : BusyIsExplained two (behind Excl 4)
unfolding BusyWordsHaveHolders has_section sections_in any_below two behind
held_late = (refl, (tt, (tt, tt)))

held_shared : BusyIsExplained two (between Shared 8)
unfolding BusyWordsHaveHolders has_section sections_in any_below two between
held_shared = (tt, (refl, (tt, tt)))

-- p sleeps with the lock, and has it again behind the wake
held_again : BusyIsExplained two
    (entry 3 1 (Busy lock 4) ∷ entry 2 0 (Woke chan) ∷ entry 1 0 (Sleeps chan) ∷ entry 0 0 (Locked lock Excl) ∷ [])
unfolding BusyWordsHaveHolders has_section sections_in any_below two
held_again = (refl, (tt, (tt, (tt, tt))))

-- 2. Nobody has ever had the lock, or another lock alone

refuses_invented : BusyIsExplained two (entry 0 1 (Busy lock 4) ∷ []) → ⊥
unfolding BusyWordsHaveHolders has_section sections_in any_below two
refuses_invented h = let z : false ≡ true = h.0 in cc

refuses_elsewhere : BusyIsExplained two (entry 1 1 (Busy lock 4) ∷ entry 0 0 (Locked elsewhere Excl) ∷ []) → ⊥
unfolding BusyWordsHaveHolders has_section sections_in any_below two
refuses_elsewhere h = let z : false ≡ true = h.0 in cc

-- 3. Q alone had the lock, and finds it busy with its own hold

own : Mode → ℕ → List Entry
own mode word = entry 2 1 (Busy lock word) ∷ entry 1 1 (Unlocked lock mode) ∷ entry 0 1 (Locked lock mode) ∷ []

refuses_own : BusyIsExplained two (own Excl 12) → ⊥
unfolding BusyWordsHaveHolders has_section sections_in any_below two own
refuses_own h = let z : false ≡ true = h.0 in cc

refuses_own_shared : BusyIsExplained two (own Shared 8) → ⊥
unfolding BusyWordsHaveHolders has_section sections_in any_below two own
refuses_own_shared h = let z : false ≡ true = h.0 in cc

-- 4. P had the lock, and the word has another owner, or none

refuses_other : BusyIsExplained two (between Excl 20) → ⊥
unfolding BusyWordsHaveHolders has_section sections_in any_below two between
refuses_other h = let z : false ≡ true = h.1.0 in cc

refuses_free : BusyIsExplained two (between Excl 0) → ⊥
unfolding BusyWordsHaveHolders has_section sections_in any_below two between
refuses_free h = let z : false ≡ true = h.1.0 in cc

-- 5. The word is held in the other mode than p had the lock

refuses_shared : BusyIsExplained two (between Excl 8) → ⊥
unfolding BusyWordsHaveHolders has_section sections_in any_below two between
refuses_shared h = let z : false ≡ true = h.1.0 in cc

refuses_exclusive : BusyIsExplained two (between Shared 4) → ⊥
unfolding BusyWordsHaveHolders has_section sections_in any_below two between
refuses_exclusive h = let z : false ≡ true = h.1.0 in cc
