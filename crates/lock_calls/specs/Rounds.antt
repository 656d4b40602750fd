-- Looks in an acquiring round: what the thread saw by each, and behind which it may look again.
use Rattle.std.specs.Prelude.{◌≡◌, ◌≢◌, ℕ, ◌<◌, Bool, true, false, [], ◌∷◌, length, Some}
use Rattle.lock_model.specs.Words.{Word, owner_of}
use Rattle.lock_model.specs.declared.plan.Kind.{Kind}
use Rattle.lock_model.specs.declared.plan.Kind.TheVariants.{Mtx}
use Rattle.lock_model.specs.declared.plan.Mode.{Mode}
use Rattle.lock_state.specs.Steps.{Looks}
use Rattle.floor_table.specs.Descriptions.{config_in}
use Rattle.floor_table.specs.declared.description.Description.{Description}
use Rattle.floor_table.specs.Steps.{Makes}
use Rattle.floor_table.specs.Views.{Knowledge, seeing}
use Rattle.lock_floor.specs.Resumes.{FindsWhetherQueued}
use Rattle.lock_calls.specs.Choices.{course}
use Rattle.lock_calls.specs.declared.courses.Course.TheVariants.{Plainly, ByClaim}

-- it saw that word of the lock last
abbrev pub HasSeen : ℕ → Word → Knowledge → Type 0
HasSeen l word v = v.share.doing.last_look ≡ Some (record { lock = l; word = word })

-- Looks at a lock in its round, with the word that was seen last: one alone, which saw a word from which the thread
-- doesn't gain the lock plainly; or one which saw a word from which it does, and the exchange from that word, which
-- missed: it was a look, and saw another
pub data LooksOn (floor : Description) (l : ℕ) (mode : Mode) : ℕ → Word → Knowledge → Knowledge
    → Type 0 where
  looks_alone : {old new : Knowledge} (word : Word)
      → course ((config_in floor).kind l) word mode ≢ Plainly
      → Makes floor (Looks old.thread l true ∷ []) old new → HasSeen l word new
      → LooksOn floor l mode 1 word old new
  tries_too : {old new : Knowledge} (mid : Knowledge) (from found : Word)
      → course ((config_in floor).kind l) from mode ≡ Plainly
      → Makes floor (Looks old.thread l true ∷ []) old mid → HasSeen l from mid
      → Makes floor (Looks old.thread l true ∷ []) mid new → HasSeen l found new → found ≢ from
      → LooksOn floor l mode 2 found old new

-- Whether the owner that a lock's word names is Queued at that moment. Where it names none of the floor's threads,
-- nobody is asked for
pub data AsksOwner (floor : Description) (word : Word) : Bool → Knowledge → Knowledge → Type 0 where
  asks : {queued : Bool} {old new : Knowledge} (o : ℕ) → owner_of word.holder ≡ Some o
      → new ≡ seeing new.seen old → FindsWhetherQueued floor o queued old new
      → AsksOwner floor word queued old new
  nobody : {v : Knowledge}
      → ((o : ℕ) → owner_of word.holder ≡ Some o → o < length floor.threads → ⊥)
      → AsksOwner floor word false v v

-- Behind a look that saw the word the thread may look again: of a mutex where the owner isn't Queued whom the word
-- names; of a lock that can be shared where the word doesn't let it gain the lock by a claim alone
pub data LooksAgain (floor : Description) (kind : Kind) (mode : Mode) (word : Word) : Knowledge
    → Knowledge → Type 0 where
  of_mutex : {old new : Knowledge} → kind ≡ Mtx → AsksOwner floor word false old new
      → LooksAgain floor kind mode word old new
  of_shareable : {v : Knowledge} → kind ≢ Mtx → course kind word mode ≢ ByClaim
      → LooksAgain floor kind mode word v v
