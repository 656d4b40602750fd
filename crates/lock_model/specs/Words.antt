-- A lock word as what it means, its 64 bits, and the tables of what a word admits and becomes.
-- The kinds are those of mutex(9), rwlock(9) and sx(9). The tables' exact form is this project's own.
use Rattle.std.specs.Prelude.{ℕ, zero, suc, ◌+◌, ◌*◌, ◌/◌, ◌%◌, ◌≤◌, Bool, true, false, not, ◌&&◌, ◌||◌, ◌==◌, if◌then◌else◌, Option, Some, None}
use Rattle.lock_model.specs.Counts.{one}
use Rattle.lock_model.specs.declared.plan.Kind.{Kind}
use Rattle.lock_model.specs.declared.plan.Kind.TheVariants.{Mtx, Rw, Sx}
use Rattle.lock_model.specs.declared.plan.Mode.{Mode}
use Rattle.lock_model.specs.declared.plan.Mode.TheVariants.{Excl, Shared}
use Rattle.lock_model.specs.declared.plan.Side.{Side}
use Rattle.lock_model.specs.declared.plan.Side.TheVariants.{X, S}

-- 1. Words

-- who holds a lock: nobody, one thread exclusively, or a number of threads that share it
pub data Holder : Type 0 where
  Free : Holder
  HeldBy : ℕ → Holder
  SharedBy : ℕ → Holder

-- a holder, and whether exclusive and shared waiters are shown
pub record Word : Type 0 where
  pub holder : Holder
  pub exclusive_waiters : Bool
  pub shared_waiters : Bool

-- the word of a lock that nobody holds or waits for
abbrev pub free_word : Word
free_word = record { holder = Free; exclusive_waiters = false; shared_waiters = false }

-- 2. Bits: from the lowest, exclusive waiters, shared waiters, held exclusively, and then the owner or the number of
-- sharers

abbrev pub holder_of : Bool → ℕ → Holder
holder_of true owner = HeldBy owner
holder_of false zero = Free
holder_of false (suc n) = SharedBy (suc n)

-- the word that 64 bits stand for
abbrev pub word_of : ℕ → Word
word_of w = record {
  holder = holder_of (w / 4 % 2 == 1) (w / 8);
  exclusive_waiters = w % 2 == 1;
  shared_waiters = w / 2 % 2 == 1;
}

-- the bits of a holder above those of the waiters
abbrev pub holder_bits : Holder → ℕ
holder_bits Free = 0
holder_bits (HeldBy t) = 8 * t + 4
holder_bits (SharedBy n) = 8 * n

-- the 64 bits of a word
abbrev pub bits_of : Word → ℕ
bits_of w = holder_bits w.holder + 2 * one w.shared_waiters + one w.exclusive_waiters

-- an owner is at most 63, and from 1 to 64 threads share
abbrev pub IsPossible : Holder → Type 0
IsPossible Free = Unit {0}
IsPossible (HeldBy t) = t ≤ 63
IsPossible (SharedBy n) = (1 ≤ n) × (n ≤ 64)

abbrev pub IsWellFormed : Word → Type 0
IsWellFormed w = IsPossible w.holder

-- 3. What a word admits

abbrev pub is_free : Holder → Bool
is_free Free = true
is_free (HeldBy t) = false
is_free (SharedBy n) = false

abbrev pub is_owned : Holder → Bool
is_owned Free = false
is_owned (HeldBy t) = true
is_owned (SharedBy n) = false

-- the thread that holds the lock exclusively
abbrev pub owner_of : Holder → Option ℕ
owner_of Free = None
owner_of (HeldBy t) = Some t
owner_of (SharedBy n) = None

abbrev pub shows_waiters : Word → Bool
shows_waiters w = w.exclusive_waiters || w.shared_waiters

-- threads that wait for a mutex or an rw lock block on a turnstile, and those for an sx lock on a sleep queue
abbrev pub is_turnstile : Kind → Bool
is_turnstile Mtx = true
is_turnstile Rw = true
is_turnstile Sx = false

-- Whether a thread may gain the lock in the mode. An exclusive gain needs a free word. A shared one needs a word that
-- isn't held exclusively, and readers of an rw lock go behind its shown writers. A mutex is never shared.
abbrev pub admits : Kind → Word → Mode → Bool
admits kind w Excl = is_free w.holder
admits Mtx w Shared = false
admits Rw w Shared = not (is_owned w.holder) && (is_free w.holder || not w.exclusive_waiters)
admits Sx w Shared = not (is_owned w.holder)

-- An exclusive gain of a mutex or an rw lock needs a word that shows no waiters: where it shows some, the gain is a
-- claim. Any other gain keeps the waiters' bits.
abbrev pub is_plain : Kind → Word → Mode → Bool
is_plain kind w Shared = true
is_plain Mtx w Excl = not (shows_waiters w)
is_plain Rw w Excl = not (shows_waiters w)
is_plain Sx w Excl = true

-- 4. What a word becomes

abbrev pub sharers : Holder → ℕ
sharers Free = 0
sharers (HeldBy t) = 0
sharers (SharedBy n) = n

-- with one holder more; the waiters' bits stay
abbrev pub gained : Word → ℕ → Mode → Word
gained w t Excl = record w { holder = HeldBy t }
gained w t Shared = record w { holder = SharedBy (suc (sharers w.holder)) }

abbrev pub without_one : Holder → Holder
without_one Free = Free
without_one (HeldBy t) = Free
without_one (SharedBy zero) = Free
without_one (SharedBy (suc zero)) = Free
without_one (SharedBy (suc (suc n))) = SharedBy (suc n)

-- with one holder less; the waiters' bits stay
abbrev pub dropped : Word → Word
dropped w = record w { holder = without_one w.holder }

-- a side's bit
abbrev pub with_bit : Word → Side → Bool → Word
with_bit w X b = record w { exclusive_waiters = b }
with_bit w S b = record w { shared_waiters = b }

-- with a waiter on that side
abbrev pub entered : Word → Side → Word
entered w side = with_bit w side true

-- with no waiter on that side
abbrev pub unshown : Word → Side → Word
unshown w side = with_bit w side false

-- The side that the last holder's release wakes. A mutex and an rw lock wake exclusive waiters before shared ones. An
-- exclusive release of an sx lock wakes shared waiters first, and its last shared release exclusive ones.
abbrev pub side_woken : Kind → Word → Side
side_woken Mtx w = X
side_woken Rw w = if w.exclusive_waiters then X else S
side_woken Sx w =
    if is_owned w.holder then (if w.shared_waiters then S else X) else
    (if w.exclusive_waiters then X else S)

-- after the last holder's release: free, and the bit of the woken side cleared
abbrev pub opened : Kind → Word → Word
opened kind w = record (unshown w (side_woken kind w)) { holder = Free }

-- the same side, where a waiter is shown
abbrev pub side_opened : Kind → Word → Option Side
side_opened kind w = if shows_waiters w then Some (side_woken kind w) else None

-- a free word that a thread makes its own, with its waiters' bits
abbrev pub claimed : Word → ℕ → Word
claimed w t = record w { holder = HeldBy t }

-- a release frees no more than one holder: it is a drop where another shared holder stays or no waiter is shown, and
-- else an open
abbrev pub is_drop : Word → Bool
is_drop w = not (is_free (without_one w.holder)) || not (shows_waiters w)
