-- What follows from the course that a thread takes, of the word of a lock that it doesn't hold.
use Rattle.lock_calls.proofs.Names
use Names.{Bool, true, false, refl, Word, Holder, Free, HeldBy, SharedBy, admits, is_plain, Kind, Mtx, Rw, Sx, Mode}
use Names.{Excl, Shared, HasRoom, CanBeSeen, IsClaim, is_claim, course, Course, Plainly, ByClaim, MustWait}
use Rattle.std.proofs.Common.{◌≡◌}
use Rattle.std.specs.Prelude.{if◌then◌else◌}
use Rattle.lock_words.specs.Views.{MayGain}

-- 1. What the word admits then

abbrev choice : Bool → Bool → Course
choice admitted plain = if admitted then (if plain then Plainly else ByClaim) else MustWait

plainly_so : (a p : Bool) → choice a p ≡ Plainly → (a ≡ true) × (p ≡ true)
plainly_so true true e = (refl, refl)
plainly_so true false e = absurd (let z : ByClaim ≡ Plainly = e in cc)
plainly_so false p e = absurd (let z : MustWait ≡ Plainly = e in cc)

claims_so : (a p : Bool) → choice a p ≡ ByClaim → (a ≡ true) × (p ≡ false)
claims_so true true e = absurd (let z : Plainly ≡ ByClaim = e in cc)
claims_so true false e = (refl, refl)
claims_so false p e = absurd (let z : MustWait ≡ ByClaim = e in cc)

waits_so : (a p : Bool) → choice a p ≡ MustWait → a ≡ false
waits_so true true e = absurd (let z : Plainly ≡ MustWait = e in cc)
waits_so true false e = absurd (let z : ByClaim ≡ MustWait = e in cc)
waits_so false p e = refl

pub gains_plainly : (k : Kind) (w : Word) (mode : Mode) → course k w mode ≡ Plainly
    → (admits k w mode ≡ true) × (is_plain k w mode ≡ true)
gains_plainly k w mode e = plainly_so (admits k w mode) (is_plain k w mode) e

pub must_wait : (k : Kind) (w : Word) (mode : Mode) → course k w mode ≡ MustWait → admits k w mode ≡ false
must_wait k w mode e = waits_so (admits k w mode) (is_plain k w mode) e

-- 2. What the holder is then

-- a word that admits the mode has room for one holder more
abbrev word_with : Holder → Bool → Bool → Word
word_with h x s = record { holder = h; exclusive_waiters = x; shared_waiters = s }

has_place : (k : Kind) (mode : Mode) (h : Holder) (x s : Bool) → HasRoom h
    → admits k (word_with h x s) mode ≡ true → MayGain h mode
has_place k Excl Free x s room e = tt
has_place k Excl (HeldBy u) x s room e = absurd (let z : false ≡ true = e in cc)
has_place k Excl (SharedBy n) x s room e = absurd (let z : false ≡ true = e in cc)
has_place k Shared Free x s room e = tt
has_place Mtx Shared (HeldBy u) x s room e = absurd (let z : false ≡ true = e in cc)
has_place Rw Shared (HeldBy u) x s room e = absurd (let z : false ≡ true = e in cc)
has_place Sx Shared (HeldBy u) x s room e = absurd (let z : false ≡ true = e in cc)
has_place k Shared (SharedBy n) x s room e = room

pub may_be_gained : (k : Kind) (w : Word) (mode : Mode) → CanBeSeen k w → admits k w mode ≡ true → MayGain w.holder mode
may_be_gained k w mode seen e = has_place k mode w.holder w.exclusive_waiters w.shared_waiters seen.room e

-- a thread that can gain the lock by a claim alone claims a free reader-writer lock whose word shows waiters
pub claims_it : (k : Kind) (w : Word) (mode : Mode) → CanBeSeen k w → course k w mode ≡ ByClaim → IsClaim k w mode
claims_it k w mode seen e =
    let g = claims_so (admits k w mode) (is_plain k w mode) e in is_claim k w mode seen.mutex g.0 g.1
