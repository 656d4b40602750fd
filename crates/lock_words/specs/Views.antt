-- What the views of this crate mean as words, and what its calls ask of a word.
use Rattle.std.specs.Prelude.{◌≤◌}
use Rattle.lock_model.specs.Words.{Holder, Free, HeldBy, SharedBy, Word}
use Rattle.lock_model.specs.declared.plan.Mode.{Mode}
use Rattle.lock_model.specs.declared.plan.Mode.TheVariants.{Excl, Shared}
use Rattle.lock_words.specs.declared.Hold.{Hold}
use Rattle.lock_words.specs.declared.Hold.TheVariants as hold
use Rattle.lock_words.specs.declared.WordView.{WordView}

abbrev pub holder_of_view : Hold → Holder
holder_of_view hold.Free = Free
holder_of_view (hold.Excl t) = HeldBy t.0
holder_of_view (hold.Shared n) = SharedBy n

-- a view as a word
abbrev pub word_of_view : WordView → Word
word_of_view v =
    record { holder = holder_of_view v.hold; exclusive_waiters = v.xw; shared_waiters = v.sw }

-- a holder may be added: nobody holds the lock, or 1 to 63 threads share it and one more will
abbrev pub MayGain : Holder → Mode → Type 0
MayGain Free mode = Unit {0}
MayGain (HeldBy u) mode = ⊥
MayGain (SharedBy n) Excl = ⊥
MayGain (SharedBy n) Shared = n ≤ 63

-- a holder of that mode may be taken off
abbrev pub IsHeldIn : Holder → Mode → Type 0
IsHeldIn Free mode = ⊥
IsHeldIn (HeldBy u) Excl = Unit {0}
IsHeldIn (HeldBy u) Shared = ⊥
IsHeldIn (SharedBy n) Excl = ⊥
IsHeldIn (SharedBy n) Shared = Unit {0}
