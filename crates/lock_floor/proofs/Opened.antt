-- What a word is whose release is an open.
use Rattle.lock_floor.proofs.Names.{Bool, true, false, not, refl, Word, is_drop, is_free, shows_waiters, without_one}
use Rattle.std.proofs.Common.{◌≡◌, ◌||◌}

-- a word whose release is no drop has one holder left, and shows waiters
both_off : (a b : Bool) → (not a || not b) ≡ false → (a ≡ true) × (b ≡ true)
both_off true true e = (refl, refl)
both_off true false e = absurd (let z : true ≡ false = e in cc)
both_off false b e = absurd (let z : true ≡ false = e in cc)

pub last_shown : (w : Word) → is_drop w ≡ false → (is_free (without_one w.holder) ≡ true) × (shows_waiters w ≡ true)
last_shown w e = both_off (is_free (without_one w.holder)) (shows_waiters w) e
