-- What an entry changes of who sleeps behind a history, who was named, and whose sleep is longer.
use Rattle.sleep_laws.proofs.Names.{ℕ, true, false, not, List, [], length, refl, arith, entries_of, is_asleep, is_named}
use Rattle.sleep_laws.proofs.Names.{entries_up_to, Entry, is_taking_back, has_slept}
use Rattle.std.proofs.Common.{◌≡◌, ◌≤◌, ◌&&◌, ◌∷◌, ◌∙◌}

-- a thread sleeps where its newest entry is the Sleeps entry and no waking names it since
asleep_is : (es : List Entry) (d t : ℕ)
    → is_asleep es d t ≡ (has_slept d (entries_of es t) && not (is_named es t))
unfolding is_asleep is_named
asleep_is [] d t = refl
asleep_is (e ∷ es) d t = grind (arith, asleep_is es d t)

pub asleep_slept : (es : List Entry) (d t : ℕ) → is_asleep es d t ≡ true
    → has_slept d (entries_of es t) ≡ true
asleep_slept es d t a = grind (arith, asleep_is es d t)

pub asleep_unnamed : (es : List Entry) (d t : ℕ) → is_asleep es d t ≡ true → is_named es t ≡ false
asleep_unnamed es d t a = grind (arith, asleep_is es d t)

pub slept_asleep : (es : List Entry) (d t : ℕ) → has_slept d (entries_of es t) ≡ true
    → is_named es t ≡ false → is_asleep es d t ≡ true
slept_asleep es d t a n = asleep_is es d t ∙ rw (a, n) refl

-- a thread sleeps on one channel
pub one_channel : (a b : ℕ) (es : List Entry) → has_slept a es ≡ true → has_slept b es ≡ true → a ≡ b
one_channel a b es x y = grind arith

pub slept_back : (d : ℕ) (es : List Entry) → has_slept d es ≡ true → is_taking_back es ≡ true
slept_back d es x = grind arith

pub up_to_most : (es : List Entry) (t : ℕ) → entries_up_to es t ≤ length es
unfolding entries_up_to
up_to_most [] t = omega arith
up_to_most (e ∷ es) t = grind (arith, up_to_most es t)
