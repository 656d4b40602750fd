-- Sums, least numbers, how often a number stands somewhere, and sets of numbers as bits. The facts of a state are
-- equations between these, so that "exactly one" and "at most one" are said by numbers.
use Rattle.std.specs.Prelude.{ℕ, zero, suc, ◌+◌, ◌/◌, ◌%◌, ◌^◌, Bool, true, false, ◌||◌, ◌==◌, min, List, [], ◌∷◌, Option, Some, None}

-- f 0 + .. + f (n - 1)
unfoldable pub sum_below : ℕ → (ℕ → ℕ) → ℕ
sum_below zero f = 0
sum_below (suc n) f = f n + sum_below n f

-- whether f is true somewhere below n
unfoldable pub any_below : ℕ → (ℕ → Bool) → Bool
any_below zero f = false
any_below (suc n) f = f n || any_below n f

-- 1 for true and 0 for false
abbrev pub one : Bool → ℕ
one true = 1
one false = 0

-- 1 where there is a value
abbrev pub some : {A : Type 0} → Option A → ℕ
some None = 0
some (Some a) = 1

-- 1 where the option is the number, else 0
abbrev pub at_option : ℕ → Option ℕ → ℕ
at_option n None = 0
at_option n (Some m) = one (n == m)

-- how often a number stands in a list
abbrev pub times : ℕ → List ℕ → ℕ
times n [] = 0
times n (m ∷ ms) = one (n == m) + times n ms

-- whether a list has no item
abbrev pub is_empty : {A : Type 0} → List A → Bool
is_empty [] = true
is_empty (x ∷ xs) = false

-- the lesser of a number and one that may be there
abbrev pub lower : Option ℕ → ℕ → ℕ
lower None d = d
lower (Some p) d = min p d

-- the least of d and the numbers of a list
abbrev pub least_with : ℕ → List ℕ → ℕ
least_with d [] = d
least_with d (n ∷ ns) = min n (least_with d ns)

-- the least of d and the numbers that f has below n
unfoldable pub least : ℕ → (ℕ → Option ℕ) → ℕ → ℕ
least zero f d = d
least (suc n) f d = lower (f n) (least n f d)

-- whether a set of numbers, as bits, has the number
unfoldable pub has_bit : ℕ → ℕ → Bool
has_bit n bits = bits / 2 ^ n % 2 == 1
