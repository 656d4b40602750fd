-- Where the values behind latches are: each at home, or out with the one thread that its latch names.
use Rattle.std.specs.Prelude.{◌≡◌, ℕ, suc, ◌<◌, List, [], ◌∷◌, ◌==◌, if◌then◌else◌, ⊤}
use mathlib.Core.Option.{Option, none, some}
use Rattle.floor_table.specs.declared.slot.Slot.{Slot}

-- the value of a place, in what is out with a thread
abbrev pub found : ℕ → List (ℕ × Slot) → Option Slot
found j [] = none
found j (x ∷ xs) = if x.0 == j then some x.1 else found j xs

-- the places differ
abbrev pub AreApart : List (ℕ × Slot) → Type 0
AreApart [] = ⊤
AreApart (x ∷ xs) = (found x.0 xs ≡ none) × AreApart xs

-- n places, by the latches, what is at home and what is out with each thread
pub record Shelves (n : ℕ) (latch : ℕ → ℕ) (home : ℕ → Option Slot)
    (out : ℕ → List (ℕ × Slot)) (content : ℕ → Slot) : Type 0 where
  pub at_home : (j : ℕ) → j < n → latch j ≡ 0 → home j ≡ some (content j)
  pub away : (j t : ℕ) → j < n → latch j ≡ suc t → found j (out t) ≡ some (content j)
  pub taken : (j t : ℕ) (x : Slot) → found j (out t) ≡ some x
      → (j < n) × (latch j ≡ suc t) × (x ≡ content j)
  pub apart : (t : ℕ) → AreApart (out t)
