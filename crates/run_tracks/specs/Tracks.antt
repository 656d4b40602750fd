-- What a track says: the value in each row, by the changes that it keeps.
use Rattle.std.specs.Prelude.{◌≡◌, ℕ, ◌<◌, ◌≤◌, nat_le, if◌then◌else◌, List, fold, option_map, slice_get, Option, Some, None, IsSomeAnd}
use Rattle.std.specs.List.{All, AllPairs}
use Rattle.std.specs.List.Sorted.{IsPartitionPoint}

-- The value in a row. Each change holds from its row on, so it is that of the last one up to there.
abbrev pub value_in : {T : Type 0} → ℕ → List (ℕ × T) → Option T
value_in row changes =
    fold (λ before change. if nat_le change.0 row then Some change.1 else before) None changes

-- rows ascend
abbrev pub Ascend : {T : Type 0} → List (ℕ × T) → Type 0
Ascend changes = AllPairs (λ change later. change.0 < later.0) changes

-- the first value is that of row 0, and rows ascend
pub record IsTrack {T : Type 0} (changes : List (ℕ × T)) : Type 0 where
  pub begins : option_map (λ change. change.0) (slice_get changes 0) ≡ Some 0
  pub ascends : Ascend changes

-- so many changes lie up to the row, and the others behind it
abbrev pub LieUpTo : {T : Type 0} → ℕ → List (ℕ × T) → ℕ → Type 0
LieUpTo row changes count =
    IsPartitionPoint (λ change. change.0 ≤ row) (λ change. row < change.0) changes count

-- The track tells of so many rows, from row 0 on: no change lies behind them, and the value in each is so.
pub record Tells {T : Type 0} (track : List (ℕ × T)) (rows : ℕ) (IsSo : ℕ → T → Type 0) : Type 0 where
  pub within : All (λ change. change.0 < rows) track
  pub value : (n : ℕ) → n < rows → IsSomeAnd (value_in n track) (IsSo n)

-- something holds of each item of a list, by its number
abbrev pub EachAt : {A : Type 0} → (ℕ → A → Type 0) → List A → Type 0
EachAt IsSo items = (i : ℕ) (item : _) → slice_get items i ≡ Some item → IsSo i item

-- so each track tells
abbrev pub EachTells : {T : Type 0} → List (List (ℕ × T)) → ℕ → (ℕ → ℕ → T → Type 0) → Type 0
EachTells tracks rows IsSo = EachAt (λ i track. Tells track rows (IsSo i)) tracks
