-- The spans of a track: the rows over which its value stays the same; and what bars and steps make of them.
use Rattle.std.specs.Prelude.{◌≡◌, ℕ, ◌<◌, ◌≤◌, ◌==◌, nat_le, Bool, ◌&&◌, if◌then◌else◌, List, [], ◌++◌, filter, map, Some}
use Rattle.std.specs.List.{All}
use Rattle.run_chart.specs.declared.spans.Span.{Span}
use Rattle.run_tracks.specs.Tracks.{value_in}

-- 1. Spans

-- whether a row is one of those from the first to the last
abbrev pub is_between : ℕ → ℕ → ℕ → Bool
is_between first last n = nat_le first n && nat_le n last

-- whether a span covers a row
abbrev pub covers : {T : Type 0} → ℕ → Span T → Bool
covers n s = is_between s.first s.last n

-- what those spans say that cover a row
abbrev pub values_at : {T : Type 0} → ℕ → List (Span T) → List T
values_at n spans = map (λ s. s.value) (filter (covers n) spans)

-- a span has rows, and all of them in the window
pub record IsWithin {T : Type 0} (from to : ℕ) (s : Span T) : Type 0 where
  pub begins : from ≤ s.first
  pub goes_on : s.first ≤ s.last
  pub ends : s.last ≤ to

-- what calls make of a track's value in a row of the window is so
abbrev pub Makes : {T U : Type 0} → (T → U → Type 0) → List (ℕ × T) → ℕ → ℕ → (ℕ → U) → Type 0
Makes {T} {U} Returns track from to is =
    (n : ℕ) (value : T) (made : U) → from ≤ n → n ≤ to → value_in n track ≡ Some value
    → Returns value made → made ≡ is n

-- 2. What is drawn in the lane of a thread

-- a bar or a step: whose it is, which rows it covers, and what it says
pub record Drawn (V : Type 0) : Type 0 where
  pub thread : ℕ
  pub first : ℕ
  pub last : ℕ
  pub value : V

-- whether it is the thread's and covers the row
abbrev pub is_drawn : {V : Type 0} → ℕ → ℕ → Drawn V → Bool
is_drawn t n d = t == d.thread && is_between d.first d.last n

-- what those of a list say that are the thread's and cover the row
abbrev pub drawn_at : {X V : Type 0} → (X → Drawn V) → ℕ → ℕ → List X → List V
drawn_at drawn t n xs = map (λ d. d.value) (filter (is_drawn t n) (map drawn xs))

-- it is of one of so many threads, and has rows, all of them in the window
pub record IsDrawnIn {V : Type 0} (threads from to : ℕ) (d : Drawn V) : Type 0 where
  pub thread : d.thread < threads
  pub begins : from ≤ d.first
  pub goes_on : d.first ≤ d.last
  pub ends : d.last ≤ to

-- In the window a call adds what is so of the thread, row by row, and of others nothing; and outside of it nothing.
pub record Adds {X V : Type 0} (drawn : X → Drawn V) (thread from to : ℕ) (old new : List X)
    (is : ℕ → List V) : Type 0 where
  pub says : (t n : ℕ) → from ≤ n → n ≤ to → drawn_at drawn t n new
      ≡ drawn_at drawn t n old ++ (if t == thread then is n else [])
  pub within : (threads : ℕ) → thread < threads
      → All (λ x. IsDrawnIn threads from to (drawn x)) old
      → All (λ x. IsDrawnIn threads from to (drawn x)) new

-- so what is drawn of the first threads, each of which is one of so many
pub record Draws {X V : Type 0} (drawn : X → Drawn V) (threads from to : ℕ) (is : ℕ → ℕ → List V)
    (count : ℕ) (xs : List X) : Type 0 where
  pub says : (t n : ℕ) → from ≤ n → n ≤ to → t < count → drawn_at drawn t n xs ≡ is t n
  pub none : (t n : ℕ) → from ≤ n → n ≤ to → count ≤ t → drawn_at drawn t n xs ≡ []
  pub within : All (λ x. IsDrawnIn threads from to (drawn x)) xs
