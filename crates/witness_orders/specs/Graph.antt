-- What a graph of lock orders is seen as, and the rows of bits that it is kept in.
use Rattle.std.specs.Prelude.{◌≡◌, ℕ, zero, suc, ◌≤◌, ◌<◌, ◌↔◌, ◌^◌, ◌==◌, bit_and, bit_or, true, if◌then◌else◌, List, [], ◌∷◌, ◌++◌, length, map, slice_index}
use Rattle.lock_model.specs.Config.{Config}
use Rattle.lock_model.specs.Counts.{has_bit}
use Rattle.lock_model.specs.Limits.{most_classes}
use Rattle.lock_model.specs.Orders.{Reaches, HaveSameEdges, HasNoCycle}
use Rattle.lock_model.specs.declared.numbers.ClassNo.{ClassNo}

-- how many classes there are, and the edges between their numbers
pub record Graph : Type 0 where
  pub classes : ℕ
  pub edges : List (ℕ × ℕ)

-- it has the class of each lock, and the edges that a state has, in whatever order and however often
pub record RepresentsGraph (c : Config) (graph : Graph) (column : List (ℕ × ℕ)) : Type 0 where
  pub classes : (l : ℕ) → l < c.locks → c.class l < graph.classes
  pub edges : HaveSameEdges graph.edges column

-- the numbers of classes
abbrev pub numbers_of : List ClassNo → List ℕ
numbers_of classes = map (λ c. c.0) classes

-- the edges from a class to those below n whose bits are set in its row
unfoldable pub edges_from : ℕ → ℕ → ℕ → List (ℕ × ℕ)
edges_from row a zero = []
edges_from row a (suc b) =
    if has_bit b row then (a, b) ∷ edges_from row a b else edges_from row a b

-- the edges from each class below n, by its row
abbrev pub edges_below : List ℕ → ℕ → List (ℕ × ℕ)
edges_below rows zero = []
edges_below rows (suc a) = edges_from (slice_index rows a) a most_classes ++ edges_below rows a

-- the edges that rows say, one for each class
unfoldable pub edges_in : List ℕ → List (ℕ × ℕ)
edges_in rows = edges_below rows (length rows)

-- what a class reaches, as a row of bits, where the held classes lead on to those of another row: nothing more
-- where it is no held one and reaches none
abbrev pub row_behind : ℕ → ℕ → ℕ → ℕ → ℕ
row_behind held reached a row =
    if bit_and held (bit_or row (2 ^ a)) == 0 then row else bit_or row reached

-- rows of what each class reaches, closed under paths: a bit is set exactly where a path leads; and the edges have
-- no cycle
pub record IsClosed (edges reached : List ℕ) : Type 0 where
  pub limit : length edges ≤ most_classes
  pub columns : length reached ≡ length edges
  pub closed : (a b : ℕ) → a < length edges → b < most_classes
      → (has_bit b (slice_index reached a) ≡ true) ↔ Reaches (edges_in edges) a b
  pub no_cycle : HasNoCycle (edges_in edges)
