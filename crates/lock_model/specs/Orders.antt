-- The graph of lock orders: which class of locks was wanted behind which held one, and which acquisitions it refuses,
-- as witness(4) keeps and checks it. That a refused acquisition isn't made is this library's own rule.
use Rattle.std.specs.Prelude.{◌≡◌, ◌⊎◌, ℕ, zero, suc, ◌+◌, Bool, true, false, ◌&&◌, ◌||◌, ◌==◌, if◌then◌else◌, List, [], ◌∷◌, ◌++◌, map, Option, Some, None}

-- 1. Edges and paths, between numbers of classes

-- whether the edge stands in the list
abbrev pub is_edge : List (ℕ × ℕ) → ℕ → ℕ → Bool
is_edge [] a b = false
is_edge (e ∷ es) a b = e.0 == a && e.1 == b || is_edge es a b

abbrev pub IsEdge : List (ℕ × ℕ) → ℕ → ℕ → Type 0
IsEdge es a b = is_edge es a b ≡ true

-- a path of one or more edges leads from the one class to the other
pub data Reaches (es : List (ℕ × ℕ)) : ℕ → ℕ → Type 0 where
  edge : {a b : ℕ} → IsEdge es a b → Reaches es a b
  then : {a b d : ℕ} → IsEdge es a b → Reaches es b d → Reaches es a d

-- no path leads back to where it began; so no edge leads from a class to itself
unfoldable pub HasNoCycle : List (ℕ × ℕ) → Type 0
HasNoCycle es = (a : ℕ) → Reaches es a a → ⊥

-- two lists with the same edges, in whatever order and however often
abbrev pub HaveSameEdges : List (ℕ × ℕ) → List (ℕ × ℕ) → Type 0
HaveSameEdges es fs = (a b : ℕ) → is_edge es a b ≡ is_edge fs a b

-- 2. Acquisitions, by the classes of the locks that the thread holds, in order of acquisition: that of the lock gained
-- first stands first

-- a held class forbids the wanted one: they are equal, or a path leads from the wanted class to the held one
abbrev pub Forbids : List (ℕ × ℕ) → ℕ → ℕ → Type 0
Forbids es held wanted = (held ≡ wanted) ⊎ Reaches es wanted held

-- no held class forbids the wanted one
abbrev pub IsAdmitted : List (ℕ × ℕ) → List ℕ → ℕ → Type 0
IsAdmitted es [] wanted = Unit {0}
IsAdmitted es (h ∷ held) wanted = (Forbids es h wanted → ⊥) × IsAdmitted es held wanted

-- the class is the first held one that forbids the wanted one
abbrev pub IsFirstToForbid : List (ℕ × ℕ) → List ℕ → ℕ → ℕ → Type 0
IsFirstToForbid es [] wanted first = ⊥
IsFirstToForbid es (h ∷ held) wanted first =
    (Forbids es h wanted × (h ≡ first))
    ⊎ ((Forbids es h wanted → ⊥) × IsFirstToForbid es held wanted first)

-- the edges behind an admitted acquisition: one more from each held class to the wanted one
abbrev pub edges_behind : List (ℕ × ℕ) → List ℕ → ℕ → List (ℕ × ℕ)
edges_behind es held wanted = map (λ h. (h, wanted)) held ++ es

-- 3. Tests, for a run that decides by them

-- whether a path leads from the one class to the other over no classes between them but those below n
abbrev pub leads_below : ℕ → List (ℕ × ℕ) → ℕ → ℕ → Bool
leads_below zero es a b = is_edge es a b
leads_below (suc n) es a b =
    leads_below n es a b || leads_below n es a n && leads_below n es n b

-- a number above each class to which an edge leads
abbrev pub above_all : List (ℕ × ℕ) → ℕ
above_all [] = 0
above_all (e ∷ es) = suc (e.1 + above_all es)

-- whether a held class forbids the wanted one
unfoldable pub forbids : List (ℕ × ℕ) → ℕ → ℕ → Bool
forbids es held wanted = held == wanted || leads_below (above_all es) es wanted held

-- the first held class that forbids the wanted one
abbrev pub first_to_forbid : List (ℕ × ℕ) → List ℕ → ℕ → Option ℕ
first_to_forbid es [] wanted = None
first_to_forbid es (h ∷ held) wanted =
    if forbids es h wanted then Some h else first_to_forbid es held wanted
