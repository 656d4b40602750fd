-- Lists of held locks, and the edges of the class graph between their classes.
use Rattle.order_laws.proofs.Names
use Names.{ℕ, true, false, not, cond, eqb, List, [], refl, sym, ap, inl, inr, eq-eqb, subst, reverse, map, cases_eq}
use Names.{ne_eqb, or_right, reverse-append, Config, Hold, Holds, is_unheld, IsEdge, edges_behind, IsAmong, Grows}
use Names.{new_stands, HeldLock, without_held, held_classes, is_listed, EachLeads, AreOrdered, Mode, arith}
use Rattle.std.proofs.Common.{◌≡◌, ◌∷◌, ◌++◌}

-- 1. A lock that is held

pub is_held : (x : Hold) → not (is_unheld x) ≡ true → (mode : Mode) × (x ≡ Holds mode)
is_held x e = grind arith

pub listed_held : (x : Hold) (mode : Mode) → x ≡ Holds mode → not (is_unheld x) ≡ true
listed_held x mode e = ap (λ y. not (is_unheld y)) e

-- 2. Edges from each lock of a list

module _ (c : Config) (es : List (ℕ × ℕ)) where
  pub each_from : (hs : List HeldLock) (w : ℕ) → ((k : ℕ) → is_listed k hs ≡ true → IsEdge es (c.class k) w)
      → EachLeads c es hs w
  each_from [] w f = tt
  each_from (h ∷ hs) w f = (
    f h.lock (rw (eq-eqb h.lock h.lock refl) refl),
    each_from hs w (λ k e. f k (or_right (eqb k h.lock) (is_listed k hs) e)),
  )

  pub each_at : (hs : List HeldLock) (w k : ℕ) → EachLeads c es hs w → is_listed k hs ≡ true → IsEdge es (c.class k) w
  each_at [] w k f e = absurd cc
  each_at (h ∷ hs) w k f e = elim (cases_eq k h.lock) [
    | inl x ↦ subst (λ i. IsEdge es (c.class i) w) (sym x) f.0
    | inr x ↦ each_at hs w k f.1 (let z = rw (ne_eqb k h.lock x) at e in z)
  ]

  each_without : (l : ℕ) (hs : List HeldLock) (w : ℕ) → EachLeads c es hs w → EachLeads c es (without_held l hs) w
  each_without l [] w f = tt
  each_without l (h ∷ hs) w f =
      elim (eqb l h.lock) as (λ b. EachLeads c es (cond b (without_held l hs) (h ∷ without_held l hs)) w) [
        | true ↦ each_without l hs w f.1
        | false ↦ (f.0, each_without l hs w f.1)
      ]

  -- one lock less
  pub ordered_without : (l : ℕ) (hs : List HeldLock) → AreOrdered c es hs → AreOrdered c es (without_held l hs)
  ordered_without l [] f = tt
  ordered_without l (h ∷ hs) f =
      elim (eqb l h.lock) as (λ b. AreOrdered c es (cond b (without_held l hs) (h ∷ without_held l hs))) [
        | true ↦ ordered_without l hs f.1
        | false ↦ ((λ i. each_without l hs (c.class h.lock) (f.0 i)), ordered_without l hs f.1)
      ]

-- 3. Edges more

module _ (c : Config) (es fs : List (ℕ × ℕ)) (g : Grows es fs) where
  each_grow : (hs : List HeldLock) (w : ℕ) → EachLeads c es hs w → EachLeads c fs hs w
  each_grow [] w f = tt
  each_grow (h ∷ hs) w f = (g (c.class h.lock) w f.0, each_grow hs w f.1)

  pub ordered_grow : (hs : List HeldLock) → AreOrdered c es hs → AreOrdered c fs hs
  ordered_grow [] f = tt
  ordered_grow (h ∷ hs) f = ((λ i. each_grow hs (c.class h.lock) (f.0 i)), ordered_grow hs f.1)

-- 4. The classes of held locks

among_front : (a : ℕ) (xs ys : List ℕ) → IsAmong a xs → IsAmong a (xs ++ ys)
among_front a [] ys i = absurd i
among_front a (x ∷ xs) ys i = elim i [ inl y ↦ inl y | inr y ↦ inr (among_front a xs ys y) ]

among_back : (a : ℕ) (xs ys : List ℕ) → IsAmong a ys → IsAmong a (xs ++ ys)
among_back a [] ys i = i
among_back a (x ∷ xs) ys i = inr (among_back a xs ys i)

pub among_reverse : (a : ℕ) (xs : List ℕ) → IsAmong a xs → IsAmong a (reverse xs)
among_reverse a [] i = absurd i
among_reverse a (x ∷ xs) i = subst (IsAmong a) (sym (reverse-append (x ∷ []) xs)) (elim i [
  | inl y ↦ among_back a (reverse xs) (x ∷ []) (inl y)
  | inr y ↦ among_front a (reverse xs) (x ∷ []) (among_reverse a xs y)
])

among_classes : (c : Config) (hs : List HeldLock) (k : ℕ) → is_listed k hs ≡ true
    → IsAmong (c.class k) (map (λ h. c.class h.lock) hs)
among_classes c [] k e = absurd cc
among_classes c (h ∷ hs) k e = elim (cases_eq k h.lock) [
  | inl x ↦ inl (ap c.class (sym x))
  | inr x ↦ inr (among_classes c hs k (let z = rw (ne_eqb k h.lock x) at e in z))
]

-- behind an admission an edge leads from each held lock to the one that is wanted
pub held_lead : (c : Config) (es : List (ℕ × ℕ)) (hs : List HeldLock) (w k : ℕ) → is_listed k hs ≡ true
    → IsEdge (edges_behind es (held_classes c hs) w) (c.class k) w
held_lead c es hs w k e =
    new_stands es (held_classes c hs) w (c.class k)
    (among_reverse (c.class k) (map (λ h. c.class h.lock) hs) (among_classes c hs k e))
