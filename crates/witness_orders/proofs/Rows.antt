-- The edges that rows of bits say.
use Rattle.std.proofs.Common.{◌≡◌, ℕ, zero, suc, ◌^◌, ◌<◌, ◌≤◌, nat_lt, bit_or, Bool, true, false, cond, ◌||◌, ◌&&◌, eqb, eq-eqb, List, [], ◌∷◌, ◌++◌, length, get_or, set, replicate, refl, sym, ap, subst, inl, inr, ◌∙◌, arith}
use Rattle.std.specs.List.{All, list_all, list_any}
use Rattle.std.proofs.lemmas.List.Folds.{list_any_none}
use Rattle.std.proofs.lemmas.List.Elements.{All-weaker}
use Rattle.std.proofs.lemmas.List.{get_or-set_same, get_or-set_other, get_or-replicate, length-replicate}
use Rattle.std.proofs.Math.ListN.{get_or-eq_default}
use Rattle.std.proofs.lemmas.Bool.{cases_lt, cases_eq, ne_eqb, lt-ltb, le-ltb, eqb-true, and_from, and_parts, or_cases, false≢true}
use Rattle.std.proofs.lemmas.Bool.Decides.{nat_tests}
use Rattle.lock_model.specs.Counts.{has_bit}
use Rattle.lock_model.specs.Orders.{is_edge, edges_behind, HaveSameEdges}
use Rattle.lock_model.specs.declared.numbers.ClassNo.{ClassNo}
use Rattle.witness_orders.specs.Graph.{numbers_of, edges_from, edges_below, edges_in}
use Rattle.witness_orders.proofs.Sets.{has_none, has_or, has_only}

or_groups : (x y z : Bool) → ((x || y) || z) ≡ (x || (y || z))
or_groups true y z = refl
or_groups false y z = refl

is_edge-append : (es fs : List (ℕ × ℕ)) (a b : ℕ) → is_edge (es ++ fs) a b ≡ (is_edge es a b || is_edge fs a b)
is_edge-append [] fs a b = refl
is_edge-append (e ∷ es) fs a b =
    let here = eqb e.0 a && eqb e.1 b in
    ap (λ x. here || x) (is_edge-append es fs a b) ∙ sym (or_groups here (is_edge es a b) (is_edge fs a b))

is_edge-if : (c : Bool) (e : ℕ × ℕ) (es : List (ℕ × ℕ)) (a b : ℕ)
    → is_edge (cond c (e ∷ es) es) a b ≡ ((c && (eqb e.0 a && eqb e.1 b)) || is_edge es a b)
is_edge-if true e es a b = refl
is_edge-if false e es a b = refl

below_suc : (b n : ℕ) → nat_lt b (suc n) ≡ (eqb n b || nat_lt b n)
below_suc b n = grind (arith, nat_tests)

below_none : (b : ℕ) → nat_lt b 0 ≡ false
below_none b = le-ltb b 0 (omega arith)

-- one place more
place : (k n l h g : Bool) → (n ≡ true → h ≡ g) → ((h && (k && n)) || (k && (l && g))) ≡ (k && ((n || l) && g))
place k true l h g e = rw (e refl) (go k l g)
  where
    go : (k l g : Bool) → ((g && (k && true)) || (k && (l && g))) ≡ (k && g)
    go true l true = refl
    go true true false = refl
    go true false false = refl
    go false l true = refl
    go false l false = refl
place k false l true g e = elim k as (λ x. ((x && false) || (x && (l && g))) ≡ (x && (l && g))) [
  | true ↦ refl
  | false ↦ refl
]
place k false l false g e = refl

-- of one row
edge_from : (row k n a b : ℕ) → is_edge (edges_from row k n) a b ≡ (eqb k a && (nat_lt b n && has_bit b row))
unfolding edges_from
edge_from row k zero a b = rw (below_none b) (go (eqb k a))
  where
    go : (x : Bool) → false ≡ (x && false)
    go true = refl
    go false = refl
edge_from row k (suc n) a b =
    is_edge-if (has_bit n row) (k, n) (edges_from row k n) a b
    ∙ ap (λ x. (has_bit n row && (eqb k a && eqb n b)) || x) (edge_from row k n a b)
    ∙ place (eqb k a) (eqb n b) (nat_lt b n) (has_bit n row) (has_bit b row)
    (λ e. ap (λ j. has_bit j row) (eqb-true n b e))
    ∙ ap (λ x. eqb k a && (x && has_bit b row)) (sym (below_suc b n))

-- of rows
column : (n l p q : Bool) → (n ≡ true → p ≡ q) → ((n && p) || (l && q)) ≡ ((n || l) && q)
column true l p q e = rw (e refl) (go l q)
  where
    go : (l q : Bool) → (q || (l && q)) ≡ q
    go true true = refl
    go true false = refl
    go false true = refl
    go false false = refl
column false l p q e = refl

edge_below : (rows : List ℕ) (n a b : ℕ)
    → is_edge (edges_below rows n) a b ≡ (nat_lt a n && (nat_lt b 64 && has_bit b (get_or rows a 0)))
edge_below rows zero a b = rw (below_none a) refl
edge_below rows (suc k) a b =
    let says : ℕ → Bool = λ j. nat_lt b 64 && has_bit b (get_or rows j 0) in
    is_edge-append (edges_from (get_or rows k 0) k 64) (edges_below rows k) a b
    ∙ ap (λ x. x || is_edge (edges_below rows k) a b) (edge_from (get_or rows k 0) k 64 a b)
    ∙ ap (λ x. (eqb k a && says k) || x) (edge_below rows k a b)
    ∙ column (eqb k a) (nat_lt a k) (says k) (says a) (λ e. ap says (eqb-true k a e))
    ∙ ap (λ x. x && says a) (sym (below_suc a k))

pub edge_in : (rows : List ℕ) (a b : ℕ)
    → is_edge (edges_in rows) a b ≡ (nat_lt a (length rows) && (nat_lt b 64 && has_bit b (get_or rows a 0)))
unfolding edges_in
edge_in rows a b = edge_below rows (length rows) a b

-- rows without a bit say no edge
no_edge_from : (row k n : ℕ) → row ≡ 0 → edges_from row k n ≡ []
unfolding edges_from
no_edge_from row k zero e = refl
no_edge_from row k (suc n) e =
    let none : has_bit n row ≡ false = ap (has_bit n) e ∙ has_none n in
    rw none (no_edge_from row k n e)

none_both : (es fs : List (ℕ × ℕ)) → es ≡ [] → fs ≡ [] → es ++ fs ≡ []
none_both [] fs e f = f
none_both (x ∷ es) fs e f = cc

no_edge_below : (rows : List ℕ) (n : ℕ) → ((a : ℕ) → get_or rows a 0 ≡ 0) → edges_below rows n ≡ []
no_edge_below rows zero h = refl
no_edge_below rows (suc a) h =
    none_both (edges_from (get_or rows a 0) a 64) (edges_below rows a) (no_edge_from (get_or rows a 0) a 64 (h a))
    (no_edge_below rows a h)

pub no_edge : (rows : List ℕ) → ((a : ℕ) → get_or rows a 0 ≡ 0) → edges_in rows ≡ []
unfolding edges_in
no_edge rows h = no_edge_below rows (length rows) h

-- behind an acquisition
held_edges : (es : List (ℕ × ℕ)) (held : List ClassNo) (w a b : ℕ)
    → is_edge (edges_behind es (numbers_of held) w) a b
    ≡ ((list_any (λ h. eqb h.0 a) held && eqb w b) || is_edge es a b)
held_edges es [] w a b = refl
held_edges es (h ∷ held) w a b =
    ap (λ x. (eqb h.0 a && eqb w b) || x) (held_edges es held w a b)
    ∙ go (eqb h.0 a) (list_any (λ h. eqb h.0 a) held) (eqb w b) (is_edge es a b)
  where
    go : (x y z r : Bool) → ((x && z) || ((y && z) || r)) ≡ (((x || y) && z) || r)
    go true y true r = refl
    go true true false r = refl
    go true false false r = refl
    go false y z r = refl

-- no class from n on is among those below n
pub none_from : (held : List ClassNo) (n a : ℕ) → All (λ h. h.0 < n) held → n ≤ a
    → list_any (λ h. eqb h.0 a) held ≡ false
none_from held n a h l =
    list_any_none (λ h. eqb h.0 a) held
    (All-weaker (λ h. h.0 < n) (λ h. eqb h.0 a ≡ false) (λ h m. ne_eqb h.0 a (λ e. absurd (omega arith))) held h)

agree : (l m p x w : Bool) → (x ≡ true → l ≡ true) → (w ≡ true → m ≡ true)
    → (l && (m && (p || (x && w)))) ≡ ((x && w) || (l && (m && p)))
agree l m p true true f g = rw (f refl, g refl) (go p)
  where
    go : (p : Bool) → (p || true) ≡ true
    go true = refl
    go false = refl
agree l m true true false f g = refl
agree l m false true false f g = refl
agree l m true false w f g = refl
agree l m false false w f g = refl

-- rows with the bits of an acquisition say its edges
pub rows_behind : (rows new : List ℕ) (held : List ClassNo) (w : ℕ)
    → length new ≡ length rows → w < 64 → All (λ h. h.0 < length rows) held
    → ((a b : ℕ) → has_bit b (get_or new a 0)
    ≡ (has_bit b (get_or rows a 0) || (list_any (λ h. eqb h.0 a) held && eqb w b)))
    → HaveSameEdges (edges_in new) (edges_behind (edges_in rows) (numbers_of held) w)
rows_behind rows new held w same within inside says a b =
    let among = list_any (λ h. eqb h.0 a) held in
    edge_in new a b
    ∙ ap (λ n. nat_lt a n && (nat_lt b 64 && has_bit b (get_or new a 0))) same
    ∙ ap (λ x. nat_lt a (length rows) && (nat_lt b 64 && x)) (says a b)
    ∙ agree (nat_lt a (length rows)) (nat_lt b 64) (has_bit b (get_or rows a 0)) among (eqb w b)
    (λ e. elim (cases_lt a (length rows)) [
      | inl x ↦ lt-ltb a (length rows) x
      | inr x ↦ let z = none_from held (length rows) a inside x in cc
    ]) (λ e. let x : b < 64 = subst (λ k. k < 64) (eqb-true w b e) within in lt-ltb b 64 x)
    ∙ ap (λ x. (among && eqb w b) || x) (sym (edge_in rows a b))
    ∙ sym (held_edges (edges_in rows) held w a b)

-- an acquisition whose edges are there already
among_known : (rows : List ℕ) (held : List ClassNo) (w a : ℕ)
    → list_all (λ h. has_bit w (get_or rows h.0 0)) held ≡ true → list_any (λ h. eqb h.0 a) held ≡ true
    → has_bit w (get_or rows a 0) ≡ true
among_known rows [] w a known e = absurd (false≢true e)
among_known rows (h ∷ held) w a known e =
    let parts = and_parts (has_bit w (get_or rows h.0 0)) (list_all (λ h. has_bit w (get_or rows h.0 0)) held) known in
    elim (or_cases (eqb h.0 a) (list_any (λ h. eqb h.0 a) held) e) [
      | inl x ↦ subst (λ k. has_bit w (get_or rows k 0) ≡ true) (eqb-true h.0 a x) parts.0
      | inr x ↦ among_known rows held w a parts.1 x
    ]

absorbed : (x y : Bool) → (x ≡ true → y ≡ true) → y ≡ (x || y)
absorbed true y f = f refl
absorbed false y f = refl

pub known_edges : (rows : List ℕ) (held : List ClassNo) (w : ℕ) → w < 64 → All (λ h. h.0 < length rows) held
    → list_all (λ h. has_bit w (get_or rows h.0 0)) held ≡ true
    → HaveSameEdges (edges_in rows) (edges_behind (edges_in rows) (numbers_of held) w)
known_edges rows held w within inside known a b =
    let among = list_any (λ h. eqb h.0 a) held in
    absorbed (among && eqb w b) (is_edge (edges_in rows) a b) (λ e.
    let parts = and_parts among (eqb w b) e in
    let bit = subst (λ k. has_bit k (get_or rows a 0) ≡ true) (eqb-true w b parts.1)
    (among_known rows held w a known parts.0) in
    let column = lt-ltb b 64 (subst (λ k. k < 64) (eqb-true w b parts.1) within) in
    let row = lt-ltb a (length rows) (elim (cases_lt a (length rows)) [
      | inl x ↦ x
      | inr x ↦ absurd (false≢true (sym (none_from held (length rows) a inside x) ∙ parts.0))
    ]) in
    edge_in rows a b
    ∙ and_from (nat_lt a (length rows)) (nat_lt b 64 && has_bit b (get_or rows a 0)) row
    (and_from (nat_lt b 64) (has_bit b (get_or rows a 0)) column bit))
    ∙ sym (held_edges (edges_in rows) held w a b)

-- one edge more
spread : (p q x y z : Bool) → q ≡ (p || (x && z)) → (q || (y && z)) ≡ (p || ((x || y) && z))
spread p q x y z e = rw e (go p x y z)
  where
    go : (p x y z : Bool) → ((p || (x && z)) || (y && z)) ≡ (p || ((x || y) && z))
    go true x y z = refl
    go false true y true = refl
    go false true true false = refl
    go false true false false = refl
    go false false y z = refl

pub edge_added : (rows : List ℕ) (h w a b : ℕ) (old among : Bool) → h < length rows
    → has_bit b (get_or rows a 0) ≡ (old || (among && eqb w b))
    → has_bit b (get_or (set rows h (bit_or (get_or rows h 0) (2 ^ w))) a 0)
    ≡ (old || ((among || eqb h a) && eqb w b))
edge_added rows h w a b old among l e = elim (cases_eq h a) [
  | inl x ↦ subst (λ k. has_bit b (get_or (set rows h row) k 0) ≡ (old || ((among || eqb h k) && eqb w b))) x
      (ap (has_bit b) (get_or-set_same rows h row 0 l)
      ∙ has_or (get_or rows h 0) (2 ^ w) b
      ∙ ap (λ y. has_bit b (get_or rows h 0) || y) (has_only w b)
      ∙ rw (eq-eqb h h refl) (spread old (has_bit b (get_or rows h 0)) among true (eqb w b) (at x)))
  | inr x ↦
      ap (has_bit b) (get_or-set_other rows h a row 0 (λ y. x (sym y)))
      ∙ e ∙ rw (ne_eqb h a x) (sym (ap (λ y. old || (y && eqb w b)) (or_false among)))
]
  where
    row : ℕ
    row = bit_or (get_or rows h 0) (2 ^ w)

    at : h ≡ a → has_bit b (get_or rows h 0) ≡ (old || (among && eqb w b))
    at x = subst (λ k. has_bit b (get_or rows k 0) ≡ (old || (among && eqb w b))) (sym x) e

    or_false : (y : Bool) → (y || false) ≡ y
    or_false true = refl
    or_false false = refl

-- rows of no bit
abbrev pub no_bits : ℕ → List ℕ
no_bits n = replicate n 0

pub zeros : (n a : ℕ) → get_or (no_bits n) a 0 ≡ 0
zeros n a = elim (cases_lt a n) [
  | inl l ↦ get_or-replicate n a 0 0 l
  | inr l ↦ get_or-eq_default (no_bits n) 0 (subst (λ k. k ≤ a) (sym (length-replicate n 0)) l)
]
