-- Rows that are closed under paths stay so behind an admitted acquisition.
use Rattle.std.proofs.Common.{◌≡◌, ℕ, ◌^◌, ◌<◌, ◌≤◌, ◌↔◌, bit_and, bit_or, true, false, cond, ◌||◌, ◌&&◌, eqb, eq-eqb, List, [], ◌∷◌, length, get_or, zero, refl, sym, ap, subst, inl, inr, ◌⊎◌, ◌∙◌, arith}
use Rattle.std.specs.List.{All, list_any}
use Rattle.std.proofs.lemmas.Bool.{cases_eq, ne_eqb, eqb-true, or_cases, or_left, or_right, and_from, and_parts, false≢true}
use Rattle.std.proofs.lemmas.Nat.{and_le_l}
use Rattle.std.proofs.lemmas.List.{length-replicate}
use Rattle.std.proofs.lemmas.List.Elements.{All-head, All-tail}
use Rattle.lock_model.specs.Counts.{has_bit}
use Rattle.lock_model.specs.Orders.{is_edge, Reaches, edge, then, HasNoCycle, HaveSameEdges, IsAdmitted, edges_behind}
use Rattle.lock_model.proofs.Orders.{IsAmong, LeadsToHeld, ComesFromWanted, way, reached_behind, paths_grow, same_grows, same_back, same_has_no_cycle, stays_without_cycle}
use Rattle.lock_model.specs.declared.numbers.ClassNo.{ClassNo}
use Rattle.witness_orders.specs.Graph.{numbers_of, edges_in, row_behind, IsClosed}
use Rattle.witness_orders.proofs.Sets.{has_and, has_or, has_only, has_none, has_some}
use Rattle.witness_orders.proofs.Rows.{rows_behind, no_edge, no_bits, zeros}

-- 1. A row

-- the class a is in the set, or its row has one of it
abbrev Meets : ℕ → ℕ → ℕ → Type 0
Meets held a row = (c : ℕ) × (has_bit c held ≡ true) × ((a ≡ c) ⊎ (has_bit c row ≡ true))

module _ (held reached a row b : ℕ) where
  abbrev common : ℕ
  common = bit_and held (bit_or row (2 ^ a))

  in_row : (c : ℕ) → has_bit c (bit_or row (2 ^ a)) ≡ true → (a ≡ c) ⊎ (has_bit c row ≡ true)
  in_row c h = elim (or_cases (has_bit c row) (has_bit c (2 ^ a)) (sym (has_or row (2 ^ a) c) ∙ h)) [
    | inl x ↦ inr x
    | inr x ↦ inl (eqb-true a c (sym (has_only a c) ∙ x))
  ]

  to_row : (c : ℕ) → (a ≡ c) ⊎ (has_bit c row ≡ true) → has_bit c (bit_or row (2 ^ a)) ≡ true
  to_row c h = has_or row (2 ^ a) c ∙ elim h [
    | inl x ↦ or_right (has_bit c row) (has_bit c (2 ^ a)) (has_only a c ∙ eq-eqb a c x)
    | inr x ↦ or_left (has_bit c row) (has_bit c (2 ^ a)) x
  ]

  pub row_has : held < 2 ^ 64 → has_bit b (row_behind held reached a row) ≡ true
      → (has_bit b row ≡ true) ⊎ (Meets held a row × (has_bit b reached ≡ true))
  row_has l h = elim (cases_eq common 0) [
    | inl x ↦ inl (let z = rw (eq-eqb common 0 x) at h in z)
    | inr x ↦
        let some = has_some common (let m = and_le_l held (bit_or row (2 ^ a)) in omega arith) x in
        let both = and_parts (has_bit some.0 held) (has_bit some.0 (bit_or row (2 ^ a)))
        (sym (has_and held (bit_or row (2 ^ a)) some.0) ∙ some.1) in
        let more = rw (ne_eqb common 0 x) at h in
        elim (or_cases (has_bit b row) (has_bit b reached) (sym (has_or row reached b) ∙ more)) [
          | inl y ↦ inl y
          | inr y ↦ inr ((some.0, both.0, in_row some.0 both.1), y)
        ]
  ]

  pub row_gets : (has_bit b row ≡ true) ⊎ (Meets held a row × (has_bit b reached ≡ true))
      → has_bit b (row_behind held reached a row) ≡ true
  row_gets h = elim h [
    | inl x ↦ elim (eqb common 0) as (λ k. has_bit b (cond k row (bit_or row reached)) ≡ true) [
      | true ↦ x
      | false ↦ has_or row reached b ∙ or_left (has_bit b row) (has_bit b reached) x
    ]
    | inr x ↦
        let c = x.0.0 in
        let there = has_and held (bit_or row (2 ^ a)) c
        ∙ and_from (has_bit c held) (has_bit c (bit_or row (2 ^ a))) x.0.1 (to_row c x.0.2) in
        let some : common ≡ 0 → ⊥ = λ e. false≢true (sym (has_none c) ∙ ap (has_bit c) (sym e) ∙ there) in
        rw (ne_eqb common 0 some) (has_or row reached b ∙ or_right (has_bit b row) (has_bit b reached) x.1)
  ]

-- 2. Held classes

is_among : (held : List ClassNo) (a : ℕ) → list_any (λ h. eqb h.0 a) held ≡ true → IsAmong a (numbers_of held)
is_among [] a h = absurd (false≢true h)
is_among (x ∷ held) a h = elim (or_cases (eqb x.0 a) (list_any (λ h. eqb h.0 a) held) h) [
  | inl y ↦ inl (eqb-true x.0 a y)
  | inr y ↦ inr (is_among held a y)
]

among : (held : List ClassNo) (a : ℕ) → IsAmong a (numbers_of held) → list_any (λ h. eqb h.0 a) held ≡ true
among [] a h = absurd h
among (x ∷ held) a h = elim h [
  | inl y ↦ or_left (eqb x.0 a) (list_any (λ h. eqb h.0 a) held) (eq-eqb x.0 a y)
  | inr y ↦ or_right (eqb x.0 a) (list_any (λ h. eqb h.0 a) held) (among held a y)
]

among_below : (held : List ClassNo) (n a : ℕ) → All (λ h. h.0 < n) held → IsAmong a (numbers_of held) → a < n
among_below [] n a all h = absurd h
among_below (x ∷ held) n a all h = elim h [
  | inl y ↦ subst (λ k. k < n) y (All-head (λ h. h.0 < n) x held all)
  | inr y ↦ among_below held n a (All-tail (λ h. h.0 < n) x held all) y
]

-- 3. Rows behind an acquisition

module _ (edges reached : List ℕ) (held : List ClassNo) (w set gained : ℕ)
    (old : IsClosed edges reached)
    (inside : All (λ h. h.0 < length edges) held)
    (wanted : w < length edges)
    (admitted : IsAdmitted (edges_in edges) (numbers_of held) w)
    (fits : set < 2 ^ 64)
    (is_set : (b : ℕ) → has_bit b set ≡ list_any (λ h. eqb h.0 b) held)
    (is_gained : gained ≡ bit_or (get_or reached w 0) (2 ^ w)) where
  abbrev es : List (ℕ × ℕ)
  es = edges_in edges

  abbrev hs : List ℕ
  hs = numbers_of held

  -- what the row of a class says
  abbrev Says : ℕ → ℕ → Type 0
  Says a b = (has_bit b (get_or reached a 0) ≡ true) ⊎ (Meets set a (get_or reached a 0) × (has_bit b gained ≡ true))

  abbrev Ways : ℕ → ℕ → Type 0
  Ways a b = Reaches es a b ⊎ (LeadsToHeld es hs a × ComesFromWanted es w b)

  below : (c : ℕ) → IsAmong c hs → c < 64
  below c i = let l = among_below held (length edges) c inside i in let m = old.limit in omega arith

  gained_has : (b : ℕ) → b < 64 → (has_bit b gained ≡ true) ↔ ComesFromWanted es w b
  gained_has b l = (
    λ h. elim (or_cases (has_bit b (get_or reached w 0)) (has_bit b (2 ^ w))
        (sym (has_or (get_or reached w 0) (2 ^ w) b) ∙ ap (has_bit b) (sym is_gained) ∙ h)) [
          | inl x ↦ inr ((old.closed w b wanted l).0 x)
          | inr x ↦ inl (eqb-true w b (sym (has_only w b) ∙ x))
        ],
    λ h. ap (has_bit b) is_gained ∙ has_or (get_or reached w 0) (2 ^ w) b ∙ elim h [
      | inl x ↦ or_right (has_bit b (get_or reached w 0)) (has_bit b (2 ^ w)) (has_only w b ∙ eq-eqb w b x)
      | inr x ↦ or_left (has_bit b (get_or reached w 0)) (has_bit b (2 ^ w)) ((old.closed w b wanted l).1 x)
    ],
  )

  meets : (a : ℕ) → a < length edges → Meets set a (get_or reached a 0) → LeadsToHeld es hs a
  meets a l m =
      let i = is_among held m.0 (sym (is_set m.0) ∙ m.1) in (
        m.0,
        i,
        elim m.2 [ inl x ↦ inl x | inr x ↦ inr ((old.closed a m.0 l (below m.0 i)).0 x) ],
      )

  leads : (a : ℕ) → a < length edges → LeadsToHeld es hs a → Meets set a (get_or reached a 0)
  leads a l m = (
    m.0,
    is_set m.0 ∙ among held m.0 m.1,
    elim m.2 [ inl x ↦ inl x | inr x ↦ inr ((old.closed a m.0 l (below m.0 m.1)).1 x) ],
  )

  says_ways : (a b : ℕ) → a < length edges → b < 64 → Says a b ↔ Ways a b
  says_ways a b l m = (
    λ h. elim h [
      | inl x ↦ inl ((old.closed a b l m).0 x)
      | inr x ↦ inr (meets a l x.0, (gained_has b m).0 x.1)
    ],
    λ h. elim h [
      | inl x ↦ inl ((old.closed a b l m).1 x)
      | inr x ↦ inr (leads a l x.0, (gained_has b m).1 x.1)
    ],
  )

  module _ (new_edges new_reached : List ℕ)
      (same_edges : length new_edges ≡ length edges)
      (same_reached : length new_reached ≡ length reached)
      (says : (a b : ℕ) → has_bit b (get_or new_edges a 0)
      ≡ (has_bit b (get_or edges a 0) || (list_any (λ h. eqb h.0 a) held && eqb w b)))
      (rows : (a : ℕ) → a < length reached
      → get_or new_reached a 0 ≡ row_behind set gained a (get_or reached a 0)) where
    within : w < 64
    within = let m = old.limit in omega arith

    edges_say : HaveSameEdges (edges_in new_edges) (edges_behind es hs w)
    edges_say = rows_behind edges new_edges held w same_edges within inside says

    row : (a : ℕ) → a < length edges → get_or new_reached a 0 ≡ row_behind set gained a (get_or reached a 0)
    row a l = rows a (subst (λ k. a < k) (sym old.columns) l)

    -- the paths of the new rows are those behind the acquisition
    there : {a b : ℕ} → Reaches (edges_in new_edges) a b → Reaches (edges_behind es hs w) a b
    there r = paths_grow (edges_in new_edges) (edges_behind es hs w)
        (same_grows (edges_in new_edges) (edges_behind es hs w) edges_say) r

    back : HaveSameEdges (edges_behind es hs w) (edges_in new_edges)
    back = same_back (edges_in new_edges) (edges_behind es hs w) edges_say

    here : {a b : ℕ} → Reaches (edges_behind es hs w) a b → Reaches (edges_in new_edges) a b
    here r = paths_grow (edges_behind es hs w) (edges_in new_edges)
        (same_grows (edges_behind es hs w) (edges_in new_edges) back) r

    closed : (a b : ℕ) → a < length new_edges → b < 64
        → (has_bit b (get_or new_reached a 0) ≡ true) ↔ Reaches (edges_in new_edges) a b
    closed a b k m =
        let l = subst (λ n. a < n) same_edges k in
        let old_row = get_or reached a 0 in
        let ways = says_ways a b l m in (
          λ h.
              let said = row_has set gained a old_row b fits (ap (has_bit b) (sym (row a l)) ∙ h) in
              here (reached_behind es hs w a b (ways.0 said)),
          λ r. ap (has_bit b) (row a l) ∙ row_gets set gained a old_row b (ways.1 (way es hs w admitted (there r))),
        )

    no_cycle : HasNoCycle (edges_in new_edges)
    no_cycle = same_has_no_cycle (edges_behind es hs w) (edges_in new_edges) back
        (stays_without_cycle es hs w admitted old.no_cycle)

    pub rows_learnt : IsClosed new_edges new_reached × HaveSameEdges (edges_in new_edges) (edges_behind es hs w)
    rows_learnt = (
      record {
        limit = subst (λ n. n ≤ 64) (sym same_edges) old.limit;
        columns = same_reached ∙ old.columns ∙ sym same_edges;
        closed = closed;
        no_cycle = no_cycle;
      },
      edges_say,
    )

-- 4. Rows at the start

from_nowhere : {es : List (ℕ × ℕ)} {a b : ℕ} → es ≡ [] → Reaches es a b → ⊥
from_nowhere {es} {a} {b} e (edge i) =
    let z : is_edge [] a b ≡ true = subst (λ fs. is_edge fs a b ≡ true) e i in
    false≢true z
from_nowhere {es} {a} e (then {b = b} i r) =
    let z : is_edge [] a b ≡ true = subst (λ fs. is_edge fs a b ≡ true) e i in
    false≢true z

pub begins_closed : (n : ℕ) → n ≤ 64 → IsClosed (no_bits n) (no_bits n)
unfolding HasNoCycle
begins_closed n l =
    let none = no_edge (no_bits n) (zeros n) in
    record {
      limit = subst (λ k. k ≤ 64) (sym (length-replicate n zero)) l;
      columns = refl;
      closed = λ a b k m. (
        λ h. absurd (false≢true (sym (has_none b) ∙ ap (has_bit b) (sym (zeros n a)) ∙ h)),
        λ r. absurd (from_nowhere none r),
      );
      no_cycle = λ a r. from_nowhere none r;
    }
