-- Laws of the graph of lock orders: what an admitted acquisition makes of its paths, and that it brings no cycle.
use Rattle.std.proofs.Common.{Bool, true, false, cond, ◌&&◌, ◌||◌, eqb, eq-eqb, ◌≡◌, ◌⊎◌, ◌↔◌, ℕ, zero, suc, ◌<◌, List, [], ◌∷◌, Some, None, refl, sym, ap, ◌∙◌, inl, inr, subst, arith}
use Rattle.std.specs.List.{Contains}
use Rattle.std.proofs.lemmas.Bool.{cases_eq, ne_eqb, eqb-true, or_cases, or_left, or_right, and_from, and_parts}
use Rattle.std.proofs.lemmas.Option.{same_Some}
use Rattle.lock_model.specs.Orders.{IsEdge, Reaches, edge, then, HasNoCycle, HaveSameEdges, Forbids, IsAdmitted, IsFirstToForbid, edges_behind, leads_below, above_all, forbids, first_to_forbid}

-- 1. Edges

or_true : (b : Bool) → (b || true) ≡ true
or_true true = refl
or_true false = refl

pub edge_cases : (e : ℕ × ℕ) (es : List (ℕ × ℕ)) (a b : ℕ) → IsEdge (e ∷ es) a b
    → ((e.0 ≡ a) × (e.1 ≡ b)) ⊎ IsEdge es a b
edge_cases e es a b i =
    elim (cases_eq e.0 a) [
      | inl x ↦ elim (cases_eq e.1 b) [
        | inl y ↦ inl (x, y)
        | inr y ↦ inr (let z = rw (eq-eqb e.0 a x, ne_eqb e.1 b y) at i in z)
      ]
      | inr x ↦ inr (let z = rw (ne_eqb e.0 a x) at i in z)
    ]

pub edge_here : (a b : ℕ) (es : List (ℕ × ℕ)) → IsEdge ((a, b) ∷ es) a b
edge_here a b es = rw (eq-eqb a a refl, eq-eqb b b refl) refl

pub edge_later : (e : ℕ × ℕ) (es : List (ℕ × ℕ)) (a b : ℕ) → IsEdge es a b → IsEdge (e ∷ es) a b
edge_later e es a b i = rw i (or_true (eqb e.0 a && eqb e.1 b))

-- the class is a held one
abbrev pub IsAmong : ℕ → List ℕ → Type 0
IsAmong a [] = ⊥
IsAmong a (h ∷ held) = (h ≡ a) ⊎ IsAmong a held

pub new_or_old : (es : List (ℕ × ℕ)) (held : List ℕ) (w a b : ℕ) → IsEdge (edges_behind es held w) a b
    → (IsAmong a held × (w ≡ b)) ⊎ IsEdge es a b
new_or_old es [] w a b i = inr i
new_or_old es (h ∷ held) w a b i =
    elim (edge_cases (h, w) (edges_behind es held w) a b i) [
      | inl x ↦ inl (inl x.0, x.1)
      | inr x ↦ elim (new_or_old es held w a b x) [ inl y ↦ inl (inr y.0, y.1) | inr y ↦ inr y ]
    ]

pub old_stays : (es : List (ℕ × ℕ)) (held : List ℕ) (w a b : ℕ) → IsEdge es a b
    → IsEdge (edges_behind es held w) a b
old_stays es [] w a b i = i
old_stays es (h ∷ held) w a b i = edge_later (h, w) (edges_behind es held w) a b (old_stays es held w a b i)

pub new_stands : (es : List (ℕ × ℕ)) (held : List ℕ) (w a : ℕ) → IsAmong a held
    → IsEdge (edges_behind es held w) a w
new_stands es [] w a i = absurd i
new_stands es (h ∷ held) w a i =
    elim i [
      | inl x ↦ subst (λ k. IsEdge (edges_behind es (h ∷ held) w) k w) x (edge_here h w (edges_behind es held w))
      | inr x ↦ edge_later (h, w) (edges_behind es held w) a w (new_stands es held w a x)
    ]

-- 2. Paths

pub joined : (es : List (ℕ × ℕ)) {a b : ℕ} (d : ℕ) → Reaches es a b → Reaches es b d → Reaches es a d
joined es d (edge i) q = then i q
joined es d (then i r) q = then i (joined es d r q)

-- the edges of the one stand in the other
abbrev pub Grows : List (ℕ × ℕ) → List (ℕ × ℕ) → Type 0
Grows es fs = (a b : ℕ) → IsEdge es a b → IsEdge fs a b

pub paths_grow : (es fs : List (ℕ × ℕ)) → Grows es fs → {a b : ℕ} → Reaches es a b → Reaches fs a b
paths_grow es fs g {a} {b} (edge i) = edge (g a b i)
paths_grow es fs g {a} (then {b = b} i r) = then (g a b i) (paths_grow es fs g r)

pub same_back : (es fs : List (ℕ × ℕ)) → HaveSameEdges es fs → HaveSameEdges fs es
same_back es fs s a b = sym (s a b)

pub same_grows : (es fs : List (ℕ × ℕ)) → HaveSameEdges es fs → Grows es fs
same_grows es fs s a b i = sym (s a b) ∙ i

pub same_has_no_cycle : (es fs : List (ℕ × ℕ)) → HaveSameEdges es fs → HasNoCycle es → HasNoCycle fs
unfolding HasNoCycle
same_has_no_cycle es fs s h a r = h a (paths_grow fs es (same_grows fs es (same_back es fs s)) r)

-- 3. Behind an admitted acquisition

pub forbids_none : (es : List (ℕ × ℕ)) (held : List ℕ) (w a : ℕ) → IsAdmitted es held w → IsAmong a held
    → Forbids es a w → ⊥
forbids_none es [] w a g i f = absurd i
forbids_none es (h ∷ held) w a g i f =
    elim i [
      | inl x ↦ g.0 (subst (λ k. Forbids es k w) (sym x) f)
      | inr x ↦ forbids_none es held w a g.1 x f
    ]

-- a class is one of the held ones, or a path leads from it to one
abbrev pub LeadsToHeld : List (ℕ × ℕ) → List ℕ → ℕ → Type 0
LeadsToHeld es held a = (h : ℕ) × IsAmong h held × ((a ≡ h) ⊎ Reaches es a h)

-- a class is the wanted one, or a path leads from there to it
abbrev pub ComesFromWanted : List (ℕ × ℕ) → ℕ → ℕ → Type 0
ComesFromWanted es w b = (w ≡ b) ⊎ Reaches es w b

module _ (es : List (ℕ × ℕ)) (held : List ℕ) (w : ℕ) where
  abbrev fs : List (ℕ × ℕ)
  fs = edges_behind es held w

  old_path : {a b : ℕ} → Reaches es a b → Reaches fs a b
  old_path r = paths_grow es fs (old_stays es held w) r

  from_wanted : (h b : ℕ) → IsAmong h held → ComesFromWanted es w b → Reaches fs h b
  from_wanted h b i c = elim c [
    | inl x ↦ subst (λ k. Reaches fs h k) x (edge (new_stands es held w h i))
    | inr x ↦ then (new_stands es held w h i) (old_path x)
  ]

  -- what was reached is, and what the wanted class reaches is reached from where a held one was
  pub reached_behind : (a b : ℕ) → Reaches es a b ⊎ (LeadsToHeld es held a × ComesFromWanted es w b) → Reaches fs a b
  reached_behind a b p = elim p [
    | inl x ↦ old_path x
    | inr x ↦ elim x.0.2 [
      | inl y ↦ subst (λ k. Reaches fs k b) (sym y) (from_wanted x.0.0 b x.0.1 x.1)
      | inr y ↦ joined fs b (old_path y) (from_wanted x.0.0 b x.0.1 x.1)
    ]
  ]

module _ (es : List (ℕ × ℕ)) (held : List ℕ) (w : ℕ) (g : IsAdmitted es held w) where
  forbid : (h : ℕ) → IsAmong h held → Forbids es h w → ⊥
  forbid h i f = forbids_none es held w h g i f

  -- and nothing else is reached
  pub way : {a b : ℕ} → Reaches (edges_behind es held w) a b
      → Reaches es a b ⊎ (LeadsToHeld es held a × ComesFromWanted es w b)
  way {a} {b} (edge i) =
      elim (new_or_old es held w a b i) [
        | inl x ↦ inr ((a, x.0, inl refl), inl x.1)
        | inr x ↦ inl (edge x)
      ]
  way {a} {b = d} (then {b = b} i r) =
      elim (new_or_old es held w a b i) [
        | inl x ↦ elim (way r) [
          | inl y ↦ inr ((a, x.0, inl refl), inr (subst (λ k. Reaches es k d) (sym x.1) y))
          | inr y ↦ absurd (elim y.0.2 [
            | inl z ↦ forbid y.0.0 y.0.1 (inl (sym (x.1 ∙ z)))
            | inr z ↦ forbid y.0.0 y.0.1 (inr (subst (λ k. Reaches es k y.0.0) (sym x.1) z))
          ])
        ]
        | inr x ↦ elim (way r) [
          | inl y ↦ inl (then x y)
          | inr y ↦ inr (
            (
              y.0.0,
              y.0.1,
              inr (elim y.0.2 [
                | inl z ↦ edge (subst (λ k. IsEdge es a k) z x)
                | inr z ↦ then x z
              ]),
            ),
            y.1,
          )
        ]
      ]

  -- a held class to which the wanted one leads would forbid it
  no_return : (h : ℕ) → IsAmong h held → (v : ℕ) → ((v ≡ h) ⊎ Reaches es v h) → ComesFromWanted es w v → ⊥
  no_return h i v l c = elim l [
    | inl y ↦ elim c [
      | inl z ↦ forbid h i (inl (sym (z ∙ y)))
      | inr z ↦ forbid h i (inr (subst (λ k. Reaches es w k) y z))
    ]
    | inr y ↦ elim c [
      | inl z ↦ forbid h i (inr (subst (λ k. Reaches es k h) (sym z) y))
      | inr z ↦ forbid h i (inr (joined es h z y))
    ]
  ]

  pub stays_without_cycle : HasNoCycle es → HasNoCycle (edges_behind es held w)
  unfolding HasNoCycle
  stays_without_cycle n v r =
      elim (way r) [
        | inl x ↦ n v x
        | inr x ↦ no_return x.0.0 x.0.1 v x.0.2 x.1
      ]

-- 4. Refusals

-- nothing is refused that is admitted
pub refused_not_admitted : (es : List (ℕ × ℕ)) (held : List ℕ) (w k : ℕ) → IsFirstToForbid es held w k
    → IsAdmitted es held w → ⊥
refused_not_admitted es [] w k f g = absurd f
refused_not_admitted es (h ∷ held) w k f g =
    elim f [ inl x ↦ g.0 x.0 | inr x ↦ refused_not_admitted es held w k x.1 g.1 ]

-- the class that is named forbids, and is a held one
pub first_forbids : (es : List (ℕ × ℕ)) (held : List ℕ) (w k : ℕ) → IsFirstToForbid es held w k → Forbids es k w
first_forbids es [] w k f = absurd f
first_forbids es (h ∷ held) w k f =
    elim f [ inl x ↦ subst (λ j. Forbids es j w) x.1 x.0 | inr x ↦ first_forbids es held w k x.1 ]

pub first_is_held : (es : List (ℕ × ℕ)) (held : List ℕ) (w k : ℕ) → IsFirstToForbid es held w k → Contains held k
first_is_held es [] w k f = absurd f
first_is_held es (h ∷ held) w k f = elim f [
  | inl x ↦ (zero, omega arith, x.1)
  | inr x ↦ let i = first_is_held es held w k x.1 in (suc i.0, omega (arith, i.1), i.2)
]

-- 5. Two lists with the same edges

module _ (es fs : List (ℕ × ℕ)) (s : HaveSameEdges es fs) where
  pub same_paths : {a b : ℕ} → Reaches es a b → Reaches fs a b
  same_paths r = paths_grow es fs (same_grows es fs s) r

  same_forbids : (h w : ℕ) → Forbids es h w → Forbids fs h w
  same_forbids h w f = elim f [ inl x ↦ inl x | inr x ↦ inr (same_paths x) ]

  same_forbids_back : (h w : ℕ) → Forbids fs h w → Forbids es h w
  same_forbids_back h w f =
      elim f [ inl x ↦ inl x | inr x ↦ inr (paths_grow fs es (same_grows fs es (same_back es fs s)) x) ]

  pub same_admitted : (held : List ℕ) (w : ℕ) → IsAdmitted es held w → IsAdmitted fs held w
  same_admitted [] w g = tt
  same_admitted (h ∷ held) w g = (λ f. g.0 (same_forbids_back h w f), same_admitted held w g.1)

  pub same_first : (held : List ℕ) (w k : ℕ) → IsFirstToForbid es held w k → IsFirstToForbid fs held w k
  same_first [] w k f = f
  same_first (h ∷ held) w k f = elim f [
    | inl x ↦ inl (same_forbids h w x.0, x.1)
    | inr x ↦ inr (λ y. x.0 (same_forbids_back h w y), same_first held w k x.1)
  ]

  pub same_behind : (held : List ℕ) (w : ℕ) → HaveSameEdges (edges_behind es held w) (edges_behind fs held w)
  same_behind [] w a b = s a b
  same_behind (h ∷ held) w a b = ap (λ x. (eqb h a && eqb w b) || x) (same_behind held w a b)

-- 6. The tests

-- two ways join, where either is a path over classes below n or one through n
joins : (p q r : Bool) → (p || q && r) ≡ true → (p ≡ true) ⊎ ((q ≡ true) × (r ≡ true))
joins p q r h = elim (or_cases p (q && r) h) [ inl x ↦ inl x | inr x ↦ inr (and_parts q r x) ]

through : (p q r : Bool) → q ≡ true → r ≡ true → (p || q && r) ≡ true
through p q r x y = or_right p (q && r) (and_from q r x y)

module _ (es : List (ℕ × ℕ)) where
  abbrev Leads : ℕ → ℕ → ℕ → Type 0
  Leads n a b = leads_below n es a b ≡ true

  leads_to : (n a : ℕ) → Leads (suc n) a n → Leads n a n
  leads_to n a h = elim (joins (leads_below n es a n) (leads_below n es a n) (leads_below n es n n) h) [
    | inl x ↦ x
    | inr x ↦ x.0
  ]

  leads_from : (n b : ℕ) → Leads (suc n) n b → Leads n n b
  leads_from n b h = elim (joins (leads_below n es n b) (leads_below n es n n) (leads_below n es n b) h) [
    | inl x ↦ x
    | inr x ↦ x.1
  ]

  by : (n a b : ℕ) → Leads n a n → Leads n n b → Leads (suc n) a b
  by n a b x y = through (leads_below n es a b) (leads_below n es a n) (leads_below n es n b) x y

  -- two paths join at a class below n
  leads_on : (n a k b : ℕ) → k < n → Leads n a k → Leads n k b → Leads n a b
  leads_on zero a k b l x y = absurd (omega arith)
  leads_on (suc n) a k b l x y = elim (cases_eq k n) [
    | inl e ↦
        by n a b (leads_to n a (subst (Leads (suc n) a) e x)) (leads_from n b (subst (λ j. Leads (suc n) j b) e y))
    | inr e ↦
        let m : k < n = omega arith in
        elim (joins (leads_below n es a k) (leads_below n es a n) (leads_below n es n k) x) [
          | inl p ↦ elim (joins (leads_below n es k b) (leads_below n es k n) (leads_below n es n b) y) [
            | inl q ↦ or_left (leads_below n es a b) _ (leads_on n a k b m p q)
            | inr q ↦ by n a b (leads_on n a k n m p q.0) q.1
          ]
          | inr p ↦ elim (joins (leads_below n es k b) (leads_below n es k n) (leads_below n es n b) y) [
            | inl q ↦ by n a b p.0 (leads_on n n k b m p.1 q)
            | inr q ↦ by n a b p.0 q.1
          ]
        ]
  ]

  leads_by_edge : (n a b : ℕ) → IsEdge es a b → Leads n a b
  leads_by_edge zero a b i = i
  leads_by_edge (suc n) a b i = or_left (leads_below n es a b) _ (leads_by_edge n a b i)

  leads_reach : (n a b : ℕ) → Leads n a b → Reaches es a b
  leads_reach zero a b h = edge h
  leads_reach (suc n) a b h = elim (joins (leads_below n es a b) (leads_below n es a n) (leads_below n es n b) h) [
    | inl x ↦ leads_reach n a b x
    | inr x ↦ joined es b (leads_reach n a n x.0) (leads_reach n n b x.1)
  ]

  reach_leads : (n : ℕ) → ((a b : ℕ) → IsEdge es a b → b < n) → {a b : ℕ} → Reaches es a b → Leads n a b
  reach_leads n l {a} {b} (edge i) = leads_by_edge n a b i
  reach_leads n l {a} {b = d} (then {b = b} i r) =
      leads_on n a b d (l a b i) (leads_by_edge n a b i) (reach_leads n l r)

  -- with n above all classes to which edges lead, the test is whether a path leads
  pub leads_reaches : (n : ℕ) → ((a b : ℕ) → IsEdge es a b → b < n) → (a b : ℕ)
      → (leads_below n es a b ≡ true) ↔ Reaches es a b
  leads_reaches n l a b = (leads_reach n a b, reach_leads n l)

pub edge_below : (es : List (ℕ × ℕ)) (a b : ℕ) → IsEdge es a b → b < above_all es
edge_below [] a b i = absurd cc
edge_below (e ∷ es) a b i = elim (edge_cases e es a b i) [
  | inl x ↦ let y = x.1 in omega arith
  | inr x ↦ let y = edge_below es a b x in omega arith
]

module _ (es : List (ℕ × ℕ)) (w : ℕ) where
  pub forbids_says : (h : ℕ) → forbids es h w ≡ true → Forbids es h w
  unfolding forbids
  forbids_says h e = elim (or_cases (eqb h w) (leads_below (above_all es) es w h) e) [
    | inl x ↦ inl (eqb-true h w x)
    | inr x ↦ inr ((leads_reaches es (above_all es) (edge_below es) w h).0 x)
  ]

  pub says_forbids : (h : ℕ) → Forbids es h w → forbids es h w ≡ true
  unfolding forbids
  says_forbids h f = elim f [
    | inl x ↦ or_left (eqb h w) (leads_below (above_all es) es w h) (eq-eqb h w x)
    | inr x ↦ or_right (eqb h w) (leads_below (above_all es) es w h)
        ((leads_reaches es (above_all es) (edge_below es) w h).1 x)
  ]

  forbids_not : (h : ℕ) → forbids es h w ≡ false → Forbids es h w → ⊥
  forbids_not h e f = let x = says_forbids h f in cc

  -- None is found exactly where the acquisition is admitted,
  pub none_found : (held : List ℕ) → first_to_forbid es held w ≡ None → IsAdmitted es held w
  none_found [] e = tt
  none_found (h ∷ held) e = go (forbids es h w) refl e (none_found held)
    where
      go : (b : Bool) → forbids es h w ≡ b → cond b (Some h) (first_to_forbid es held w) ≡ None
          → (first_to_forbid es held w ≡ None → IsAdmitted es held w) → IsAdmitted es (h ∷ held) w
      go true x e rest = absurd cc
      go false x e rest = (forbids_not h x, rest e)

  pub found_none : (held : List ℕ) → IsAdmitted es held w → first_to_forbid es held w ≡ None
  found_none [] g = refl
  found_none (h ∷ held) g = go (forbids es h w) refl (found_none held g.1)
    where
      go : (b : Bool) → forbids es h w ≡ b → first_to_forbid es held w ≡ None
          → cond b (Some h) (first_to_forbid es held w) ≡ None
      go true x rest = absurd (g.0 (forbids_says h x))
      go false x rest = rest

  -- and else the class that is found is the first to forbid
  pub first_found : (held : List ℕ) (k : ℕ) → first_to_forbid es held w ≡ Some k → IsFirstToForbid es held w k
  first_found [] k e = absurd cc
  first_found (h ∷ held) k e = go (forbids es h w) refl e (first_found held k)
    where
      go : (b : Bool) → forbids es h w ≡ b → cond b (Some h) (first_to_forbid es held w) ≡ Some k
          → (first_to_forbid es held w ≡ Some k → IsFirstToForbid es held w k)
          → IsFirstToForbid es (h ∷ held) w k
      go true x e rest = inl (forbids_says h x, same_Some h k e)
      go false x e rest = inr (forbids_not h x, rest e)

  pub found_first : (held : List ℕ) (k : ℕ) → IsFirstToForbid es held w k → first_to_forbid es held w ≡ Some k
  found_first [] k f = absurd f
  found_first (h ∷ held) k f = go (forbids es h w) refl (found_first held k)
    where
      go : (b : Bool) → forbids es h w ≡ b
          → (IsFirstToForbid es held w k → first_to_forbid es held w ≡ Some k)
          → cond b (Some h) (first_to_forbid es held w) ≡ Some k
      go true x rest = elim f [ inl y ↦ ap Some y.1 | inr y ↦ absurd (y.0 (forbids_says h x)) ]
      go false x rest = elim f [ inl y ↦ absurd (forbids_not h x y.0) | inr y ↦ rest y.1 ]
