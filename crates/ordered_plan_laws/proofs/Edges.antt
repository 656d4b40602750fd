-- Edges that lead from the class of each lock to those of locks declared behind it: so does each path, and no take
-- upward is refused.
use Rattle.std.proofs.Common.{◌≡◌, ℕ, ◌<◌, true, eqb, ◌&&◌, List, [], ◌∷◌, All, refl, sym, inl, inr, arith, eq-eqb, subst, ◌∙◌}
use Rattle.std.proofs.lemmas.Bool.{cases_eq, ne_eqb, eqb-true, and_from, and_parts}
use Rattle.std.proofs.lemmas.List.Elements.{All-head, All-tail}
use Rattle.lock_model.specs.Config.{Config}
use Rattle.lock_model.specs.Counts.{any_below}
use Rattle.lock_model.specs.Holds.{Holds}
use Rattle.lock_model.specs.Operations.{hold_in}
use Rattle.lock_model.specs.Orders.{IsEdge, Reaches, edge, then, Forbids}
use Rattle.lock_model.proofs.Orders.{new_or_old, first_forbids}
use Rattle.lock_model.specs.declared.plan.Mode.{Mode}
use Rattle.lock_model.specs.declared.event.Held.{Held}
use Rattle.lock_state.specs.State.{State}
use Rattle.lock_state.specs.Steps.Orders.{MayAdmit, MayRefuse, classes_held, after_admit}
use Rattle.lock_state.specs.Facts.{Lawful}
use Rattle.lock_laws.proofs.Best.{any_below-true}
use Rattle.lock_laws.proofs.Shown.{true-any_below}
use Rattle.order_laws.proofs.TakeFacts.Admit.{has_held, first_among}
use Rattle.ordered_plan_laws.specs.Upward.{HaveOwnClasses, HoldsBelow, goes_up, EdgesGoUp}

-- a class of a lock, and one of a lock declared behind it
pub record IsUp (c : Config) (a b : ℕ) : Type 0 where
  pub lower : ℕ
  pub upper : ℕ
  pub less : lower < upper
  pub lock : upper < c.locks
  pub from : c.class lower ≡ a
  pub to : c.class upper ≡ b

module _ (c : Config) where
  pub says_up : (a b : ℕ) → goes_up c a b ≡ true → IsUp c a b
  says_up a b e =
      let r = any_below-true c.locks (λ l. eqb (c.class l) b && any_below l (λ k. eqb (c.class k) a)) e in
      let p = and_parts (eqb (c.class r.0) b) (any_below r.0 (λ k. eqb (c.class k) a)) r.2 in
      let q = any_below-true r.0 (λ k. eqb (c.class k) a) p.1 in
      record {
        lower = q.0;
        upper = r.0;
        less = q.1;
        lock = r.1;
        from = eqb-true (c.class q.0) a q.2;
        to = eqb-true (c.class r.0) b p.0;
      }

  pub up_says : (k l : ℕ) → k < l → l < c.locks → goes_up c (c.class k) (c.class l) ≡ true
  up_says k l less lock =
      true-any_below c.locks (λ i. eqb (c.class i) (c.class l) && any_below i (λ j. eqb (c.class j) (c.class k))) l lock
      (and_from _ _ (eq-eqb (c.class l) (c.class l) refl)
      (true-any_below l (λ j. eqb (c.class j) (c.class k)) k less (eq-eqb (c.class k) (c.class k) refl)))

module _ (c : Config) (own : HaveOwnClasses c) (es : List (ℕ × ℕ))
    (h : (a b : ℕ) → IsEdge es a b → goes_up c a b ≡ true) where
  -- an edge between the classes of two locks leads up
  pub edge_up : (k l : ℕ) → k < c.locks → l < c.locks → IsEdge es (c.class k) (c.class l) → k < l
  edge_up k l x y e =
      let u = says_up c (c.class k) (c.class l) (h (c.class k) (c.class l) e) in
      let a = own u.lower k (omega (arith, u.less, u.lock)) x u.from in
      let b = own u.upper l u.lock y u.to in
      omega (arith, u.less, a, b)

  path_up : {a b : ℕ} → Reaches es a b → IsUp c a b
  path_up {a} {b} (edge i) = says_up c a b (h a b i)
  path_up {a} {b = d} (then {b = b} i r) =
      let x = says_up c a b (h a b i) in
      let y = path_up r in
      let e = own x.upper y.lower x.lock (omega (arith, y.less, y.lock)) (x.to ∙ sym y.from) in
      record {
        lower = x.lower;
        upper = y.upper;
        less = omega (arith, x.less, y.less, e);
        lock = y.lock;
        from = x.from;
        to = y.to;
      }

  -- the class of a lock doesn't forbid that of one behind it
  pub not_forbidden : (j l : ℕ) → j < l → l < c.locks → Forbids es (c.class j) (c.class l) → ⊥
  not_forbidden j l less lock f = elim f [
    | inl x ↦ let e = own j l (omega (arith, less, lock)) lock x in omega (arith, e, less)
    | inr x ↦
        let y = path_up x in
        let a = own y.lower l (omega (arith, y.less, y.lock)) lock y.from in
        let b = own y.upper j y.lock (omega (arith, less, lock)) y.to in
        omega (arith, a, b, y.less, less)
  ]

module _ (c : Config) (s : State) (w : Lawful c s) (t l : ℕ) (below : HoldsBelow s t l) where
  -- an admission adds edges that lead up,
  pub admits_up : MayAdmit c s t l → EdgesGoUp c s.edges → EdgesGoUp c (after_admit c s t l).edges
  unfolding EdgesGoUp after_admit
  admits_up g h a b i = elim (new_or_old s.edges (classes_held c s t) (c.class l) a b i) [
    | inl x ↦
        let r = has_held c s t a w x.0 in
        subst (λ d. goes_up c a d ≡ true) x.1
        (subst (λ d. goes_up c d (c.class l) ≡ true) r.from
        (up_says c r.lock l (below r.lock r.mode r.holds) g.free.lock))
    | inr x ↦ h a b x
  ]

  -- and there is no refusal
  pub none_refused : HaveOwnClasses c → (k : ℕ) → MayRefuse c s t l k → EdgesGoUp c s.edges → ⊥
  unfolding EdgesGoUp
  none_refused own k g h =
      let r = has_held c s t k w (first_among s.edges (classes_held c s t) (c.class l) k g.refused) in
      not_forbidden c own s.edges h r.lock l (below r.lock r.mode r.holds) g.free.lock
      (subst (λ a. Forbids s.edges a (c.class l)) (sym r.from)
      (first_forbids s.edges (classes_held c s t) (c.class l) k g.refused))

-- the locks of a list are declared before one
pub lower_in : (hs : List Held) (l j : ℕ) (mode : Mode) → All (λ h. h.l.0 < l) hs → hold_in hs j ≡ Holds mode → j < l
lower_in [] l j mode a e = absurd cc
lower_in (h ∷ hs) l j mode a e = elim (cases_eq h.l.0 j) [
  | inl x ↦ let z = All-head (λ (x : Held). x.l.0 < l) h hs a in omega (arith, x, z)
  | inr x ↦ lower_in hs l j mode (All-tail (λ (x : Held). x.l.0 < l) h hs a)
      (let z = rw (ne_eqb h.l.0 j x) at e in z)
]
