-- The tests in the facts of takes, and what they say: an edge of a take in progress, an open section of a class, and
-- the edges of noted takes.
use Rattle.order_laws.proofs.Names
use Names.{ℕ, zero, suc, Bool, true, false, not, cond, eqb, List, Option, Some, None, refl, sym, ap, inl, inr, arith}
use Names.{eq-eqb, cases_eq, ne_eqb, eqb-true, or_cases, and_from, and_parts, Config, any_below, Hold, Holds, is_unheld}
use Names.{open_in, IsEdge, forbids, taken_by, classes_open, edges_by, take_edges, has_open, IsAmong, Grows, old_stays}
use Names.{new_stands, paths_grow, forbids_says, says_forbids, gives_edge, in_progress, is_taking_back, Mode, Entry}
use Names.{true-any_below}
use Rattle.std.proofs.Common.{◌≡◌, ◌<◌, ◌&&◌, ◌∷◌, ◌∙◌}
use Rattle.order_laws.proofs.OrderFacts.Lists.{is_held, listed_held}

-- where a test is true somewhere below n
some_below : (n : ℕ) (f : ℕ → Bool) → any_below n f ≡ true → (j : ℕ) × (j < n) × (f j ≡ true)
unfolding any_below
some_below zero f e = absurd cc
some_below (suc n) f e = elim (or_cases (f n) (any_below n f) e) [
  | inl x ↦ (n, omega arith, x)
  | inr x ↦ let r = some_below n f x in (r.0, omega (arith, r.1), r.2)
]

not_true : (b : Bool) → not b ≡ true → b ≡ false
not_true true e = absurd cc
not_true false e = refl

differ : (i j : ℕ) → not (eqb i j) ≡ true → i ≡ j → ⊥
differ i j e x = let z = rw (eq-eqb i j x) at e in cc

differs : (i j : ℕ) → (i ≡ j → ⊥) → not (eqb i j) ≡ true
differs i j n = rw (ne_eqb i j n) refl

-- 1. An edge of a take in progress

pub record InProgress (c : Config) (taking : ℕ → Option ℕ) (log : ℕ → List Entry) (held : ℕ → ℕ → Hold)
    (a b : ℕ) : Type 0 where
  pub thread : ℕ
  pub its : thread < c.threads
  pub lock : ℕ
  pub other : ℕ
  pub below : other < c.locks
  pub mode : Mode
  pub takes : taking thread ≡ Some lock
  pub not_back : is_taking_back (log thread) ≡ false
  pub holds : held thread other ≡ Holds mode
  pub apart : other ≡ lock → ⊥
  pub from : c.class other ≡ a
  pub to : c.class lock ≡ b

module _ (c : Config) (taking : ℕ → Option ℕ) (log : ℕ → List Entry) (held : ℕ → ℕ → Hold) (a b : ℕ) where
  pub says_progress : in_progress c taking log held a b ≡ true → InProgress c taking log held a b
  says_progress e =
      let r = some_below c.threads (λ t. gives_edge c (taking t) (is_taking_back (log t)) (held t) a b) e in
      by r.0 r.1 (taking r.0) refl r.2
    where
      by : (t : ℕ) → t < c.threads → (o : Option ℕ) → taking t ≡ o
          → gives_edge c o (is_taking_back (log t)) (held t) a b ≡ true → InProgress c taking log held a b
      by t l None i x = absurd cc
      by t l (Some k) i x =
          let p = and_parts (eqb (c.class k) b) _ x in
          let q = and_parts (not (is_taking_back (log t))) _ p.1 in
          let r = some_below c.locks (λ j. eqb (c.class j) a && (not (is_unheld (held t j)) && not (eqb j k))) q.1 in
          let u = and_parts (eqb (c.class r.0) a) _ r.2 in
          let v = and_parts (not (is_unheld (held t r.0))) _ u.1 in
          let m = is_held (held t r.0) v.0 in
          record {
            thread = t;
            its = l;
            lock = k;
            other = r.0;
            below = r.1;
            mode = m.0;
            takes = i;
            not_back = not_true (is_taking_back (log t)) q.0;
            holds = m.1;
            apart = differ r.0 k v.1;
            from = eqb-true (c.class r.0) a u.0;
            to = eqb-true (c.class k) b p.0;
          }

  pub progress_says : InProgress c taking log held a b → in_progress c taking log held a b ≡ true
  progress_says p =
      true-any_below c.threads (λ t. gives_edge c (taking t) (is_taking_back (log t)) (held t) a b) p.thread p.its
      (ap (λ o. gives_edge c o (is_taking_back (log p.thread)) (held p.thread) a b) p.takes ∙ here)
    where
      its_lock : any_below c.locks (λ j. eqb (c.class j) a && (not (is_unheld (held p.thread j)) && not (eqb j p.lock)))
          ≡ true
      its_lock =
          true-any_below c.locks
          (λ j. eqb (c.class j) a && (not (is_unheld (held p.thread j)) && not (eqb j p.lock))) p.other p.below
          (and_from (eqb (c.class p.other) a) _ (eq-eqb (c.class p.other) a p.from)
          (and_from (not (is_unheld (held p.thread p.other))) _ (listed_held (held p.thread p.other) p.mode p.holds)
          (differs p.other p.lock p.apart)))

      here : gives_edge c (Some p.lock) (is_taking_back (log p.thread)) (held p.thread) a b ≡ true
      here =
          and_from (eqb (c.class p.lock) b) _ (eq-eqb (c.class p.lock) b p.to)
          (and_from (not (is_taking_back (log p.thread))) _ (ap not p.not_back) its_lock)

-- 2. An open section of a class

module _ (c : Config) (es : List Entry) (t : ℕ) where
  pub open_says : (l k : ℕ) (mode : Mode) → l < c.locks → c.class l ≡ k → open_in c es t l ≡ Holds mode
      → has_open c es t k ≡ true
  open_says l k mode lt e o =
      true-any_below c.locks (λ j. eqb (c.class j) k && not (is_unheld (open_in c es t j))) l lt
      (and_from (eqb (c.class l) k) _ (eq-eqb (c.class l) k e) (listed_held (open_in c es t l) mode o))

-- 3. Edges of noted takes

module _ (c : Config) (es : List Entry) (t : ℕ) where
  open_among : (n l : ℕ) (mode : Mode) → l < n → open_in c es t l ≡ Holds mode
      → IsAmong (c.class l) (classes_open c es t n)
  unfolding classes_open
  open_among zero l mode lt o = absurd (omega arith)
  open_among (suc n) l mode lt o = elim (cases_eq l n) [
    | inl x ↦ here (ap (λ j. is_unheld (open_in c es t j)) (sym x) ∙ ap is_unheld o) x
    | inr x ↦ there (is_unheld (open_in c es t n)) (open_among n l mode (omega arith) o)
  ]
    where
      here : is_unheld (open_in c es t n) ≡ false → l ≡ n → IsAmong (c.class l)
          (cond (is_unheld (open_in c es t n)) (classes_open c es t n) (c.class n ∷ classes_open c es t n))
      here e x = rw e (inl (ap c.class (sym x)))

      there : (b : Bool) → IsAmong (c.class l) (classes_open c es t n)
          → IsAmong (c.class l) (cond b (classes_open c es t n) (c.class n ∷ classes_open c es t n))
      there true i = i
      there false i = inr i

  pub among_open : (n a : ℕ) → IsAmong a (classes_open c es t n)
      → (l : ℕ) × ((mode : Mode) × (open_in c es t l ≡ Holds mode)) × (c.class l ≡ a)
  unfolding classes_open
  among_open zero a i = absurd i
  among_open (suc n) a i = go (open_in c es t n) refl i (among_open n a)
    where
      go : (x : Hold) → open_in c es t n ≡ x
          → IsAmong a (cond (is_unheld x) (classes_open c es t n) (c.class n ∷ classes_open c es t n))
          → (IsAmong a (classes_open c es t n)
          → (l : ℕ) × ((mode : Mode) × (open_in c es t l ≡ Holds mode)) × (c.class l ≡ a))
          → (l : ℕ) × ((mode : Mode) × (open_in c es t l ≡ Holds mode)) × (c.class l ≡ a)
      go x e i rest = grind arith

-- they stay behind an entry,
pub take_stays : (c : Config) (e : Entry) (es : List Entry) → Grows (take_edges c es) (take_edges c (e ∷ es))
unfolding take_edges
take_stays c e es a b i = go (taken_by e.event)
  where
    go : (o : Option ℕ) → IsEdge (edges_by c o es e.thread.0 (take_edges c es)) a b
    go None = i
    go (Some l) = old_stays (take_edges c es) (classes_open c es e.thread.0 c.locks) (c.class l) a b i

-- which gives those of its take
pub take_gives : (c : Config) (e : Entry) (es : List Entry) (l k : ℕ) (mode : Mode) → taken_by e.event ≡ Some l
    → k < c.locks
    → open_in c es e.thread.0 k ≡ Holds mode → IsEdge (take_edges c (e ∷ es)) (c.class k) (c.class l)
unfolding take_edges
take_gives c e es l k mode x lt o =
    rw x (new_stands (take_edges c es) (classes_open c es e.thread.0 c.locks) (c.class l) (c.class k)
    (open_among c es e.thread.0 c.locks k mode lt o))

-- 4. With more edges what was forbidden is

pub forbids_on : (es fs : List (ℕ × ℕ)) → Grows es fs → (h w : ℕ) → forbids es h w ≡ true → forbids fs h w ≡ true
forbids_on es fs g h w e =
    says_forbids fs w h (elim (forbids_says es w h e) [ inl x ↦ inl x | inr x ↦ inr (paths_grow es fs g x) ])
