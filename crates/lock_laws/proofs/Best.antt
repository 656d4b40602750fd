-- Where no walk is under way and nobody waits in a cycle, each effective priority is the best behind it.
use Rattle.lock_laws.proofs.Names
use Names.{ℕ, zero, suc, Bool, true, false, cond, eqb, leb, min, List, [], length, Option, Some, None, refl, sym, ap}
use Names.{inl, inr, arith, eq-eqb, append_assoc, subst, ne_eqb, cases_eq, cases_Bool, leb-true, le-leb, or_cases}
use Names.{and_parts, length-le_from_distinct_below, IsDistinct, AllByRecursion, list_any, any_below, least, lower}
use Names.{is_turnstile, State, Loan, Config, Waiter, Lists, lock_queue, times_waiting, stands, least_kept}
use Names.{least_of_two, least_of, NotHeld, Holds, prio_of, Lawful, KeptIsEffective, LoansAreLeast, LoansAreWithOwners}
use Names.{OwnersHold, EffectiveIsLeast, StandsOnce, OnlyThreadsStand, StandingWants, WordsMatchHolders, owns, Each}
use Names.{EachOf, IsKept, walkers_at_lock, walkers_at_thread, at_lock, at_thread, is_behind, best_within, best_behind}
use Names.{WaitsFor, WaitsAlong, HasCycle, NobodyWalks, Excl}
use Rattle.std.proofs.Common.{◌≡◌, ◌<◌, ◌≤◌, ◌∷◌, ◌++◌, ◌∙◌, ◌&&◌}
use Rattle.lock_laws.proofs.Kit.{at_queue_one, sum_below-zero}
use Rattle.lock_laws.proofs.HeadsOfWaiters.{standing_head}
use Rattle.lock_laws.proofs.Lending.{least-le_base}
use Rattle.lock_laws.proofs.Shown.{true-any_below, owner_from, owner-owns, exclusive_is}
use Rattle.lock_laws.proofs.Words.{owns_is}

-- 1. The least

lower-le : (o : Option ℕ) (d p : ℕ) → o ≡ Some p → lower o d ≤ p
lower-le o d p e = grind arith

lower-le_base : (o : Option ℕ) (d : ℕ) → lower o d ≤ d
lower-le_base o d = grind arith

lower-above : (o : Option ℕ) (d m : ℕ) → ((p : ℕ) → o ≡ Some p → m ≤ p) → m ≤ d → m ≤ lower o d
lower-above o d m f l = grind arith

pub least-le : (n : ℕ) (f : ℕ → Option ℕ) (d j p : ℕ) → j < n → f j ≡ Some p → least n f d ≤ p
unfolding least
least-le zero f d j p l e = absurd (omega arith)
least-le (suc n) f d j p l e =
    elim (cases_eq j n) [
      | inl x ↦ lower-le (f n) (least n f d) p (ap f (sym x) ∙ e)
      | inr x ↦ omega (arith, least-le n f d j p (omega arith) e, lower-le_base (f n) (least n f d))
    ]

pub least-above : (n : ℕ) (f : ℕ → Option ℕ) (d m : ℕ) → ((j p : ℕ) → j < n → f j ≡ Some p → m ≤ p) → m ≤ d
    → m ≤ least n f d
unfolding least
least-above zero f d m h l = l
least-above (suc n) f d m h l = lower-above (f n) (least n f d) m (λ p e. h n p (omega arith) e)
    (least-above n f d m (λ j p x e. h j p (omega arith) e) l)

pub least-same_below : (n : ℕ) (f g : ℕ → Option ℕ) (d : ℕ) → ((j : ℕ) → j < n → f j ≡ g j) → least n f d ≡ least n g d
unfolding least
least-same_below zero f g d h = refl
least-same_below (suc n) f g d h =
    let a = h n (omega arith) in
    let b = least-same_below n f g d (λ j l. h j (omega arith)) in
    cc

pub any_below-true : (n : ℕ) (f : ℕ → Bool) → any_below n f ≡ true → (j : ℕ) × (j < n) × (f j ≡ true)
unfolding any_below
any_below-true zero f e = absurd cc
any_below-true (suc n) f e =
    elim (or_cases (f n) (any_below n f) e) [
      | inl x ↦ (n, omega arith, x)
      | inr x ↦ let r = any_below-true n f x in (r.0, omega arith, r.2)
    ]

-- 2. The least kept priority is that of a waiter

-- who stands in the list has at least the least kept priority, where the kept ones are right
kept-le : (k : ℕ → ℕ) (u : ℕ) (ws : List Waiter) → Each (λ w. w.kept ≡ k w.thread) ws → 1 ≤ times_waiting u ws
    → (p : ℕ) × (least_kept ws ≡ Some p) × (p ≤ k u)
kept-le k u [] e l = absurd (omega arith)
kept-le k u (w ∷ ws) e l =
    elim (cases_eq u w.thread) [
      | inl x ↦ (
        lower (least_kept ws) w.kept,
        refl,
        let a = lower-le_base (least_kept ws) w.kept in let b : k u ≡ k w.thread = ap k x in let d = e.0 in omega arith,
      )
      | inr x ↦
          let z : times_waiting u (w ∷ ws) ≡ times_waiting u ws = rw (ne_eqb u w.thread x) (omega arith) in
          let r = kept-le k u ws e.1 (omega arith) in (
            lower (least_kept ws) w.kept,
            refl,
            let a = lower-le (least_kept ws) w.kept r.0 r.1 in let b = r.2 in omega arith,
          )
    ]

-- and it is that of somebody
kept-is : (k : ℕ → ℕ) (ws : List Waiter) (p : ℕ) → Each (λ w. w.kept ≡ k w.thread) ws → least_kept ws ≡ Some p
    → (u : ℕ) × (1 ≤ times_waiting u ws) × (k u ≡ p)
kept-is k [] p e l = absurd cc
kept-is k (w ∷ ws) p e l = go (λ q x. kept-is k ws q e.1 x) (least_kept ws) refl l
  where
    here : lower None w.kept ≡ p → (u : ℕ) × (1 ≤ times_waiting u (w ∷ ws)) × (k u ≡ p)
    here x = (w.thread, rw (eq-eqb w.thread w.thread refl) (omega arith), let a = e.0 in omega arith)

    go : ((q : ℕ) → least_kept ws ≡ Some q → (u : ℕ) × (1 ≤ times_waiting u ws) × (k u ≡ q)) → (o : Option ℕ)
        → least_kept ws ≡ o → Some (lower o w.kept) ≡ Some p → (u : ℕ) × (1 ≤ times_waiting u (w ∷ ws)) × (k u ≡ p)
    go f None x y = here cc
    go f (Some q) x y =
        let z : min q w.kept ≡ p = cc in
        elim (cases_eq w.kept p) [
          | inl v ↦ here v
          | inr v ↦
              let m : q ≡ p = omega arith in
              let r = f q x in
              (r.0, omega (arith, r.1), r.2 ∙ m)
        ]

-- the same of both lists
least_of-le : (k : ℕ → ℕ) (u : ℕ) (q : Lists) → EachOf (λ w. w.kept ≡ k w.thread) q → 1 ≤ stands u q
    → (p : ℕ) × (least_of q ≡ Some p) × (p ≤ k u)
least_of-le k u q e l = go (least_kept q.exclusive) (least_kept q.shared) (λ x. kept-le k u q.exclusive e.0 x)
    (λ x. kept-le k u q.shared e.1 x)
  where
    go : (a b : Option ℕ) → (1 ≤ times_waiting u q.exclusive → (p : ℕ) × (a ≡ Some p) × (p ≤ k u))
        → (1 ≤ times_waiting u q.shared → (p : ℕ) × (b ≡ Some p) × (p ≤ k u))
        → (p : ℕ) × (least_of_two a b ≡ Some p) × (p ≤ k u)
    go None b f g =
        elim (cases_eq (times_waiting u q.exclusive) 0) [
          | inl x ↦ g (omega arith)
          | inr x ↦ let r = f (omega arith) in absurd (let y = r.1 in cc)
        ]
    go (Some a) b f g =
        elim (cases_eq (times_waiting u q.exclusive) 0) [
          | inl x ↦ let r = g (omega arith) in
              (lower b a, refl, let y = lower-le b a r.0 r.1 in let z = r.2 in omega arith)
          | inr x ↦ let r = f (omega arith) in (
            lower b a,
            refl,
            let y : a ≡ r.0 = (let v = r.1 in cc) in let z = r.2 in let o = lower-le_base b a in omega arith,
          )
        ]

least_of-is : (k : ℕ → ℕ) (q : Lists) (p : ℕ) → EachOf (λ w. w.kept ≡ k w.thread) q → least_of q ≡ Some p
    → (u : ℕ) × (1 ≤ stands u q) × (k u ≡ p)
least_of-is k q p e l = go (least_kept q.exclusive) (least_kept q.shared) refl refl l
  where
    left : (x : ℕ) → least_kept q.exclusive ≡ Some x → x ≡ p → (u : ℕ) × (1 ≤ stands u q) × (k u ≡ p)
    left x a y = let r = kept-is k q.exclusive x e.0 a in (r.0, omega (arith, r.1), r.2 ∙ y)

    right : (x : ℕ) → least_kept q.shared ≡ Some x → x ≡ p → (u : ℕ) × (1 ≤ stands u q) × (k u ≡ p)
    right x a y = let r = kept-is k q.shared x e.1 a in (r.0, omega (arith, r.1), r.2 ∙ y)

    go : (a b : Option ℕ) → least_kept q.exclusive ≡ a → least_kept q.shared ≡ b → least_of_two a b ≡ Some p
        → (u : ℕ) × (1 ≤ stands u q) × (k u ≡ p)
    go None b x y z = right p (y ∙ z) refl
    go (Some a) None x y z = left a x cc
    go (Some a) (Some b) x y z =
        let m : min b a ≡ p = cc in
        elim (cases_eq a p) [ inl v ↦ left a x v | inr v ↦ right b y (omega arith) ]

-- 3. Who is behind whom

module _ (c : Config) (s : State) where
  abbrev behind_lock : ℕ → ℕ → ℕ → Bool
  behind_lock u t l = is_turnstile (c.kind l) && (owns t (s.word l).holder && leb 1 (stands u (s.lists (lock_queue l))))

  behind_at : (u t : ℕ) → is_behind c s u t ≡ true → (l : ℕ) × (l < c.locks) × (is_turnstile (c.kind l) ≡ true)
      × (owns t (s.word l).holder ≡ true) × (1 ≤ stands u (s.lists (lock_queue l)))
  unfolding is_behind
  behind_at u t e =
      let r = any_below-true c.locks (behind_lock u t) e in
      let x = and_parts (is_turnstile (c.kind r.0))
      (owns t (s.word r.0).holder && leb 1 (stands u (s.lists (lock_queue r.0)))) r.2 in
      let y = and_parts (owns t (s.word r.0).holder) (leb 1 (stands u (s.lists (lock_queue r.0)))) x.1 in
      (r.0, r.1, x.0, y.0, leb-true 1 (stands u (s.lists (lock_queue r.0))) y.1)

  behind_from : (u t l : ℕ) → l < c.locks → is_turnstile (c.kind l) ≡ true → owns t (s.word l).holder ≡ true
      → 1 ≤ stands u (s.lists (lock_queue l)) → is_behind c s u t ≡ true
  unfolding is_behind
  behind_from u t l lt i o k =
      true-any_below c.locks (behind_lock u t) l lt (rw (i, o) (le-leb 1 (stands u (s.lists (lock_queue l))) k))

  -- each thread of a list is behind the one before it, and the first is behind t
  abbrev IsChain : ℕ → List ℕ → Type 0
  IsChain t [] = Unit {0}
  IsChain t (u ∷ us) = (u < c.threads) × (is_behind c s u t ≡ true) × IsChain u us

  -- a chain that comes back
  abbrev Loop : Type 0
  Loop = (t : ℕ) × ((us : List ℕ) × IsChain t (us ++ t ∷ []))

  -- 4. A chain that is longer than there are threads has a loop

  -- the part of a chain up to a thread in it
  cut : (t v : ℕ) (us : List ℕ) → IsChain t us → list_any (eqb v) us ≡ true → (vs : List ℕ) × IsChain t (vs ++ v ∷ [])
  cut t v [] i e = absurd cc
  cut t v (u ∷ us) i e =
      elim (cases_eq v u) [
        | inl x ↦ ([], (rw x i.0, rw x i.1, tt))
        | inr x ↦ let r = cut u v us i.2 (rw (ne_eqb v u x) at e) in (u ∷ r.0, (i.0, i.1, r.1))
      ]

  apart : (v : ℕ) (us : List ℕ) → list_any (eqb v) us ≡ false → AllByRecursion (λ y. eqb v y ≡ false) us
  apart v [] e = tt
  apart v (u ∷ us) e = elim (cases_Bool
      (eqb v u)) [ inl x ↦ absurd (let y : true ≡ false = rw x at e in cc) | inr x ↦ (x, apart v us (rw x at e)) ]

  distinct : (t : ℕ) (us : List ℕ) → (Loop → ⊥) → IsChain t us → IsDistinct eqb (t ∷ us)
  unfolding IsDistinct
  distinct t [] free i = (tt, tt)
  distinct t (u ∷ us) free i =
      elim (cases_Bool (list_any (eqb t) (u ∷ us))) [
        | inl x ↦ absurd (free (t, cut t t (u ∷ us) i x))
        | inr x ↦ (apart t (u ∷ us) x, distinct u us free i.2)
      ]

  inside_chain : (t q : ℕ) (us : List ℕ) → IsChain t us → list_any (eqb q) us ≡ true → q < c.threads
  inside_chain t q [] i e = absurd cc
  inside_chain t q (u ∷ us) i e =
      elim (cases_eq q u) [ inl x ↦ rw x i.0 | inr x ↦ inside_chain u q us i.2 (rw (ne_eqb q u x) at e) ]

  chain_short : (t : ℕ) (us : List ℕ) → t < c.threads → (Loop → ⊥) → IsChain t us → length us ≤ c.threads
  chain_short t us lt free i =
      let a = length-le_from_distinct_below (t ∷ us) c.threads (distinct t us free i)
      (λ q e. elim (cases_eq q t) [ inl x ↦ rw x lt | inr x ↦ inside_chain t q us i (rw (ne_eqb q t x) at e) ]) in
      omega arith

-- 5. One level

module _ (c : Config) (s : State) (h : Lawful c s) where
  named_here : (u l : ℕ) → 1 ≤ stands u (s.lists (lock_queue l)) → s.blocked_on u ≡ Some (lock_queue l)
  unfolding StandsOnce
  named_here u l k = at_queue_one (lock_queue l) (s.blocked_on u) (omega (arith, h.waits.stands_once u (lock_queue l)))

  inside : (u l : ℕ) → 1 ≤ stands u (s.lists (lock_queue l)) → u < c.threads
  unfolding OnlyThreadsStand
  inside u l k = h.waits.only_threads_stand u (lock_queue l) (named_here u l k)

  -- a thread that is behind another waits for it
  waits : (u t : ℕ) → is_behind c s u t ≡ true → WaitsFor s u t
  unfolding StandingWants WordsMatchHolders
  waits u t e =
      let r = behind_at c s u t e in
      let a = exclusive_is (s.held t r.0) ((h.words.words_match_holders r.0).owner t ∙ r.3) in
      (r.0, h.waits.standing_wants u r.0 (named_here u r.0 r.4), λ x. let z : Holds Excl ≡ NotHeld = sym a ∙ x in cc)

  -- so a chain of those that are behind, read from its end, is one of those that wait
  along : (t v : ℕ) (us rest : List ℕ) → IsChain c s t (us ++ v ∷ []) → WaitsAlong s t rest
      → (xs : List ℕ) × WaitsAlong s v (xs ++ t ∷ rest)
  along t v [] rest i w = ([], (waits v t i.1, w))
  along t v (u ∷ us) rest i w =
      let r = along u v us (t ∷ rest) i.2 (waits u t i.1, w) in
      (r.0 ++ u ∷ [], subst (WaitsAlong s v) (sym (append_assoc r.0 (u ∷ []) (t ∷ rest))) r.1)

  no_loop : (HasCycle s → ⊥) → Loop c s → ⊥
  no_loop free p = free (p.0, along p.0 p.0 p.1.0 [] p.1.1 tt)

  owner-here : (t l u : ℕ) → is_turnstile (c.kind l) ≡ true → 1 ≤ stands u (s.lists (lock_queue l))
      → owns t (s.word l).holder ≡ true → s.owner (lock_queue l) ≡ Some t
  unfolding OwnersHold
  owner-here t l u i k e =
      let x = standing_head c s u (lock_queue l) h k in
      let a = owns_is t (s.word l).holder e in
      h.loans.owners_hold l ∙ rw (i, x.1, a) refl

module _ (c : Config) (s : State) (h : Lawful c s) (still : NobodyWalks c s) where
  none_at_lock : (l : ℕ) → walkers_at_lock c s.walk l ≡ 0
  unfolding walkers_at_lock
  none_at_lock l = sum_below-zero c.threads (λ t. at_lock l (s.walk t)) (λ t i. ap (at_lock l) (still t i))

  none_at_thread : (o : ℕ) → walkers_at_thread c s.walk o ≡ 0
  unfolding walkers_at_thread
  none_at_thread o = sum_below-zero c.threads (λ t. at_thread o (s.walk t)) (λ t i. ap (at_thread o) (still t i))

  exact : (l : ℕ) → is_turnstile (c.kind l) ≡ true
      → EachOf (λ w. w.kept ≡ s.effective w.thread) (s.lists (lock_queue l))
  unfolding KeptIsEffective
  exact l i = (
    go (s.lists (lock_queue l)).exclusive (h.loans.kept_is_effective l i).0,
    go (s.lists (lock_queue l)).shared (h.loans.kept_is_effective l i).1,
  )
    where
      go : (ws : List Waiter) → Each (IsKept c s.walk s.effective) ws → Each (λ w. w.kept ≡ s.effective w.thread) ws
      go [] e = tt
      go (w ∷ ws) e = (e.0 (none_at_thread w.thread), go ws e.1)

  abbrev from_behind : ℕ → ℕ → Option ℕ
  from_behind t u = cond (is_behind c s u t) (Some (s.effective u)) None

  -- no one behind has a lesser effective priority than the least loan
  down : (t : ℕ) → least c.locks (λ l. prio_of (s.loan t l)) (s.base t) ≤ least c.threads (from_behind t) (s.base t)
  unfolding LoansAreLeast
  down t =
      least-above c.threads (from_behind t) (s.base t) (least c.locks (λ l. prio_of (s.loan t l)) (s.base t))
      (λ u p lt e. elim (cases_Bool (is_behind c s u t)) [
        | inl y ↦
            let r = behind_at c s u t y in
            let o = owner-here c s h t r.0 u r.2 r.4 r.3 in
            let w = least_of-le s.effective u (s.lists (lock_queue r.0)) (exact r.0 r.2) r.4 in
            let v = least-le c.locks (λ l. prio_of (s.loan t l)) (s.base t) r.0 w.0 r.1
            (h.loans.loans_are_least r.0 t o (none_at_lock r.0) ∙ w.1) in
            let x : Some (s.effective u) ≡ Some p = rw y at e in
            let x2 : s.effective u ≡ p = cc in
            let w2 = w.2 in
            omega arith
        | inr y ↦ let x : None ≡ Some p = rw y at e in absurd cc
      ])
      (least-le_base c.locks (λ l. prio_of (s.loan t l)) (s.base t))

  -- and each loan is the effective priority of someone behind
  up : (t : ℕ) → least c.threads (from_behind t) (s.base t) ≤ least c.locks (λ l. prio_of (s.loan t l)) (s.base t)
  unfolding LoansAreLeast LoansAreWithOwners OwnersHold
  up t =
      least-above c.locks (λ l. prio_of (s.loan t l)) (s.base t) (least c.threads (from_behind t) (s.base t))
      (λ l p lt e. go l p lt (s.loan t l) refl e)
      (least-le_base c.threads (from_behind t) (s.base t))
    where
      go : (l p : ℕ) → l < c.locks → (o : Option Loan) → s.loan t l ≡ o → prio_of o ≡ Some p
          → least c.threads (from_behind t) (s.base t) ≤ p
      go l p lt None z e = absurd cc
      go l p lt (Some y) z e =
          let o = h.loans.loans_are_with_owners t l y z in
          let k = owner_from (is_turnstile (c.kind l)) (s.head (lock_queue l)) (s.word l).holder t
          (sym (h.loans.owners_hold l) ∙ o) in
          let x = sym (h.loans.loans_are_least l t o (none_at_lock l)) ∙ ap prio_of z ∙ e in
          let r = least_of-is s.effective (s.lists (lock_queue l)) p (exact l k.0) x in
          let b = behind_from c s r.0 t l lt k.0 (owner-owns t (s.word l).holder k.1) r.1 in
          let v = least-le c.threads (from_behind t) (s.base t) r.0 (s.effective r.0) (inside c s h r.0 l r.1)
          (rw b refl) in
          let r2 = r.2 in
          omega arith

  one_level : (t : ℕ) → s.effective t ≡ least c.threads (from_behind t) (s.base t)
  unfolding EffectiveIsLeast
  one_level t = omega (arith, down t, up t, h.loans.effective_is_least t)

  -- 6. All levels

  best_of : (n t : ℕ) → ((us : List ℕ) → IsChain c s t us → length us ≤ n) → s.effective t ≡ best_within c s n t
  unfolding best_within
  best_of zero t k =
      one_level t ∙ none
    where
      none : least c.threads (from_behind t) (s.base t) ≡ s.base t
      none =
          let a = least-le_base c.threads (from_behind t) (s.base t) in
          let b : s.base t ≤ least c.threads (from_behind t) (s.base t) =
          least-above c.threads (from_behind t) (s.base t) (s.base t)
          (λ u p lt e. elim (cases_Bool (is_behind c s u t)) [
            | inl y ↦ let z : 1 ≤ 0 = k (u ∷ []) (lt, y, tt) in absurd (omega arith)
            | inr y ↦ let x : None ≡ Some p = rw y at e in absurd cc
          ])
          (omega arith) in
          omega arith
  best_of (suc n) t k =
      one_level t
      ∙ least-same_below c.threads (from_behind t) (λ u. cond (is_behind c s u t) (Some (best_within c s n u)) None)
      (s.base t)
      (λ u lt. elim (cases_Bool (is_behind c s u t)) [
        | inl y ↦ rw (y, best_of n u (λ us i. let z = k (u ∷ us) (lt, y, i) in omega arith)) refl
        | inr y ↦ rw y refl
      ])

  pub effective_best : (t : ℕ) → t < c.threads → (HasCycle s → ⊥) → s.effective t ≡ best_behind c s t
  effective_best t lt free = best_of c.threads t (λ us i. chain_short c s t us lt (no_loop c s h free) i)
