-- Laws of priorities that are known, and of those that a thread shows.
use Rattle.lock_laws.proofs.Names
use Names.{ℕ, zero, suc, Bool, true, false, cond, eqb, List, [], Option, Some, None, refl, sym, ap, inl, inr, arith}
use Names.{eq-eqb, subst, cases_eq, any_below, Holder, is_turnstile, owner_of, Config, State, Loan, Hold, Holds}
use Names.{is_exclusive, has_base, sets_base, base_in, base_by, open_in, owns_in, IsShown, Asks, prio_of, lock_queue}
use Names.{Lawful, BasesReplay, EffectiveIsLeast, EffectiveIsKnown, LoansAreWithOwners, OwnersHold, WordsMatchHolders}
use Names.{owns, owner_if, IsKnown, Mode, Excl, Event, Shown, Entry}
use Rattle.std.proofs.Common.{◌≡◌, ◌<◌, ◌&&◌, ◌||◌, ◌∷◌, ◌∙◌}
use Rattle.lock_laws.proofs.Lending.{by_least, least-le_base}

-- 1. Somewhere below

pub true-any_below : (n : ℕ) (f : ℕ → Bool) (j : ℕ) → j < n → f j ≡ true → any_below n f ≡ true
unfolding any_below
true-any_below zero f j l e = absurd (omega arith)
true-any_below (suc n) f j l e =
    elim (cases_eq j n) [
      | inl x ↦ rw (ap f (sym x) ∙ e) refl
      | inr x ↦ rw (true-any_below n f j (omega arith) e) (or_true (f n))
    ]
  where
    or_true : (b : Bool) → (b || true) ≡ true
    or_true true = refl
    or_true false = refl

-- 2. What is known stays known

or_right : (a b : Bool) → b ≡ true → (a || b) ≡ true
or_right true b e = refl
or_right false b e = e

pub still_known : (c : Config) (es : List Entry) (e : Entry) (p : ℕ) → IsKnown c es p → IsKnown c (e ∷ es) p
still_known c es e p k =
    go (any_below c.threads (λ t. eqb (c.declared_base t) p)) (sets_base e.event p) (has_base es p) k
  where
    go : (a b d : Bool) → (a || d) ≡ true → (a || (b || d)) ≡ true
    go true b d x = refl
    go false b d x = or_right b d x

pub base_known : (c : Config) (es : List Entry) (t : ℕ) → t < c.threads → IsKnown c es (base_in c es t)
base_known c [] t lt = rw (true-any_below c.threads (λ u. eqb (c.declared_base u) (c.declared_base t)) t lt
    (eq-eqb (c.declared_base t) (c.declared_base t) refl)) refl
base_known c (e ∷ es) t lt =
    elim (eqb e.thread.0 t) as (λ b. IsKnown c (e ∷ es) (cond b (base_by e.event (base_in c es t)) (base_in c es t))) [
      | true ↦ go (base_known c es t lt) e.event refl
      | false ↦ still_known c es e (base_in c es t) (base_known c es t lt)
    ]
  where
    go : IsKnown c es (base_in c es t) → (x : Event) → e.event ≡ x → IsKnown c (e ∷ es) (base_by x (base_in c es t))
    go k x y = grind arith

-- 3. What a thread shows

pub owner_from : (turnstile : Bool) (x : Option ℕ) (y : Holder) (t : ℕ) → owner_if turnstile x y ≡ Some t
    → (turnstile ≡ true) × (owner_of y ≡ Some t)
owner_from turnstile x y t e = grind arith

pub exclusive_is : (x : Hold) → is_exclusive x ≡ true → x ≡ Holds Excl
exclusive_is x e = grind arith

pub owner-owns : (t : ℕ) (x : Holder) → owner_of x ≡ Some t → owns t x ≡ true
owner-owns t x e = grind arith

module _ (c : Config) (s : State) (h : Lawful c s) where
  -- a thread with a loan holds the lock exclusively, and the lock is a mutex or an rw lock
  pub lent_held : (t l : ℕ) (x : Loan) → s.loan t l ≡ Some x
      → (is_turnstile (c.kind l) ≡ true) × (s.held t l ≡ Holds Excl)
  unfolding LoansAreWithOwners OwnersHold WordsMatchHolders
  lent_held t l x e =
      let o = sym (h.loans.owners_hold l) ∙ h.loans.loans_are_with_owners t l x e in
      let r = owner_from (is_turnstile (c.kind l)) (s.head (lock_queue l)) (s.word l).holder t o in
      (r.0, exclusive_is (s.held t l) ((h.words.words_match_holders l).owner t ∙ owner-owns t (s.word l).holder r.1))

  -- an effective priority below the base is lent
  lent_owns : (t : ℕ) → ((l : ℕ) (mode : Mode) → s.held t l ≡ Holds mode → open_in c s.history t l ≡ Holds mode)
      → s.effective t < s.base t → owns_in c s.history t ≡ true
  unfolding EffectiveIsLeast
  lent_owns t k lt =
      by_least (λ p. p < s.base t → owns_in c s.history t ≡ true) c.locks (λ l. prio_of (s.loan t l)) (s.base t)
      (λ q. absurd (omega arith))
      (λ l p m e q. go l m (s.loan t l) refl e)
      (let e = h.loans.effective_is_least t in omega arith)
    where
      go : (l : ℕ) → l < c.locks → (o : Option Loan) → s.loan t l ≡ o → {p : ℕ} → prio_of o ≡ Some p
          → owns_in c s.history t ≡ true
      go l m None x e = absurd cc
      go l m (Some y) x e =
          let r = lent_held t l y x in
          true-any_below c.locks (λ i. is_turnstile (c.kind i) && is_exclusive (open_in c s.history t i)) l m
          (rw (r.0, k l Excl r.1) refl)

  pub asks_shown : (t : ℕ) → t < c.threads → (e : Event) → Asks c s t e → IsShown c e s.history t
  unfolding BasesReplay EffectiveIsLeast EffectiveIsKnown
  asks_shown t lt (Shown base effective) a = record {
    its_base = a.its_base ∙ h.books.bases_replay t;
    no_worse =
        let x = least-le_base c.locks (λ l. prio_of (s.loan t l)) (s.base t) in
        let y = h.loans.effective_is_least t in
        let z = a.its_base in
        let w = a.its_effective in
        omega arith;
    owns = λ q. lent_owns t a.sections (let z = a.its_base in let w = a.its_effective in omega arith);
    lent = λ q. subst (IsKnown c s.history) (sym a.its_effective) (h.loans.effective_is_known t lt);
  }
  asks_shown t lt other a = tt
