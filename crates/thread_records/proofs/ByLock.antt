-- The loan for each lock, after a change. For those who see the loans as a map from locks.
use Rattle.std.proofs.Common.{◌≡◌, ℕ, ◌+◌, ◌≤◌, nat_eq, true, false, ◌||◌, cond, List, [], ◌∷◌, Some, None, option_map, refl, sym, ap, subst, ◌∙◌, arith}
use Rattle.std.specs.Option.{is_some}
use Rattle.std.proofs.lemmas.Bool.{eqb-true}
use Rattle.turnstile_core.specs.Seen.{Terms}
use Rattle.thread_records.specs.Loans.{has_loan, loan_for, with_prio, without_loan, loans_for}

pub has_is_some : (l : ℕ) (ts : List Terms) → has_loan l ts ≡ is_some (loan_for l ts)
has_is_some l [] = refl
has_is_some l (t ∷ ts) = elim (nat_eq t.lock l) as (λ b. (b || has_loan l ts)
    ≡ is_some (cond b (Some t) (loan_for l ts))) [ true ↦ refl | false ↦ has_is_some l ts ]

pub loan_set : (l k : ℕ) (ts : List Terms)
    → loan_for l (with_prio l k ts) ≡ option_map (λ (t : Terms). record t { prio = k }) (loan_for l ts)
loan_set l k [] = refl
loan_set l k (t ∷ ts) = elim (nat_eq t.lock l) as (λ b. nat_eq t.lock l ≡ b
    → loan_for l (cond b (record t { prio = k } ∷ ts) (t ∷ with_prio l k ts))
    ≡ option_map (λ (u : Terms). record u { prio = k }) (cond b (Some t) (loan_for l ts))) [
      | true ↦ λ e. ap (λ b. cond b (Some (record t { prio = k })) (loan_for l ts)) e
      | false ↦ λ e. ap (λ b. cond b (Some t) (loan_for l (with_prio l k ts))) e ∙ loan_set l k ts
    ] refl

pub others_set : (j l k : ℕ) (ts : List Terms) → nat_eq l j ≡ false → loan_for j (with_prio l k ts) ≡ loan_for j ts
others_set j l k [] ne = refl
others_set j l k (t ∷ ts) ne = elim (nat_eq t.lock l) as (λ b. nat_eq t.lock l ≡ b
    → loan_for j (cond b (record t { prio = k } ∷ ts) (t ∷ with_prio l k ts)) ≡ loan_for j (t ∷ ts)) [
      | true ↦
          λ e.
          let other : nat_eq t.lock j ≡ false = subst (λ (n : ℕ). nat_eq n j ≡ false) (sym (eqb-true t.lock l e)) ne in
          ap (λ b. cond b (Some (record t { prio = k })) (loan_for j ts)) other
          ∙ sym (ap (λ b. cond b (Some t) (loan_for j ts)) other)
      | false ↦ λ e. ap (λ o. cond (nat_eq t.lock j) (Some t) o) (others_set j l k ts ne)
    ] refl

none_for : (l : ℕ) (ts : List Terms) → loans_for l ts ≡ 0 → loan_for l ts ≡ None
none_for l [] h = refl
none_for l (t ∷ ts) h = elim (nat_eq t.lock l) as (λ b. cond b 1 0 + loans_for l ts ≡ 0 → cond b (Some t)
    (loan_for l ts) ≡ None) [ true ↦ λ e. absurd (omega arith) | false ↦ λ e. none_for l ts (omega arith) ] h

pub loan_dropped : (l : ℕ) (ts : List Terms) → loans_for l ts ≤ 1 → loan_for l (without_loan l ts) ≡ None
loan_dropped l [] h = refl
loan_dropped l (t ∷ ts) h = elim (nat_eq t.lock l) as (λ b. nat_eq t.lock l ≡ b → cond b 1 0 + loans_for l ts ≤ 1
    → loan_for l (cond b ts (t ∷ without_loan l ts)) ≡ None) [
      | true ↦ λ e one. none_for l ts (omega arith)
      | false ↦ λ e one. ap (λ b. cond b (Some t) (loan_for l (without_loan l ts))) e ∙ loan_dropped l ts (omega arith)
    ] refl h

pub others_dropped : (j l : ℕ) (ts : List Terms) → nat_eq l j ≡ false → loan_for j (without_loan l ts) ≡ loan_for j ts
others_dropped j l [] ne = refl
others_dropped j l (t ∷ ts) ne = elim (nat_eq t.lock l)
    as (λ b. nat_eq t.lock l ≡ b → loan_for j (cond b ts (t ∷ without_loan l ts)) ≡ loan_for j (t ∷ ts)) [
      | true ↦ λ e. sym
          (ap (λ b. cond b (Some t) (loan_for j ts))
          (subst (λ (n : ℕ). nat_eq n j ≡ false) (sym (eqb-true t.lock l e)) ne))
      | false ↦ λ e. ap (λ o. cond (nat_eq t.lock j) (Some t) o) (others_dropped j l ts ne)
    ] refl
