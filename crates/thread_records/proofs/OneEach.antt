-- There is one loan for a lock at most, also after a change.
use Rattle.std.proofs.Common.{◌≡◌, ℕ, ◌+◌, ◌≤◌, nat_eq, true, false, ◌||◌, cond, List, [], ◌∷◌, refl, ap, subst, arith}
use Rattle.std.proofs.lemmas.Bool.{eqb-true}
use Rattle.turnstile_core.specs.Seen.{Terms}
use Rattle.thread_records.specs.Loans.{has_loan, with_prio, without_loan, loans_for}

for_with_prio : (j l k : ℕ) (ts : List Terms) → loans_for j (with_prio l k ts) ≡ loans_for j ts
for_with_prio j l k [] = refl
for_with_prio j l k (t ∷ ts) =
    elim (nat_eq t.lock l) as (λ b. loans_for j (cond b (record t { prio = k } ∷ ts) (t ∷ with_prio l k ts))
    ≡ loans_for j (t ∷ ts)) [ true ↦ refl | false ↦ ap (λ n. cond (nat_eq t.lock j) 1 0 + n) (for_with_prio j l k ts) ]

for_without : (j l : ℕ) (ts : List Terms) → loans_for j (without_loan l ts) ≤ loans_for j ts
for_without j l [] = omega arith
for_without j l (t ∷ ts) =
    elim (nat_eq t.lock l) as (λ b. loans_for j (cond b ts (t ∷ without_loan l ts))
    ≤ loans_for j (t ∷ ts)) [ true ↦ omega arith | false ↦ let less = for_without j l ts in omega arith ]

for_absent : (l : ℕ) (ts : List Terms) → has_loan l ts ≡ false → loans_for l ts ≡ 0
for_absent l [] h = refl
for_absent l (t ∷ ts) h = elim (nat_eq t.lock l) as (λ b. (b || has_loan l ts) ≡ false
    → cond b 1 0 + loans_for l ts ≡ 0) [ true ↦ λ e. cc | false ↦ λ e. let none = for_absent l ts e in omega arith ] h

pub one_each_with_prio : (l k : ℕ) (ts us : List Terms) → us ≡ with_prio l k ts → ((j : ℕ) → loans_for j ts ≤ 1)
    → (j : ℕ) → loans_for j us ≤ 1
one_each_with_prio l k ts us e h j = rw (e, for_with_prio j l k ts) (h j)

pub one_each_without : (l : ℕ) (ts us : List Terms) → us ≡ without_loan l ts → ((j : ℕ) → loans_for j ts ≤ 1) → (j : ℕ)
    → loans_for j us ≤ 1
one_each_without l ts us e h j = rw e (let less = for_without j l ts in let one = h j in omega arith)

pub one_each_more : (t : Terms) (ts : List Terms) → has_loan t.lock ts ≡ false → ((j : ℕ) → loans_for j ts ≤ 1)
    → (j : ℕ) → loans_for j (t ∷ ts) ≤ 1
one_each_more t ts absent h j = elim (nat_eq t.lock j) as (λ b. nat_eq t.lock j ≡ b → cond b 1 0 + loans_for j ts ≤ 1) [
  | true ↦ λ e. let none : loans_for j ts
      ≡ 0 = subst (λ (n : ℕ). loans_for n ts ≡ 0) (eqb-true t.lock j e) (for_absent t.lock ts absent) in
      omega arith
  | false ↦ λ e. let one = h j in omega arith
] refl
