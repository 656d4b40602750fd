-- What a thread's list of loans says by lock.
use Rattle.lock_objects.proofs.Names
use Names.{ℕ, eqb, cond, List, [], Option, None, Some, option_map, inl, inr, refl, sym, ap, arith, eq-eqb, is_some}
use Names.{ne_eqb, cases_eq, cases_lt, least, least-le, least-above, least-le_base, Terms, least_with, prios, has_loan}
use Names.{loan_for, without_loan, loans_for, has_is_some, loan_dropped, others_dropped}
use Rattle.std.proofs.Common.{◌≡◌, ◌≢◌, ◌≤◌, ◌∷◌, ◌∙◌}

-- 1. A loan that is dropped

pub has_loan-is_some : (l : ℕ) (loans : List Terms) → has_loan l loans ≡ is_some (loan_for l loans)
has_loan-is_some l loans = has_is_some l loans

pub loan_for-dropped : (k l : ℕ) (loans : List Terms) → loans_for l loans ≤ 1 → k ≡ l
    → loan_for k (without_loan l loans) ≡ None
loan_for-dropped k l loans one e = ap (λ i. loan_for i (without_loan l loans)) e ∙ loan_dropped l loans one

pub loan_for-others : (k l : ℕ) (loans : List Terms) → k ≢ l → loan_for k (without_loan l loans) ≡ loan_for k loans
loan_for-others k l loans ne = others_dropped k l loans (ne_eqb l k (λ e. ne (sym e)))

-- 2. The first loan and those behind it

-- the priority that is lent for a lock
abbrev pub prio_for : ℕ → List Terms → Option ℕ
prio_for l loans = option_map (λ t. t.prio) (loan_for l loans)

prio_for-first : (l : ℕ) (t : Terms) (ts : List Terms) → t.lock ≡ l → prio_for l (t ∷ ts) ≡ Some t.prio
prio_for-first l t ts e =
    ap (λ b. option_map (λ (u : Terms). u.prio) (cond b (Some t) (loan_for l ts))) (eq-eqb t.lock l e)

prio_for-behind : (l : ℕ) (t : Terms) (ts : List Terms) → t.lock ≢ l → prio_for l (t ∷ ts) ≡ prio_for l ts
prio_for-behind l t ts ne =
    ap (λ b. option_map (λ (u : Terms). u.prio) (cond b (Some t) (loan_for l ts))) (ne_eqb t.lock l ne)

-- there is no second loan for a lock
none_behind : (l : ℕ) (t : Terms) (ts : List Terms) → t.lock ≡ l → loans_for l (t ∷ ts) ≤ 1 → prio_for l ts ≡ None
none_behind l t ts e one =
    let dropped : loan_for l (cond (eqb t.lock l) ts (t ∷ without_loan l ts)) ≡ None = loan_dropped l (t ∷ ts) one in
    ap (λ o. option_map (λ (u : Terms). u.prio) o)
    (ap (λ b. loan_for l (cond b ts (t ∷ without_loan l ts))) (sym (eq-eqb t.lock l e)) ∙ dropped)

one_behind : (l : ℕ) (t : Terms) (ts : List Terms) → loans_for l (t ∷ ts) ≤ 1 → loans_for l ts ≤ 1
one_behind l t ts one = omega arith

-- 3. The least of a base and the loans

least_with-le_base : (base : ℕ) (loans : List Terms) → least_with base (prios loans) ≤ base
least_with-le_base base [] = omega arith
least_with-le_base base (t ∷ ts) = omega (arith, least_with-le_base base ts)

-- it is no greater than what is lent for a lock
least_with-le : (base : ℕ) (loans : List Terms) (l p : ℕ) → prio_for l loans ≡ Some p
    → least_with base (prios loans) ≤ p
least_with-le base [] l p e = absurd cc
least_with-le base (t ∷ ts) l p e =
    elim (cases_eq t.lock l) [
      | inl same ↦ let here : t.prio ≡ p = let first = prio_for-first l t ts same in cc in omega arith
      | inr other ↦ let rest = least_with-le base ts l p (sym (prio_for-behind l t ts other) ∙ e) in omega arith
    ]

-- what is no greater than the base and each that is lent is no greater than it
least_with-above : (base m : ℕ) (loans : List Terms) → ((l : ℕ) → loans_for l loans ≤ 1)
    → ((l p : ℕ) → prio_for l loans ≡ Some p → m ≤ p) → m ≤ base → m ≤ least_with base (prios loans)
least_with-above base m [] one each le = le
least_with-above base m (t ∷ ts) one each le =
    let here : m ≤ t.prio = each t.lock t.prio (prio_for-first t.lock t ts refl) in
    let rest : m ≤ least_with base (prios ts) =
    least_with-above base m ts (λ l. one_behind l t ts (one l))
    (λ l p e. elim (cases_eq t.lock l) [
      | inl same ↦ let none = none_behind l t ts same (one l) in absurd cc
      | inr other ↦ each l p (prio_for-behind l t ts other ∙ e)
    ])
    le in
    omega arith

-- 4. The least of a base and a column

-- The least of a base and the loans is that of a column with what is lent for each lock below n, where nothing is
-- lent for others
pub least_with-by_lock : (n base : ℕ) (loans : List Terms) (f : ℕ → Option ℕ)
    → ((l : ℕ) → option_map (λ t. t.prio) (loan_for l loans) ≡ f l) → ((l : ℕ) → n ≤ l → f l ≡ None)
    → ((l : ℕ) → loans_for l loans ≤ 1)
    → least_with base (prios loans) ≡ least n f base
least_with-by_lock n base loans f same above one =
    let down : least_with base (prios loans) ≤ least n f base =
    least-above n f base (least_with base (prios loans)) (λ l p k e. least_with-le base loans l p (same l ∙ e))
    (least_with-le_base base loans) in
    let up : least n f base ≤ least_with base (prios loans) =
    least_with-above base (least n f base) loans one
    (λ l p e. elim (cases_lt l n) [
      | inl k ↦ least-le n f base l p k (sym (same l) ∙ e)
      | inr k ↦ let none = above l k in let lent = same l in absurd cc
    ])
    (least-le_base n f base) in
    omega (arith, down, up)
