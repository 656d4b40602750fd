-- What a record shows of its columns behind a change of its loans.
use Rattle.lock_objects.proofs.Names
use Names.{ℕ, List, Option, Some, None, option_map, refl, ap, arith, Config, State, Loan, Lawful, prio_of, effective_of}
use Names.{loan_lock, Terms, least_with, Record, with_base, with_loans, prios, loan_for, loans_for, RecordColumns}
use Names.{RepresentsRecord, loan_of}
use Rattle.std.proofs.Common.{◌≡◌, ◌≤◌, ◌∙◌}
use Rattle.lock_objects.proofs.Loans.{least_with-by_lock}

-- nothing is lent to a thread for numbers that no lock has
pub none_beyond : (c : Config) (s : State) (t : ℕ) → Lawful c s → (l : ℕ) → c.locks ≤ l → s.loan t l ≡ None
none_beyond c s t lawful l above = go (s.loan t l) refl
  where
    go : (o : Option Loan) → s.loan t l ≡ o → o ≡ None
    go None e = refl
    go (Some x) e = absurd (omega (arith, above, loan_lock c s t l x lawful e))

prio_seen : (o : Option Terms) → option_map (λ t. t.prio) o ≡ prio_of (option_map loan_of o)
prio_seen None = refl
prio_seen (Some t) = refl

-- the least of a base and the loans of a list is that of the base and the loans by lock
effective_seen : (c : Config) (ts : List Terms) (f : ℕ → Option Loan) (base : ℕ)
    → ((l : ℕ) → option_map loan_of (loan_for l ts) ≡ f l) → ((l : ℕ) → loans_for l ts ≤ 1)
    → ((l : ℕ) → c.locks ≤ l → f l ≡ None)
    → least_with base (prios ts) ≡ effective_of c f base
effective_seen c ts f base shown one beyond =
    least_with-by_lock c.locks base ts (λ l. prio_of (f l)) (λ l. prio_seen (loan_for l ts) ∙ ap prio_of (shown l))
    (λ l above. ap prio_of (beyond l above)) one

-- other loans
pub with_other_loans : (c : Config) (ts : List Terms) (f : ℕ → Option Loan) {r : Record} {x : RecordColumns}
    → ((l : ℕ) → option_map loan_of (loan_for l ts) ≡ f l) → ((l : ℕ) → loans_for l ts ≤ 1)
    → ((l : ℕ) → c.locks ≤ l → f l ≡ None)
    → RepresentsRecord r x
    → RepresentsRecord (with_loans ts r) (record x { loan = f; effective = effective_of c f x.base })
with_other_loans c ts f {r = r} {x = x} shown one beyond h = record {
  columns = λ i. record (h.columns i) {
    loan = λ l. shown l i;
    effective =
        (ap (λ b. least_with b (prios ts)) (ap (λ v. v.base) h.columns) ∙ effective_seen c ts f x.base shown one beyond)
        i;
  };
  one_loan_each = one;
}

-- another base
pub with_other_base : (c : Config) (p : ℕ) {r : Record} {x : RecordColumns} → ((l : ℕ) → c.locks ≤ l → x.loan l ≡ None)
    → RepresentsRecord r x
    → RepresentsRecord (with_base p r) (record x { base = p; effective = effective_of c x.loan p })
with_other_base c p {r = r} {x = x} beyond h = record {
  columns = λ i. record (h.columns i) {
    base = p;
    effective = effective_seen c r.loans x.loan p (λ l. ap (λ v. v.loan l) h.columns) h.one_loan_each beyond i;
  };
  one_loan_each = h.one_loan_each;
}
