use Rattle.std.proofs.Common.{◌≡◌, ℕ, ◌≤◌, List, false, min, ap, subst, sym, ◌∙◌}
use Rattle.turnstile_core.specs.Seen.{Terms}
use Rattle.lock_model.specs.Counts.{least_with}
use Rattle.turnstile_core.specs.Linked.{linked_terms}
use Rattle.thread_records.specs.Loans.{prios, has_loan, loans_for}
use Rattle.thread_records.proofs.OneEach.{one_each_more}
use Rattle.thread_records.proofs.record.ThreadRec.put_loan.Goals as goal

-- no loan stands for the same lock in the same list
absent_too : (t u : Terms) (ts us : List Terms) → t ≡ u → ts ≡ us → has_loan u.lock us ≡ false
    → has_loan t.lock ts ≡ false
absent_too t u ts us e f h =
    subst (λ (v : Terms). has_loan v.lock ts ≡ false) (sym e) (subst (λ vs. has_loan u.lock vs ≡ false) (sym f) h)

pub invariant_of-self : goal.invariant_of-self
invariant_of-self c =
    let terms : Terms =
    record { number = c.first.inside.number.0; lock = c.first.inside.l.0; prio = c.first.inside.prio.0 } in
    let same : terms
    ≡ c.args.loan.value.terms = ap (λ v. v.terms) (c.first.view_is ∙ c.deref_mut-first.ensures.value) in
    let others : linked_terms c.take.result ≡ c.args.self.now.loans = ap linked_terms c.take.ensures.value
    ∙ ap (λ r. r.loans) c.self.view_is in
    let one : (l : ℕ)
    → loans_for l (linked_terms c.take.result) ≤ 1 = subst (λ o. (l : ℕ) → loans_for l (linked_terms o) ≤ 1)
    (sym c.take.ensures.value) c.self.invariant.well_formed.one_loan_each in
    record {
      well_formed = record {
        effective_is_least = c.min.ensures ∙ ap (min c.first.inside.prio.0)
            (c.self.invariant.well_formed.effective_is_least
            ∙ ap (λ o. least_with c.self.inside.base.0 (prios (linked_terms o))) (sym c.take.ensures.value));
        one_loan_each =
            one_each_more terms (linked_terms c.take.result) (absent_too terms _ _ _ same others c.requires.absent) one;
      };
      own_waiter = c.self.invariant.own_waiter;
      own_sleeper = c.self.invariant.own_sleeper;
    }
