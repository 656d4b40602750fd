-- The loan that an owner has for a lock, before and after a hop.
use Rattle.std.proofs.Common.{◌≡◌, ◌≢◌, ℕ, ◌≤◌, nat_eq, eq-eqb, Bool, true, false, cond, List, [], ◌∷◌, ◌++◌, Option, Some, None, IfSome, option_map, refl, sym, ap, ◌∙◌}
use Rattle.std.specs.Option.{is_some}
use Rattle.std.proofs.lemmas.Bool.{eqb-true, ne_eqb}
use Rattle.lock_model.specs.Queues.{Waiter as Waiting, least_kept, least_of_two, lock_queue}
use Rattle.lock_model.specs.declared.numbers.LockNo.{LockNo}
use Rattle.lock_model.specs.declared.plan.QueueName.TheVariants.{Lock}
use Rattle.turnstile_core.specs.Seen.{Contents, Terms, Loan}
use Rattle.turnstile_core.specs.Changes.{all_waiters, name_of, best}
use Rattle.thread_records.specs.Loans.{has_loan, loan_for, loans_for, alone, with_prio}
use Rattle.thread_records.proofs.ByLock.{has_is_some, loan_set, others_set}
use Rattle.thread_records.proofs.OneEach.{one_each_with_prio, one_each_more}
use Rattle.prio_lending.specs.Hops.{loan_by, with_lent, carrier_for, node_out}

-- ---- the head
some_least : (xs ys : List Waiting) → None ≡ least_of_two (least_kept xs) (least_kept ys) → xs ++ ys ≡ []
some_least [] [] e = refl
some_least [] (y ∷ ys) e = cc
some_least (x ∷ xs) ys e = cc

-- a head with a waiter has a best priority
pub has_best : (c : Contents) → all_waiters c ≢ [] → None ≡ best c → ⊥
has_best c ne e = ne (some_least c.exclusive c.shared e)

lock_in : (o : Option ℕ) (l : LockNo) → Some (Lock l) ≡ option_map lock_queue o → o ≡ Some l.0
lock_in None l e = cc
lock_in (Some n) l e = cc

-- the lock of a head, by its name
pub lock_named : (c : Contents) (l : LockNo) → Some (Lock l) ≡ name_of c → c.own.lock ≡ Some l.0
lock_named c l e = lock_in c.own.lock l e

-- ---- whether the loan stands
none_stands : (o : Option Terms) → option_map (λ t. t.number) o ≡ None → is_some o ≡ false
none_stands None e = refl
none_stands (Some t) e = cc

one_stands : (o : Option Terms) (n : ℕ) → option_map (λ t. t.number) o ≡ Some n → is_some o ≡ true
one_stands None n e = cc
one_stands (Some t) n e = refl

carried_out : (l : ℕ) (ts : List Terms) (c : Contents) → c.own.lock ≡ Some l → IfSome c.own.lock
    (λ k. carrier_for k ts ≡ node_out c) → c.own.loan_home ≡ false → carrier_for l ts ≡ Some c.number
carried_out l ts c e h out = rw e at h ∙ rw out refl

-- none stands where the node is at home
pub stands_not : (l : ℕ) (ts : List Terms) (c : Contents) → c.own.lock ≡ Some l
    → IfSome c.own.lock (λ k. carrier_for k ts ≡ node_out c) → c.own.loan_home ≡ true → has_loan l ts ≡ false
stands_not l ts c e h home = has_is_some l ts ∙ none_stands (loan_for l ts) (rw e at h ∙ rw home refl)

-- one stands where it is out
pub stands : (l : ℕ) (ts : List Terms) (c : Contents) → c.own.lock ≡ Some l
    → IfSome c.own.lock (λ k. carrier_for k ts ≡ node_out c) → c.own.loan_home ≡ false → has_loan l ts ≡ true
stands l ts c e h out = has_is_some l ts ∙ one_stands (loan_for l ts) c.number (carried_out l ts c e h out)

-- ---- after it was taken
pub some_taken : (o : Option Terms) (v : Loan) → Some v ≡ option_map alone o → is_some o ≡ true
some_taken None v e = cc
some_taken (Some t) v e = refl

pub none_taken : (o : Option Terms) → None ≡ option_map alone o → is_some o ≡ false
none_taken None e = refl
none_taken (Some t) e = cc

-- ---- after another priority was set
lock_of_loan : (l : ℕ) (ts : List Terms) (t : Terms) → loan_for l ts ≡ Some t → t.lock ≡ l
lock_of_loan l [] t e = cc
lock_of_loan l (u ∷ us) t e =
    elim (nat_eq u.lock l) as (λ b. nat_eq u.lock l ≡ b → cond b (Some u) (loan_for l us) ≡ Some t → t.lock ≡ l) [
      | true ↦ λ h i. let same : u ≡ t = cc in ap (λ (v : Terms). v.lock) (sym same) ∙ eqb-true u.lock l h
      | false ↦ λ h i. lock_of_loan l us t i
    ] refl e

set_terms : (o : Option Terms) (l n k : ℕ) → ((t : Terms) → o ≡ Some t → t.lock ≡ l) → option_map (λ t. t.number) o
    ≡ Some n → option_map (λ (t : Terms). record t { prio = k }) o ≡ Some (record { number = n; lock = l; prio = k })
set_terms None l n k lock e = cc
set_terms (Some t) l n k lock e = let same : t.number ≡ n = cc in rw (same, lock t refl) refl

-- the loan for the lock has the number that it had, and the priority
set_for : (l k n : ℕ) (ts : List Terms) → carrier_for l ts ≡ Some n
    → loan_for l (with_prio l k ts) ≡ Some (record { number = n; lock = l; prio = k })
set_for l k n ts e = loan_set l k ts ∙ set_terms (loan_for l ts) l n k (lock_of_loan l ts) e

-- ---- the loans with that of a turnstile for its lock
carried_by : (o : Option Terms) (home : Bool) (n : ℕ) → is_some o ≡ true
    → option_map (λ t. t.number) o ≡ cond home None (Some n) → option_map (λ t. t.number) o ≡ Some n
carried_by None home n some e = cc
carried_by (Some t) true n some e = cc
carried_by (Some t) false n some e = e

module _ (l : ℕ) (c : Contents) (ts : List Terms) where
  abbrev by : Option ℕ → Option Terms
  by = option_map (λ p. record { number = c.number; lock = l; prio = p })

  -- it comes first where none stood
  pub lent_first : (p : ℕ) → has_loan l ts ≡ false → best c ≡ Some p
      → with_lent (loan_by l c) ts ≡ record { number = c.number; lock = l; prio = p } ∷ ts
  lent_first p none is = ap (λ o. with_lent (by o) ts) is
      ∙ ap (λ b. cond b (with_prio l p ts) (record { number = c.number; lock = l; prio = p } ∷ ts)) none

  -- and else the one that stands has its priority
  pub lent_there : (p : ℕ) → has_loan l ts ≡ true → best c ≡ Some p → with_lent (loan_by l c) ts ≡ with_prio l p ts
  lent_there p there is = ap (λ o. with_lent (by o) ts) is
      ∙ ap (λ b. cond b (with_prio l p ts) (record { number = c.number; lock = l; prio = p } ∷ ts)) there

  -- so it is the loan for the lock
  pub lent_for : carrier_for l ts ≡ node_out c → all_waiters c ≢ []
      → loan_for l (with_lent (loan_by l c) ts) ≡ loan_by l c
  lent_for e some = go (best c) refl
    where
      go : (o : Option ℕ) → best c ≡ o → loan_for l (with_lent (by o) ts) ≡ by o
      go None b = absurd (has_best c some (sym b))
      go (Some p) b = elim (has_loan l ts) as
          (λ x. has_loan l ts ≡ x
          → loan_for l (cond x (with_prio l p ts) (record { number = c.number; lock = l; prio = p } ∷ ts)) ≡ by
          (Some p)) [
            | true ↦ λ h. set_for l p c.number ts
                (carried_by (loan_for l ts) c.own.loan_home c.number (sym (has_is_some l ts) ∙ h) e)
            | false ↦ λ h. ap (λ x. cond x (by (Some p)) (loan_for l ts)) (eq-eqb l l refl)
          ] refl

  -- those for other locks stay,
  pub lent_others : (k : ℕ) → k ≢ l → loan_for k (with_lent (loan_by l c) ts) ≡ loan_for k ts
  lent_others k ne = go (best c)
    where
      other : nat_eq l k ≡ false
      other = ne_eqb l k (λ e. ne (sym e))

      go : (o : Option ℕ) → loan_for k (with_lent (by o) ts) ≡ loan_for k ts
      go None = refl
      go (Some p) = elim (has_loan l ts) as
          (λ x. loan_for k (cond x (with_prio l p ts) (record { number = c.number; lock = l; prio = p } ∷ ts)) ≡
          loan_for k ts) [
            | true ↦ others_set k l p ts other
            | false ↦ ap (λ x. cond x (by (Some p)) (loan_for k ts)) other
          ]

  -- and there is one for each lock at most
  pub lent_one_each : ((j : ℕ) → loans_for j ts ≤ 1) → (j : ℕ) → loans_for j (with_lent (loan_by l c) ts) ≤ 1
  lent_one_each one j = go (best c)
    where
      go : (o : Option ℕ) → loans_for j (with_lent (by o) ts) ≤ 1
      go None = one j
      go (Some p) = elim (has_loan l ts) as
          (λ x. has_loan l ts ≡ x
          → loans_for j (cond x (with_prio l p ts) (record { number = c.number; lock = l; prio = p } ∷ ts)) ≤ 1) [
            | true ↦ λ h. one_each_with_prio l p ts (with_prio l p ts) refl one j
            | false ↦ λ h. one_each_more (record { number = c.number; lock = l; prio = p }) ts h one j
          ] refl
