-- A hop of a walk at a lock keeps each fact.
use Rattle.lock_laws.proofs.Names
use Names.{ℕ, Bool, true, false, not, eqb, Option, Some, refl, sym, ap, inl, inr, arith, cases_eq, ne_eqb, one}
use Names.{is_turnstile, State, Loan, put, put_at, Config, Waiter, lock_queue, names_turnstile, stands, least_of, Holds}
use Names.{effective_of, MayLend, after_lend, loan_of, walk_to, Lawful, OneNodeEach, StandsOnce, WordsMatchHolders}
use Names.{OnlyThreadsHold, EffectiveIsLeast, OwnersHold, LoansAreLeast, LoansAreWithOwners, LoansAreOnHeads}
use Names.{KeptIsEffective, EffectiveIsKnown, LoansAreKnown, KeptIsKnown, IsKept, IsKnown, walkers_at_lock}
use Names.{walkers_at_thread, at_lock, at_thread, Excl, QueueName}
use Rattle.std.proofs.Common.{◌≡◌, ◌<◌, ◌≤◌, ◌&&◌, ◌∙◌}
use Rattle.lock_laws.proofs.Kit.{columns, put_at_same, put_at_other, put_at_beside, sum_below-put, at_queue_one}
use Rattle.lock_laws.proofs.Lending.{each_of-map, effective-put}
use Rattle.lock_laws.proofs.Shown.{owner_from, owner-owns, exclusive_is}
use Rattle.lock_laws.proofs.Nodes.{prio_loan_of, number_loan_of, loan_of_known, node_lent, loan_known, changed_known}

at_lock-walk_to : (k o : ℕ) (b : Bool) → at_lock k (walk_to o b) ≡ 0
at_lock-walk_to k o true = refl
at_lock-walk_to k o false = refl

module _ (c : Config) (s : State) (t l o x : ℕ) (g : MayLend c s t l o x) (h : Lawful c s) where
  abbrev n : State
  n = after_lend c s t l o x

  abbrev q : QueueName
  q = lock_queue l

  abbrev new : Option Loan
  new = loan_of x (least_of (s.lists q))

  abbrev e : ℕ
  e = effective_of c (put (s.loan o) l new) (s.base o)

  abbrev goes : Bool
  goes = not (eqb e (s.effective o)) && names_turnstile c (s.blocked_on o)

  owned : (is_turnstile (c.kind l) ≡ true) × (s.held o l ≡ Holds Excl)
  unfolding OwnersHold WordsMatchHolders
  owned =
      let r = owner_from (is_turnstile (c.kind l)) (s.head q) (s.word l).holder o
      (sym (h.loans.owners_hold l) ∙ g.owned) in
      (r.0, exclusive_is (s.held o l) ((h.words.words_match_holders l).owner o ∙ owner-owns o (s.word l).holder r.1))

  thread : o < c.threads
  unfolding OnlyThreadsHold
  thread = h.words.only_threads_hold o l Excl owned.1

  mine : (u : ℕ) (y : Loan) → s.loan u l ≡ Some y → u ≡ o
  unfolding LoansAreWithOwners
  mine u y i = let z = sym (h.loans.loans_are_with_owners u l y i) ∙ g.owned in cc

  nodes : OneNodeEach c n.loan_home n.loan
  unfolding after_lend
  nodes = node_lent c s h o l x thread g.lock owned.0 g.head mine

  least : EffectiveIsLeast c n.effective n.base n.loan
  unfolding after_lend
  least = effective-put c s.effective s.base s.loan o l new h.loans.effective_is_least

  loans_least : LoansAreLeast c n.owner n.walk n.loan n.lists
  unfolding after_lend LoansAreLeast walkers_at_lock
  loans_least k u i w =
      let a = sum_below-put c.threads (at_lock k) s.walk t (walk_to o goes) g.thread in
      let b = ap (at_lock k) g.walks in
      elim (cases_eq l k) [
        | inl j ↦
            let z : o ≡ u = (let y = sym g.owned ∙ ap (λ r. s.owner (lock_queue r)) j ∙ i in cc) in
            rw (← j, ← z, put_at_same s.loan o l new) (prio_loan_of x (least_of (s.lists q)))
        | inr j ↦
            let d = at_lock-walk_to k o goes in
            let f : one (eqb k l) ≡ 0 = ap one (ne_eqb k l (λ r. j (sym r))) in
            rw (put_at_beside s.loan o l new u k j) (h.loans.loans_are_least k u i (omega arith))
      ]

  loans_owned : LoansAreWithOwners n.loan n.owner
  unfolding after_lend LoansAreWithOwners
  loans_owned u k y i =
      elim (cases_eq l k) [
        | inl j ↦ elim (cases_eq o u) [
          | inl z ↦ rw (← j, ← z) g.owned
          | inr z ↦ h.loans.loans_are_with_owners u k y (sym (put_at_other s.loan o l new u k z) ∙ i)
        ]
        | inr j ↦ h.loans.loans_are_with_owners u k y (sym (put_at_beside s.loan o l new u k j) ∙ i)
      ]

  loans_on_heads : LoansAreOnHeads n.loan n.head
  unfolding after_lend LoansAreOnHeads
  loans_on_heads u k y i =
      elim (cases_eq l k) [
        | inl j ↦ elim (cases_eq o u) [
          | inl z ↦
              rw (← j) (g.head ∙ ap Some (number_loan_of x (least_of (s.lists q)) y (sym (put_at_same s.loan o l new)
              ∙ ap (λ r. put_at s.loan o l new r l) z ∙ ap (put_at s.loan o l new u) j ∙ i)))
          | inr z ↦ h.loans.loans_are_on_heads u k y (sym (put_at_other s.loan o l new u k z) ∙ i)
        ]
        | inr j ↦ h.loans.loans_are_on_heads u k y (sym (put_at_beside s.loan o l new u k j) ∙ i)
      ]

  -- where the owner stands on a turnstile, its record names it
  names : (k : ℕ) → is_turnstile (c.kind k) ≡ true → 1 ≤ stands o (s.lists (lock_queue k))
      → names_turnstile c (s.blocked_on o) ≡ true
  unfolding StandsOnce
  names k i p =
      let a = at_queue_one (lock_queue k) (s.blocked_on o) (omega (arith, h.waits.stands_once o (lock_queue k))) in
      rw a i

  -- the owner's entry keeps its effective priority, or a walk goes to the owner
  still : (k : ℕ) → is_turnstile (c.kind k) ≡ true → (w : Waiter) → 1 ≤ stands w.thread (s.lists (lock_queue k))
      → IsKept c s.walk s.effective w → IsKept c n.walk n.effective w
  unfolding after_lend walkers_at_thread
  still k i w p kept none =
      let a = sum_below-put c.threads (at_thread w.thread) s.walk t (walk_to o goes) g.thread in
      let d = ap (at_thread w.thread) g.walks in
      let m = names k i in
      grind (arith, columns, kept)

  kept : KeptIsEffective c n.walk n.effective n.lists
  unfolding after_lend KeptIsEffective
  kept k i = each_of-map (IsKept c s.walk s.effective) (IsKept c n.walk n.effective) (s.lists (lock_queue k))
      (still k i) (h.loans.kept_is_effective k i)

  new_known : (y : Loan) → new ≡ Some y → IsKnown c s.history y.prio
  unfolding KeptIsKnown
  new_known y i = loan_of_known c s.history (s.lists q) x (h.loans.kept_is_known l owned.0) y i

  effective_known : EffectiveIsKnown c n.effective n.history
  unfolding after_lend
  effective_known = changed_known c s h o l new thread new_known

  loans_known : LoansAreKnown c n.loan n.history
  unfolding after_lend
  loans_known = loan_known c s h o l new new_known

  pub lawful : Lawful c n
  unfolding after_lend
  lawful = assumption (nodes, least, loans_least, loans_owned, loans_on_heads, kept, effective_known, loans_known)
