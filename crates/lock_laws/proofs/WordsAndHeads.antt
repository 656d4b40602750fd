-- What a lawful state's word of a lock can be, and what its waiters say of its head.
use Rattle.lock_laws.proofs.Names
use Names.{ℕ, zero, suc, true, false, not, List, [], length, Option, Some, None, refl, sym, ap, arith, eq-eqb}
use Names.{same_Some, some, is_empty, Holder, Free, HeldBy, SharedBy, IsPossible, sharers, is_turnstile, owner_of}
use Names.{shows_waiters, Config, State, Loan, Waiter, lock_queue, waiting, Hold, Holds, Lawful, HeadsFitWaiters}
use Names.{BitsShowWaiters, MutexWaitersAreExclusive, WordsMatchHolders, OnlyThreadsHold, OwnersHold, LoansAreOnHeads}
use Names.{owns, shares, owner_if, home_after, Mtx, Excl, QueueName}
use Rattle.std.proofs.Common.{◌≡◌, ◌≢◌, ◌+◌, ◌<◌, ◌≤◌, ◌||◌, ◌∷◌, ◌∙◌}
use Rattle.lock_laws.proofs.HeadsAndNodes.{heads_apart, head_lock, loan_out, owned_home}
use Rattle.lock_laws.proofs.Kit.{put_other}
use Rattle.lock_laws.proofs.Shown.{exclusive_is}
use Rattle.lock_laws.proofs.Sums.{sum_below-most}
use Rattle.lock_laws.proofs.Words.{owner_is}

-- 1. Words

pub shares_one : (h : Hold) → shares h ≤ 1
shares_one h = grind arith

module _ (c : Config) (s : State) (l : ℕ) (h : Lawful c s) where
  -- an owner is one of the plan's threads, and so is each of those that share
  pub possible_holder : c.threads ≤ 64 → IsPossible (s.word l).holder
  unfolding WordsMatchHolders OnlyThreadsHold
  possible_holder few = go (s.word l).holder refl
    where
      go : (x : Holder) → (s.word l).holder ≡ x → IsPossible x
      go Free e = tt
      go (HeldBy u) e =
          let own = exclusive_is (s.held u l)
          ((h.words.words_match_holders l).owner u ∙ ap (owns u) e ∙ eq-eqb u u refl) in
          omega (arith, few, h.words.only_threads_hold u l Excl own)
      go (SharedBy zero) e = absurd ((h.words.words_match_holders l).some_sharer e)
      go (SharedBy (suc n)) e =
          let count : _ ≡ suc n = (h.words.words_match_holders l).sharers_are_counted ∙ ap sharers e in (
            omega arith,
            omega
                (arith, few, count, sum_below-most c.threads (λ t. shares (s.held t l)) (λ t. shares_one (s.held t l))),
          )

-- 2. Heads

-- a queue has no waiter and no free turnstile
pub record IsBare (s : State) (q : QueueName) : Type 0 where
  pub no_exclusive : (s.lists q).exclusive ≡ []
  pub no_shared : (s.lists q).shared ≡ []
  pub no_free : s.free_list q ≡ []

none_in : {A : Type 0} (xs : List A) → length xs ≡ 0 → xs ≡ []
none_in [] e = refl
none_in (x ∷ xs) e = absurd (omega arith)

-- that is so where it has no head
pub headless_bare : (c : Config) (s : State) (q : QueueName) → Lawful c s → s.head q ≡ None → IsBare s q
unfolding HeadsFitWaiters
headless_bare c s q h e =
    let f = h.queues.heads_fit_waiters q in
    let free = f.no_free e in
    let count : 0 + 0 ≡ waiting (s.lists q) = sym (ap (λ xs. length xs + some (s.head q)) free ∙ ap (λ o. 0 + some o) e)
    ∙ f.balanced in
    record {
      no_exclusive = none_in (s.lists q).exclusive (omega arith);
      no_shared = none_in (s.lists q).shared (omega arith);
      no_free = free;
    }

-- a queue has a head and exclusive waiters alone, one more than free turnstiles
pub record IsAwaited (s : State) (q : QueueName) : Type 0 where
  pub head : ℕ
  pub is_head : s.head q ≡ Some head
  pub one_more : length (s.lists q).exclusive ≡ suc (length (s.free_list q))
  pub no_shared : (s.lists q).shared ≡ []

-- that is so where a mutex shows waiters
module _ (c : Config) (s : State) (l : ℕ) (h : Lawful c s) (k : c.kind l ≡ Mtx)
    (e : shows_waiters (s.word l) ≡ true) where
  abbrev q : QueueName
  q = lock_queue l

  some_wait : (a b : List Waiter) → (not (is_empty a) || not (is_empty b)) ≡ true → b ≡ [] → 1 ≤ length a
  some_wait a b x y = grind arith

-- 3. A release of a lock with a head

module _ (c : Config) (s : State) (t l : ℕ) (h : Lawful c s) (lock : l < c.locks) (k : is_turnstile (c.kind l) ≡ true)
    (held : s.held t l ≡ Holds Excl) where
  releasing_owner : (x : ℕ) → s.head (lock_queue l) ≡ Some x → s.owner (lock_queue l) ≡ Some t
  unfolding OwnersHold
  releasing_owner x e = h.loans.owners_hold l ∙ ap (λ b. owner_if b (s.head (lock_queue l)) (s.word l).holder) k
      ∙ ap (λ o. owner_if true o (s.word l).holder) e ∙ ap owner_of (owner_is c s t l h held)

  -- the head's node is out where its thread has the loan
  pub lent_out : (x : ℕ) (y : Loan) → s.head (lock_queue l) ≡ Some x → s.loan t l ≡ Some y
      → (x ≡ y.number) × (s.loan_home x ≡ false)
  unfolding LoansAreOnHeads
  lent_out x y e f =
      let same : x ≡ y.number = same_Some x y.number (sym e ∙ h.loans.loans_are_on_heads t l y f) in
      (same, ap s.loan_home same ∙ loan_out c s t l y h f)

  -- and at home where it has none
  pub unlent_home : (x : ℕ) → s.head (lock_queue l) ≡ Some x → s.loan t l ≡ None → s.loan_home x ≡ true
  unlent_home x e none = owned_home c s l x t h lock k e (releasing_owner x e) none

  -- the nodes of the other locks' heads stay where they are
  pub home_elsewhere : (j z : ℕ) → j ≢ l → is_turnstile (c.kind j) ≡ true → s.head (lock_queue j) ≡ Some z
      → home_after s.loan_home (s.loan t l) z ≡ s.loan_home z
  unfolding LoansAreOnHeads
  home_elsewhere j z d kj e = go (s.loan t l) refl
    where
      go : (o : Option Loan) → s.loan t l ≡ o → home_after s.loan_home o z ≡ s.loan_home z
      go None f = refl
      go (Some y) f = put_other s.loan_home y.number true z (λ i. d (heads_apart c s j l z h
          (head_lock c s j z h kj e) lock kj k e (h.loans.loans_are_on_heads t l y f ∙ ap Some i)))
