-- What those who wait for a lock lend to a thread: chain and record show the columns with that loan. A lend makes it
-- for the owner, and a claim for the thread that becomes the owner.
use Rattle.lock_objects.proofs.Names
use Names.{ℕ, Bool, true, false, cond, List, length, length-append, Option, Some, None, IfSome, option_map, inl, inr}
use Names.{refl, sym, ap, subst, arith, cases_eq, same_Some, Config, is_turnstile, lock_queue, least_of, waiting}
use Names.{QueueName, State, Loan, put, put_at, Lawful, effective_of, put_same, put_other, some_waiting, number_of}
use Names.{out_of, other_head, put_at_row, Contents, Turnstile, Terms, with_owner, with_loan_home, best, Record}
use Names.{with_loans, loan_for, loans_for, head_of, without, loan_by, with_contents, RepresentsHead, RepresentsQueues}
use Names.{RepresentsRecord, queue_in, record_in, loan_of, CanBeLent}
use Rattle.std.proofs.Common.{◌≡◌, ◌≢◌, ◌+◌, ◌<◌, ◌≤◌, ◌∷◌, ◌∙◌}
use Rattle.lock_state.specs.Steps.Lending as moves
use Rattle.lock_objects.proofs.Queues.{SameQueue, IsHead, there, queues_placed}
use Rattle.lock_objects.proofs.Records.{with_other_loans, none_beyond}

carrier_shown : (x : Option Terms) → option_map (λ t. t.number) x ≡ number_of (option_map loan_of x)
carrier_shown None = refl
carrier_shown (Some t) = refl

out_shown : (b : Bool) (n : ℕ) → out_of b n ≡ cond b None (Some n)
out_shown true n = refl
out_shown false n = refl

module _ (c : Config) (s : State) (l o h : ℕ) (lawful : Lawful c s) (lock : l < c.locks)
    (turnstile : is_turnstile (c.kind l) ≡ true) (head : s.head (lock_queue l) ≡ Some h) where
  abbrev q : QueueName
  q = lock_queue l

  abbrev new_loan : Option Loan
  new_loan = moves.loan_of h (least_of (s.lists q))

  -- the columns with that loan, and with these owners
  abbrev pub lent : (QueueName → Option ℕ) → State
  lent owners = record s {
    owner = owners;
    loan = put_at s.loan o l new_loan;
    loan_home = put s.loan_home h false;
    effective = put s.effective o (effective_of c (put (s.loan o) l new_loan) (s.base o));
  }

  -- 1. The other queues

  module _ (owners : QueueName → Option ℕ)
      (other_owners : (k : ℕ) → k ≢ l → owners (lock_queue k) ≡ s.owner (lock_queue k)) where
    pub others : (k : ℕ) → k ≢ l → is_turnstile (c.kind k) ≡ true
        → SameQueue (queue_in s) (queue_in (lent owners)) s.loan_home (lent owners).loan_home (lock_queue k)
    others k d j = record {
      queue = λ i. record (queue_in s (lock_queue k)) { owner = other_owners k d i };
      loan_home = λ x e. put_other s.loan_home h false x (other_head c s l k h x lawful turnstile j d head e);
    }

  -- 2. The turnstile that is there

  module _ (d : Turnstile) (old : RepresentsHead d.contents (queue_in s q) s.loan_home) where
    abbrev box : Contents
    box = d.contents

    is_head : box.number ≡ h
    is_head = same_Some box.number h (sym (ap (λ v. v.head) old.queue) ∙ head)

    -- what is asked of it
    pub can_be_lent : {r : Record} → RepresentsRecord r (record_in s o)
        → number_of (s.loan o l) ≡ out_of (s.loan_home h) h → CanBeLent l r d
    can_be_lent {r = r} rec carries = record {
      some_wait = λ e.
          let w : 1 ≤ length box.exclusive + length box.shared =
          subst (λ v. 1 ≤ waiting v.lists) old.queue (some_waiting c s lawful l h head) in
          omega (arith, length-append box.exclusive box.shared, ap length e, w);
      carried = carrier_shown (loan_for l r.loans) ∙ ap number_of (ap (λ v. v.loan l) rec.columns) ∙ carries
          ∙ ap (λ i. out_of (s.loan_home i) i) (sym is_head) ∙ ap (λ b. out_of b box.number) old.loan_home
          ∙ out_shown box.own.loan_home box.number;
    }

    -- with its node out, and its owner
    pub node_out : (owners : QueueName → Option ℕ) (owner : Option ℕ) → owners q ≡ owner
        → RepresentsHead (with_loan_home false (with_owner owner box)) (queue_in (lent owners) q)
        (lent owners).loan_home
    node_out owners owner its_owner =
        record {
          queue = λ i. record (old.queue i) { owner = its_owner i };
          loan_home = ap (put s.loan_home h false) is_head ∙ put_same s.loan_home h false;
        }

    -- 3. The record

    loan_made : option_map loan_of (loan_by l box) ≡ new_loan
    loan_made = go (best box) ∙ ap (moves.loan_of box.number) (ap (λ v. least_of v.lists) (sym old.queue))
        ∙ ap (λ i. moves.loan_of i (least_of (s.lists q))) is_head
      where
        go : (x : Option ℕ) → option_map loan_of
            (option_map (λ p. let y : Terms = record { number = box.number; lock = l; prio = p } in y) x)
            ≡ moves.loan_of box.number x
        go None = refl
        go (Some p) = refl

    module _ {r m : Record} (rec : RepresentsRecord r (record_in s o)) (with_it : m ≡ with_loans m.loans r)
        (one_each : (k : ℕ) → loans_for k m.loans ≤ 1) (made : loan_for l m.loans ≡ loan_by l box)
        (same : (k : ℕ) → k ≢ l → loan_for k m.loans ≡ loan_for k r.loans) where
      loans_shown : (k : ℕ) → option_map loan_of (loan_for k m.loans) ≡ put (s.loan o) l new_loan k
      loans_shown k =
          elim (cases_eq k l) [
            | inl e ↦ rw e (ap (option_map loan_of) made ∙ loan_made ∙ sym (put_same (s.loan o) l new_loan))
            | inr ne ↦ ap (option_map loan_of) (same k ne) ∙ ap (λ v. v.loan k) rec.columns
                ∙ sym (put_other (s.loan o) l new_loan k (λ e. ne (sym e)))
          ]

      beyond : (k : ℕ) → c.locks ≤ k → put (s.loan o) l new_loan k ≡ None
      beyond k above = put_other (s.loan o) l new_loan k (λ e. omega (arith, e, lock))
          ∙ none_beyond c s o lawful k above

      pub record_lent : (owners : QueueName → Option ℕ) → RepresentsRecord m (record_in (lent owners) o)
      record_lent owners =
          subst (λ v. RepresentsRecord v (record_in (lent owners) o)) (sym with_it)
          (subst (RepresentsRecord (with_loans m.loans r)) (sym (λ i. record (record_in s o) {
            loan = λ k. put_at_row s.loan o l new_loan k i;
            effective = put_same s.effective o (effective_of c (put (s.loan o) l new_loan) (s.base o)) i;
          }))
          (with_other_loans c m.loans (put (s.loan o) l new_loan) loans_shown one_each beyond rec))

  -- 4. The chain

  module _ {chain : List (QueueName × Turnstile)} (shows : RepresentsQueues c chain (queue_in s) s.loan_home) where
    pub its_head : IsHead (queue_in s q) s.loan_home (head_of q chain)
    its_head = there (head_of q chain) (queue_in s q) s.loan_home h (shows.lock l turnstile) head

    module _ (owners : QueueName → Option ℕ) (owner : Contents → Option ℕ)
        (its_owner : owners q ≡ owner its_head.0.contents)
        (other_owners : (k : ℕ) → k ≢ l → owners (lock_queue k) ≡ s.owner (lock_queue k)) where
      pub queues_lent : {new : List (QueueName × Turnstile)}
          → IfSome (head_of q chain)
          (λ d. new ≡ (q, with_contents (with_loan_home false (with_owner (owner d.contents) d.contents)) d) ∷ without q
          chain)
          → RepresentsQueues c new (queue_in (lent owners)) (lent owners).loan_home
      queues_lent {new = new} made =
          let d : Turnstile = its_head.0 in
          let is = subst (λ (x : Option Turnstile). IfSome x
          (λ d. new ≡ (q, with_contents (with_loan_home false (with_owner (owner d.contents) d.contents)) d) ∷
          without q chain)) its_head.1 made in
          subst (λ v. RepresentsQueues c v (queue_in (lent owners)) (lent owners).loan_home) (sym is)
          (queues_placed l shows (others owners other_owners)
          (with_contents (with_loan_home false (with_owner (owner d.contents) d.contents)) d)
          (node_out d its_head.2 owners (owner d.contents) its_owner))
