-- The hops of a walk, and a claim: record and chain show the columns behind a lend, a claim and a shift.
use Rattle.lock_objects.proofs.Names
use Names.{not, IsSomeAnd, ℕ, ltb, Bool, true, false, List, Option, Some, None, IfSome, refl, sym, ap, subst, is_some}
use Names.{lt-ltb, Config, is_turnstile, is_free, Lists, lock_queue, names_turnstile, stands, with_kept, QueueName}
use Names.{State, Loan, put_queue, Lawful, OwnersHold, owner_if, MayLend, after_lend, MayClaim, after_claim, MayShift}
use Names.{after_shift, walk_up, put_same, put_lock_same, put_lock_other, owner_holds, unowned_home, number_of, out_of}
use Names.{node_carries, standing_head, owner_is, Contents, Turnstile, waits, with_loan_home, moved, Record, with_loans}
use Names.{IsWellFormed, loan_for, head_of, without, loan_by, with_contents, lent_for, lent_others, lent_one_each, Walk}
use Names.{RepresentsHead, RepresentsQueues, RepresentsRecord, queue_in, record_in, walk_of, CanBeLent, CanHop}
use Names.{record_claimed, head_claimed, chain_claimed}
use Rattle.std.specs.Prelude.{◌==◌, ◌&&◌}
use Rattle.std.proofs.Common.{◌≡◌, ◌≢◌, ◌∷◌, ◌∙◌}
use Rattle.lock_state.specs.Steps.Lending as moves
use Rattle.lock_laws.proofs.Derived as laws
use Rattle.turnstile_core.specs.Changes.{lists_of}
use Rattle.prio_lending.specs.Hops as hops
use Rattle.lock_objects.proofs.Lent as lent
use Rattle.lock_objects.proofs.Lent.{can_be_lent, node_out, queues_lent, record_lent}
use Rattle.lock_objects.proofs.Queues.{SameQueue, IsHead, there, queues_placed}

-- 1. A lend

-- a lock whose turnstile has an owner is of a kind with turnstiles
pub owned_turnstile : (c : Config) (s : State) (l o : ℕ) → Lawful c s → s.owner (lock_queue l) ≡ Some o
    → is_turnstile (c.kind l) ≡ true
unfolding OwnersHold
owned_turnstile c s l o lawful owned =
    go (is_turnstile (c.kind l)) (s.head (lock_queue l)) (sym (lawful.loans.owners_hold l) ∙ owned)
  where
    go : (b : Bool) (x : Option ℕ) → owner_if b x (s.word l).holder ≡ Some o → b ≡ true
    go true x e = refl
    go false None e = absurd cc
    go false (Some h) e = absurd cc

module _ (c : Config) (s : State) (t l o h : ℕ) (lawful : Lawful c s) (g : MayLend c s t l o h) where
  abbrev q : QueueName
  q = lock_queue l

  abbrev n : State
  n = after_lend c s t l o h

  turnstile : is_turnstile (c.kind l) ≡ true
  turnstile = owned_turnstile c s l o lawful g.owned

  module _ {chain : List (QueueName × Turnstile)} (shows : RepresentsQueues c chain (queue_in s) s.loan_home) where
    abbrev found : IsHead (queue_in s q) s.loan_home (head_of q chain)
    found = lent.its_head c s l o h lawful g.lock turnstile g.head shows

    its_owner : s.owner q ≡ found.0.contents.own.owner
    its_owner = ap (λ v. v.owner) found.2.queue

    pub can_hop : {r : Record} → RepresentsRecord r (record_in s o) → IsSomeAnd (head_of q chain) (CanHop l r)
    can_hop {r = r} rec = subst (λ (x : Option Turnstile). IsSomeAnd x (CanHop l r)) (sym found.1) (record {
      lends = can_be_lent c s l o h lawful g.lock turnstile g.head found.0 found.2 rec
          (node_carries c s l o h lawful g.lock turnstile g.head g.owned);
      owned = sym its_owner ∙ g.owned ∙ ap Some (sym (ap (λ v. v.thread) rec.columns));
    })

    pub lend_queues : {new : List (QueueName × Turnstile)}
        → IfSome (head_of q chain) (λ d. new ≡ (q, with_contents (with_loan_home false d.contents) d) ∷ without q chain)
        → RepresentsQueues c new (queue_in n) n.loan_home
    unfolding after_lend
    lend_queues made = queues_lent c s l o h lawful g.lock turnstile g.head shows s.owner (λ d. d.own.owner) its_owner
        (λ k d. refl) made

    module _ {r m : Record} (rec : RepresentsRecord r (record_in s o)) (other : m ≡ with_loans m.loans r)
        (fits : IsWellFormed m) (lent : IfSome (head_of q chain) (λ d. loan_for l m.loans ≡ loan_by l d.contents))
        (same : (k : ℕ) → k ≢ l → loan_for k m.loans ≡ loan_for k r.loans) where
      pub lend_record : RepresentsRecord m (record_in n o)
      unfolding after_lend
      lend_record = record_lent c s l o h lawful g.lock turnstile g.head found.0 found.2 rec other fits.one_loan_each
          its_loan same s.owner
        where
          its_loan : loan_for l m.loans ≡ loan_by l found.0.contents
          its_loan = subst (λ (x : Option Turnstile). IfSome x (λ d. loan_for l m.loans ≡ loan_by l d.contents)) found.1
              lent

      pub lend_walk : {w : Walk} {on : Bool} → w ≡ hops.walk_to r.thread (not (m.effective == r.effective) && on)
          → on ≡ names_turnstile c r.on → walk_of w ≡ n.walk t
      unfolding after_lend
      lend_walk is on_one =
          let e = ap (λ v. v.effective) lend_record.columns ∙ put_same s.effective o _ in
          ap walk_of is ∙ to_shown r.thread _
          ∙ (λ i. moves.walk_to (rec.columns i).thread
          (not (e i == (rec.columns i).effective) && (on_one ∙ ap (λ v. names_turnstile c v.blocked_on) rec.columns) i))
          ∙ sym (put_same s.walk t _)
        where
          to_shown : (u : ℕ) (b : Bool) → walk_of (hops.walk_to u b) ≡ moves.walk_to u b
          to_shown u true = refl
          to_shown u false = refl

-- 2. A claim

module _ (c : Config) (s : State) (t l h : ℕ) (by_try : Bool) (lawful : Lawful c s) (g : MayClaim c s t l h) where
  abbrev behind_claim : State
  behind_claim = after_claim c s t l h by_try

  of_turnstile : is_turnstile (c.kind l) ≡ true
  of_turnstile = ap is_turnstile g.kind

  -- a free lock's turnstile has no owner,
  unowned : s.owner (lock_queue l) ≡ None
  unowned = go (s.owner (lock_queue l)) refl
    where
      go : (x : Option ℕ) → s.owner (lock_queue l) ≡ x → x ≡ None
      go None e = refl
      go (Some o) e =
          absurd (let z = sym g.free ∙ ap is_free (owner_is c s o l lawful (owner_holds c s l o lawful e)) in cc)

  -- and nothing is lent for it
  unlent : s.loan t l ≡ None
  unlent = go (s.loan t l) refl
    where
      go : (x : Option Loan) → s.loan t l ≡ x → x ≡ None
      go None e = refl
      go (Some y) e = absurd (let z = sym g.unheld ∙ (laws.loans c s t l y lawful e).1 in cc)

  carries : number_of (s.loan t l) ≡ out_of (s.loan_home h) h
  carries = ap number_of unlent
      ∙ sym (ap (λ b. out_of b h) (unowned_home c s l h lawful g.lock of_turnstile g.head unowned))

  -- the other queues stay,
  pub claimed_others : (k : ℕ) → k ≢ l → is_turnstile (c.kind k) ≡ true
      → SameQueue (queue_in s) (queue_in behind_claim) s.loan_home behind_claim.loan_home (lock_queue k)
  unfolding after_claim
  claimed_others = lent.others c s l t h lawful g.lock of_turnstile g.head (put_queue s.owner (lock_queue l) (Some t))
      (λ k d. put_lock_other s.owner l (Some t) k (λ e. d (sym e)))

  module _ {r : Record} (rec : RepresentsRecord r (record_in s t)) where
    its_owner_then : put_queue s.owner (lock_queue l) (Some t) (lock_queue l) ≡ Some r.thread
    its_owner_then = put_lock_same s.owner l (Some t) ∙ ap Some (sym (ap (λ v. v.thread) rec.columns))

    -- and the turnstile that is there can be claimed; it and the record then show the columns
    module _ (d : Turnstile) (old : RepresentsHead d.contents (queue_in s (lock_queue l)) s.loan_home) where
      pub can_claim_it : CanBeLent l r d
      can_claim_it = can_be_lent c s l t h lawful g.lock of_turnstile g.head d old rec carries

      pub claimed_head : RepresentsHead (head_claimed r.thread d).contents (queue_in behind_claim (lock_queue l))
          behind_claim.loan_home
      unfolding after_claim
      claimed_head = node_out c s l t h lawful g.lock of_turnstile g.head d old
          (put_queue s.owner (lock_queue l) (Some t)) (Some r.thread) its_owner_then

      pub claimed_record : RepresentsRecord (record_claimed l d r) (record_in behind_claim t)
      unfolding after_claim
      claimed_record =
          record_lent c s l t h lawful g.lock of_turnstile g.head d old rec refl
          (lent_one_each l d.contents r.loans rec.one_loan_each)
          (lent_for l d.contents r.loans can_claim_it.carried can_claim_it.some_wait)
          (lent_others l d.contents r.loans) (put_queue s.owner (lock_queue l) (Some t))

  module _ {chain : List (QueueName × Turnstile)} (shows : RepresentsQueues c chain (queue_in s) s.loan_home)
      {r : Record} (rec : RepresentsRecord r (record_in s t)) where
    abbrev there_before : IsHead (queue_in s (lock_queue l)) s.loan_home (head_of (lock_queue l) chain)
    there_before = lent.its_head c s l t h lawful g.lock of_turnstile g.head shows

    pub can_claim : IsSomeAnd (head_of (lock_queue l) chain) (CanBeLent l r)
    can_claim = subst (λ (x : Option Turnstile). IsSomeAnd x (CanBeLent l r)) (sym there_before.1)
        (can_claim_it rec there_before.0 there_before.2)

    pub claim_queues : {new : List (QueueName × Turnstile)}
        → IfSome (head_of (lock_queue l) chain) (λ d. new ≡ chain_claimed l r.thread d chain)
        → RepresentsQueues c new (queue_in behind_claim) behind_claim.loan_home
    unfolding after_claim
    claim_queues made =
        queues_lent c s l t h lawful g.lock of_turnstile g.head shows (put_queue s.owner (lock_queue l) (Some t))
        (λ _. Some r.thread) (its_owner_then rec) (λ k d. put_lock_other s.owner l (Some t) k (λ e. d (sym e))) made

    pub claim_record : {m : Record} → IfSome (head_of (lock_queue l) chain) (λ d. m ≡ record_claimed l d r)
        → RepresentsRecord m (record_in behind_claim t)
    claim_record {m = m} made =
        let is = subst (λ (x : Option Turnstile). IfSome x (λ d. m ≡ record_claimed l d r)) there_before.1 made in
        subst (λ v. RepresentsRecord v (record_in behind_claim t)) (sym is)
        (claimed_record rec there_before.0 there_before.2)

-- 3. A shift

module _ (c : Config) (s : State) (t o l : ℕ) (lawful : Lawful c s) (g : MayShift c s t o l) where
  abbrev behind : State
  behind = after_shift s t o l

  module _ {chain : List (QueueName × Turnstile)} (shows : RepresentsQueues c chain (queue_in s) s.loan_home) where
    its_head : IsHead (queue_in s (lock_queue l)) s.loan_home (head_of (lock_queue l) chain)
    its_head =
        let x = standing_head c s o (lock_queue l) lawful g.stands in
        there (head_of (lock_queue l) chain) (queue_in s (lock_queue l)) s.loan_home x.0 (shows.lock l g.turnstile) x.1

    abbrev box : Contents
    box = its_head.0.contents

    lists_are : s.lists (lock_queue l) ≡ lists_of box
    lists_are = ap (λ v. v.lists) its_head.2.queue

    it_waits : waits o box ≡ true
    it_waits = ap (λ (ls : Lists). ltb 0 (stands o ls)) (sym lists_are)
        ∙ lt-ltb 0 (stands o (s.lists (lock_queue l))) g.stands

    pub waits_there : {r : Record} → RepresentsRecord r (record_in s o)
        → IsSomeAnd (head_of (lock_queue l) chain) (λ b. waits r.thread b.contents ≡ true)
    waits_there {r = r} rec = subst (λ (x : Option Turnstile). IsSomeAnd x (λ b. waits r.thread b.contents ≡ true))
        (sym its_head.1) (ap (λ u. waits u box) (ap (λ v. v.thread) rec.columns) ∙ it_waits)

    sorted : RepresentsHead (moved o (s.effective o) box) (queue_in behind (lock_queue l)) behind.loan_home
    unfolding after_shift
    sorted = record {
      queue = (λ i. record (queue_in s
          (lock_queue l)) { lists = put_lock_same s.lists l (with_kept o (s.effective o) (s.lists (lock_queue l))) i })
          ∙ (λ i. record (its_head.2.queue i) { lists = with_kept o (s.effective o) (lists_are i) });
      loan_home = its_head.2.loan_home;
    }

    others_stay : (k : ℕ) → k ≢ l → is_turnstile (c.kind k) ≡ true
        → SameQueue (queue_in s) (queue_in behind) s.loan_home behind.loan_home (lock_queue k)
    unfolding after_shift
    others_stay k d j = record {
      queue = λ i. record (queue_in s (lock_queue k)) {
        lists = put_lock_other s.lists l (with_kept o (s.effective o) (s.lists (lock_queue l))) k (λ e. d (sym e)) i;
      };
      loan_home = λ x e. refl;
    }

    pub shift_queues : {new : List (QueueName × Turnstile)} {r : Record} → RepresentsRecord r (record_in s o)
        → IfSome (head_of (lock_queue l) chain) (λ h. new
        ≡ (lock_queue l, with_contents (moved r.thread r.effective h.contents) h) ∷ without (lock_queue l) chain)
        → RepresentsQueues c new (queue_in behind) behind.loan_home
    shift_queues {new = new} {r = r} rec made =
        let h : Turnstile = its_head.0 in
        let is : new ≡ (lock_queue l, with_contents (moved o (s.effective o) box) h) ∷ without (lock_queue l) chain =
        subst (λ (x : Option Turnstile). IfSome x (λ b. new
        ≡ (lock_queue l, with_contents (moved r.thread r.effective b.contents) b) ∷ without (lock_queue l) chain))
        its_head.1 made
        ∙ (λ i. (lock_queue l, with_contents (moved (rec.columns i).thread (rec.columns i).effective box) h)
        ∷ without (lock_queue l) chain) in
        subst (λ v. RepresentsQueues c v (queue_in behind) behind.loan_home) (sym is)
        (queues_placed l shows others_stay (with_contents (moved o (s.effective o) box) h) sorted)

    pub shift_walk : {w : Walk} (owned : Bool) → IfSome (head_of (lock_queue l) chain)
        (λ h. owned ≡ is_some h.contents.own.owner) → w ≡ hops.walk_up l owned → walk_of w ≡ behind.walk t
    unfolding after_shift
    shift_walk owned tells is =
        ap walk_of is
        ∙ ap (λ b. walk_of (hops.walk_up l b))
        (subst (λ (x : Option Turnstile). IfSome x (λ b. owned ≡ is_some b.contents.own.owner)) its_head.1 tells
        ∙ ap is_some (sym (ap (λ v. v.owner) its_head.2.queue)))
        ∙ up_shown (s.owner (lock_queue l)) ∙ sym (put_same s.walk t (walk_up l (s.owner (lock_queue l))))
      where
        up_shown : (x : Option ℕ) → walk_of (hops.walk_up l (is_some x)) ≡ walk_up l x
        up_shown None = refl
        up_shown (Some u) = refl
