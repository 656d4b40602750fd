-- A release takes the waiters of one side off a turnstile: record, chain and woken show the columns behind an open.
use Rattle.lock_objects.proofs.Names
use Names.{ℕ, Bool, true, false, cond, List, [], length, map, Option, Some, None, option_map, IsSome, refl, sym, ap}
use Names.{subst, arith, inl, inr, drop, IsSomeAnd, All, cases_eq, drop_all, Config, is_empty, some, is_turnstile}
use Names.{side_woken, Waiter, Lists, lock_queue, list_of, with_list, waiting, dealt, free_after, head_after, Mode}
use Names.{Side, X, S, QueueName, State, Loan, put, Lawful, HeadsFitWaiters, BitsShowWaiters, MutexWaitersAreExclusive}
use Names.{effective_of, MayOpen, after_open, home_after, put_same, put_other, put_lock_same, put_lock_other, loan_lock}
use Names.{owner_holds, owned_home, unowned_home, side_shown, put_at_row, lent_out, home_elsewhere, headless_bare}
use Names.{Contents, Turnstile, Terms, home, with_last, waiters, with_waiters, left_by, taken, name_of, Record}
use Names.{carrier_for, node_out, with_contents, loan_for, without_loan, one_each_without, head_of, without}
use Names.{sleepers_of, QueueColumns, RepresentsHead, RepresentsQueue, RepresentsQueues, RepresentsRecord, queue_in}
use Names.{record_in, queue_of, loan_of, mark_of, CanOpen, CanRelease, record_opened, settled, woken_of, chain_opened}
use Rattle.std.proofs.Common.{◌≡◌, ◌≢◌, ◌+◌, ◌≤◌, ◌||◌, ◌∷◌, ◌∙◌, is_some}
use Rattle.std.specs.Option.{IfSome}
use Rattle.lock_laws.proofs.Derived as laws
use Rattle.turnstile_core.specs.Seen.{Place}
use Rattle.turnstile_core.specs.Changes.{all_waiters}
use Rattle.lock_objects.proofs.Lists.{taken-whole}
use Rattle.lock_objects.proofs.Taken as object
use Rattle.lock_objects.proofs.Loans.{loan_for-dropped, loan_for-others}
use Rattle.lock_objects.proofs.Queues.{SameQueue, queues_placed, queues_gone}
use Rattle.lock_objects.proofs.Records.{with_other_loans}

-- 1. A whole side of a turnstile

-- a queue's columns with no waiter on a side and no owner
abbrev without_side : Side → QueueColumns → QueueColumns
without_side side v = record {
  head = head_after (list_of side v.lists) v.free_list v.head;
  lists = with_list side [] v.lists;
  free_list = free_after (list_of side v.lists) v.free_list;
  owner = None;
}

module _ (side : Side) (d : Contents) where
  abbrev ws : List Waiter
  ws = waiters side d

  abbrev left : Contents
  left = left_by (length ws) side d

  abbrev took : List Place
  took = taken (length ws) side d

  -- all of the side are taken off
  is_left : left ≡ object.left true side d
  is_left = ap (λ us. with_waiters side us (record d { free = drop (length ws) d.free }))
      (drop_all (length ws) ws (omega arith))

  pub left_number : left.number ≡ d.number
  left_number = elim side as (λ e. (left_by (length (waiters e d)) e d).number ≡ d.number) [ X ↦ refl | S ↦ refl ]

  pub left_owner : left.own.owner ≡ d.own.owner
  left_owner = elim side as (λ e. (left_by (length (waiters e d)) e d).own.owner ≡ d.own.owner) [ X ↦ refl | S ↦ refl ]

  pub left_home : left.own.loan_home ≡ d.own.loan_home
  left_home =
      elim side as (λ e. (left_by (length (waiters e d)) e d).own.loan_home ≡ d.own.loan_home) [ X ↦ refl | S ↦ refl ]

module _ (side : Side) (d : Contents) (balanced : length d.free + 1 ≡ length d.exclusive + length d.shared) where
  nobody_left : (b : Bool) → is_empty (all_waiters (left side d)) ≡ b
      → is_empty (all_waiters (object.left true side d)) ≡ b
  nobody_left b e = ap (λ (v : Contents). is_empty (all_waiters v)) (sym (is_left side d)) ∙ e

  -- without its whole side the turnstile shows the queue without it, where others wait on it
  left_queue : is_empty (all_waiters (left side d)) ≡ false → d.own.owner ≡ None
      → without_side side (queue_of d) ≡ queue_of (left side d)
  left_queue some o =
      let e = object.stays true side d balanced (nobody_left false some) ∙ ap sleepers_of (sym (is_left side d)) in
      let w = sym (left_owner side d ∙ o) in
      λ i. record { head = (e i).head; lists = (e i).lists; free_list = (e i).free_list; owner = w i }

  left_none : is_empty (all_waiters (left side d)) ≡ true → (without_side side (queue_of d)).head ≡ None
  left_none nobody = object.gone true side d balanced (nobody_left true nobody)

  -- the waiters that were taken off
  abbrev woken : List Place
  woken = cond (is_empty (all_waiters (left side d))) (with_last (left side d).number (took side d)) (took side d)

  abbrev Marked : QueueName → List Place → Type 0
  Marked q ps = (map (mark_of q) ps ≡ dealt q (waiters side d) d.free (Some d.number)) × All (λ p. IsSome p.object) ps

  pub woken_shown : (q : QueueName) → Marked q woken
  woken_shown q =
      subst (Marked q)
      (sym (ap (λ (v : Contents). cond (is_empty (all_waiters v)) (with_last v.number (took side d)) (took side d))
      (is_left side d)
      ∙ ap (λ ps. cond (is_empty (all_waiters (object.left true side d))) (with_last d.number ps) ps)
      (taken-whole side d))) (object.woken_shown true side d balanced q)

-- 2. The loan

none_listed : (side : Side) → is_empty (list_of side (record { exclusive = []; shared = [] })) ≡ true
none_listed X = refl
none_listed S = refl

module _ {c : Config} {s : State} {t l : ℕ} (can : CanRelease c s t l) {r : Record}
    (rec : RepresentsRecord r (record_in s t)) where
  abbrev q : QueueName
  q = lock_queue l

  loan_seen : option_map loan_of (loan_for l r.loans) ≡ s.loan t l
  loan_seen = ap (λ v. v.loan l) rec.columns

  -- the record, without its loan
  pub record_shown : RepresentsRecord (record_opened l r) (record_in (after_open c s t l) t)
  unfolding after_open
  record_shown =
      subst (RepresentsRecord (record_opened l r)) (sym (λ i. record (record_in s t) {
        loan = λ k. put_at_row s.loan t l None k i;
        effective = put_same s.effective t (effective_of c (put (s.loan t) l None) (s.base t)) i;
      }))
      (with_other_loans c (without_loan l r.loans) (put (s.loan t) l None) left_loans
      (one_each_without l r.loans (without_loan l r.loans) refl rec.one_loan_each) beyond rec)
    where
      left_loans : (k : ℕ) → option_map loan_of (loan_for k (without_loan l r.loans)) ≡ put (s.loan t) l None k
      left_loans k =
          elim (cases_eq k l) [
            | inl e ↦ ap (option_map loan_of) (loan_for-dropped k l r.loans (rec.one_loan_each l) e)
                ∙ sym (ap (put (s.loan t) l None) e ∙ put_same (s.loan t) l None)
            | inr d ↦ ap (option_map loan_of) (loan_for-others k l r.loans d) ∙ ap (λ v. v.loan k) rec.columns
                ∙ sym (put_other (s.loan t) l None k (λ e. d (sym e)))
          ]

      none_at : (k : ℕ) → c.locks ≤ k → (o : Option Loan) → s.loan t k ≡ o → o ≡ None
      none_at k a None e = refl
      none_at k a (Some x) e = absurd (let b = can.within k x e in omega arith)

      beyond : (k : ℕ) → c.locks ≤ k → put (s.loan t) l None k ≡ None
      beyond k a =
          elim (cases_eq l k) [
            | inl e ↦ subst (λ j. put (s.loan t) l None j ≡ None) e (put_same (s.loan t) l None)
            | inr d ↦ put_other (s.loan t) l None k d ∙ none_at k a (s.loan t k) refl
          ]

  module _ {d : Contents} (old : RepresentsHead d (queue_in s q) s.loan_home) where
    its_head : s.head q ≡ Some d.number
    its_head = ap (λ v. v.head) old.queue

    -- the turnstile's node comes home where the record has the loan
    home_shown : home_after s.loan_home (s.loan t l) d.number ≡ (is_some (loan_for l r.loans) || d.own.loan_home)
    home_shown = go (loan_for l r.loans) loan_seen
      where
        go : (o : Option Terms) → option_map loan_of o ≡ s.loan t l
            → home_after s.loan_home (s.loan t l) d.number ≡ (is_some o || d.own.loan_home)
        go None e = ap (λ f. home_after s.loan_home f d.number) (sym e) ∙ old.loan_home
        go (Some y) e = ap (λ f. home_after s.loan_home f d.number) (sym e) ∙ ap (put s.loan_home y.number true)
            (can.lent d.number (loan_of y) its_head (sym e)).0 ∙ put_same s.loan_home y.number true

    -- where it has none, it is there already
    returns_home : (is_some (loan_for l r.loans) || d.own.loan_home) ≡ true
    returns_home = go (loan_for l r.loans) loan_seen
      where
        go : (o : Option Terms) → option_map loan_of o ≡ s.loan t l → (is_some o || d.own.loan_home) ≡ true
        go None e = sym old.loan_home ∙ can.unlent d.number its_head (sym e)
        go (Some y) e = refl

    -- the loan is on that node
    is_carried : IfSome (carrier_for l r.loans) (λ i. node_out d ≡ Some i)
    is_carried = go (loan_for l r.loans) loan_seen
      where
        go : (o : Option Terms) → option_map loan_of o ≡ s.loan t l
            → IfSome (option_map (λ y. y.number) o) (λ i. node_out d ≡ Some i)
        go None e = tt
        go (Some y) e =
            let is = can.lent d.number (loan_of y) its_head (sym e) in
            ap (λ b. cond b None (Some d.number)) (sym old.loan_home ∙ is.1) ∙ ap Some is.0

-- 3. The queues

module _ (c : Config) (s : State) (t l : ℕ) where
  abbrev n : State
  n = after_open c s t l

  its_queue : queue_in n (lock_queue l) ≡ without_side (side_woken (c.kind l) (s.word l)) (queue_in s (lock_queue l))
  unfolding after_open
  its_queue = λ i. record {
    head = put_lock_same s.head l (head_after (list_of (side_woken (c.kind l) (s.word l)) (s.lists (lock_queue l)))
        (s.free_list (lock_queue l)) (s.head (lock_queue l))) i;
    lists = put_lock_same s.lists l (with_list (side_woken (c.kind l) (s.word l)) [] (s.lists (lock_queue l))) i;
    free_list = put_lock_same s.free_list l
        (free_after (list_of (side_woken (c.kind l) (s.word l)) (s.lists (lock_queue l))) (s.free_list (lock_queue l)))
        i;
    owner = put_lock_same s.owner l None i;
  }

  pub others : CanRelease c s t l → (k : ℕ) → k ≢ l → is_turnstile (c.kind k) ≡ true
      → SameQueue (queue_in s) (queue_in n) s.loan_home n.loan_home (lock_queue k)
  unfolding after_open
  others can k d j = record {
    queue = λ i. record {
      head = put_lock_other s.head l (head_after (list_of (side_woken (c.kind l) (s.word l)) (s.lists (lock_queue l)))
          (s.free_list (lock_queue l)) (s.head (lock_queue l))) k (λ e. d (sym e)) i;
      lists = put_lock_other s.lists l (with_list (side_woken (c.kind l) (s.word l)) [] (s.lists (lock_queue l))) k
          (λ e. d (sym e)) i;
      free_list = put_lock_other s.free_list l
          (free_after (list_of (side_woken (c.kind l) (s.word l)) (s.lists (lock_queue l)))
          (s.free_list (lock_queue l))) k (λ e. d (sym e)) i;
      owner = put_lock_other s.owner l None k (λ e. d (sym e)) i;
    };
    loan_home = λ x e. can.elsewhere k x d j e;
  }

  module _ (can : CanRelease c s t l) {r : Record} (rec : RepresentsRecord r (record_in s t)) (side : Side)
      (e : side ≡ side_woken (c.kind l) (s.word l)) (h : Turnstile)
      (old : RepresentsHead h.contents (queue_in s (lock_queue l)) s.loan_home) where
    abbrev d : Contents
    d = settled l r h.contents

    fits : length d.free + 1 ≡ length d.exclusive + length d.shared
    fits = subst (λ v. length v.free_list + some v.head ≡ waiting v.lists) old.queue can.balanced

    then_is : queue_in n (lock_queue l) ≡ without_side side (queue_of d)
    then_is = its_queue ∙ (λ i. without_side (sym e i) (old.queue i))

    -- the turnstile stays
    pub stays : is_empty (all_waiters (left side d)) ≡ false
        → RepresentsHead (left side d) (queue_in n (lock_queue l)) n.loan_home
    unfolding after_open
    stays some_wait = record {
      queue = then_is ∙ left_queue side d fits some_wait refl;
      loan_home = ap (home_after s.loan_home (s.loan t l)) (left_number side d) ∙ home_shown can rec old
          ∙ sym (left_home side d);
    }

    -- or is gone
    pub gone : is_empty (all_waiters (left side d)) ≡ true → (queue_in n (lock_queue l)).head ≡ None
    gone nobody = ap (λ v. v.head) then_is ∙ left_none side d fits nobody

    pub queues_shown : {chain new : List (QueueName × Turnstile)} → RepresentsQueues c chain (queue_in s) s.loan_home
        → new ≡ chain_opened l side r h chain → head_of (lock_queue l) (without (lock_queue l) chain) ≡ None
        → RepresentsQueues c new (queue_in n) n.loan_home
    queues_shown {chain = chain} shows is absent = subst (λ v. RepresentsQueues c v (queue_in n) n.loan_home) (sym is)
        (go (is_empty (all_waiters (left side d))) refl)
      where
        go : (b : Bool) → is_empty (all_waiters (left side d)) ≡ b
            → RepresentsQueues c (cond b (without (lock_queue l) chain)
            ((lock_queue l, record h { contents = left side d }) ∷ without (lock_queue l) chain))
            (queue_in n) n.loan_home
        go true nobody = queues_gone l shows (others can) absent (gone nobody)
        go false some_wait = queues_placed l shows (others can) (record h { contents = left side d }) (stays some_wait)

    pub marks_shown : {ps : List Place} → ps ≡ woken_of l side r h.contents
        → (map (mark_of (lock_queue l)) ps ≡ n.marked t) × All (λ p. IsSome p.object) ps
    unfolding after_open
    marks_shown is =
        let are = woken_shown side d fits (lock_queue l) in
        let columns : s.marked t ≡ s.marked t = refl in
        let marks : n.marked t ≡ dealt (lock_queue l) (waiters side d) d.free (Some d.number) =
        put_same s.marked t (dealt (lock_queue l) (list_of (side_woken (c.kind l) (s.word l)) (s.lists (lock_queue l)))
        (s.free_list (lock_queue l)) (s.head (lock_queue l)))
        ∙ (λ i. dealt (lock_queue l) (list_of (sym e i) (old.queue i).lists) (old.queue i).free_list
        (old.queue i).head) in
        subst (λ ps. (map (mark_of (lock_queue l)) ps ≡ n.marked t) × All (λ p. IsSome p.object) ps) (sym is)
        (are.0 ∙ sym marks, are.1)

-- 4. A lawful state

module _ (c : Config) (s : State) (t l : ℕ) (mode : Mode) (lawful : Lawful c s) (g : MayOpen c s t l mode) where
  pub can_release : CanRelease c s t l
  unfolding HeadsFitWaiters
  can_release = record {
    turnstile = g.turnstile;
    balanced = (lawful.queues.heads_fit_waiters (lock_queue l)).balanced;
    lent = λ x y e f. lent_out c s t l lawful g.releases.lock g.turnstile (laws.loans c s t l y lawful f).1 x y e f;
    unlent = unlent;
    elsewhere = λ k x d turnstile e. elsewhere k x d turnstile e (s.loan t l) refl;
    within = λ k y e. loan_lock c s t k y lawful e;
  }
    where
      unlent : (x : ℕ) → s.head (lock_queue l) ≡ Some x → s.loan t l ≡ None → s.loan_home x ≡ true
      unlent x e none = go (s.owner (lock_queue l)) refl
        where
          go : (o : Option ℕ) → s.owner (lock_queue l) ≡ o → s.loan_home x ≡ true
          go None w = unowned_home c s l x lawful g.releases.lock g.turnstile e w
          go (Some o) w =
              let same : o ≡ t = laws.exclude c s o t l lawful (owner_holds c s l o lawful w)
              (λ n. let z = sym g.releases.held ∙ n in cc) in
              owned_home c s l x o lawful g.releases.lock g.turnstile e w (ap (λ u. s.loan u l) same ∙ none)

      elsewhere : (k x : ℕ) → k ≢ l → is_turnstile (c.kind k) ≡ true → s.head (lock_queue k) ≡ Some x
          → (o : Option Loan) → s.loan t l ≡ o → home_after s.loan_home (s.loan t l) x ≡ s.loan_home x
      elsewhere k x d turnstile e None f = ap (λ o. home_after s.loan_home o x) f
      elsewhere k x d turnstile e (Some y) f =
          home_elsewhere c s t l lawful g.releases.lock g.turnstile (laws.loans c s t l y lawful f).1 k x d turnstile e

  abbrev side : Side
  side = side_woken (c.kind l) (s.word l)

  some_woken : is_empty (list_of side (s.lists (lock_queue l))) ≡ false
  unfolding BitsShowWaiters MutexWaitersAreExclusive
  some_woken = side_shown (c.kind l) (s.word l) (s.lists (lock_queue l)) g.turnstile
      (lawful.queues.bits_show_waiters l) g.releases.shown (lawful.queues.mutex_waiters_are_exclusive l)

  -- the loan and the turnstile's node
  module _ {r : Record} (rec : RepresentsRecord r (record_in s t)) where
    pub can_open_there : (o : Option Turnstile) → RepresentsQueue o (queue_in s (lock_queue l)) s.loan_home
        → IsSomeAnd o (CanOpen l side r)
    can_open_there None none = let b = headless_bare c s (lock_queue l) lawful none in
        absurd (let z = sym some_woken
        ∙ ap (λ (ls : Lists). is_empty (list_of side ls))
        (λ i. record { exclusive = b.no_exclusive i; shared = b.no_shared i }) ∙ none_listed side in cc)
    can_open_there (Some h) old = record {
      some_wait = λ e. let z = sym some_woken ∙ ap (λ v. is_empty (list_of side v.lists)) old.queue
          ∙ ap is_empty e in cc;
      carried = is_carried can_release rec old;
      returns = returns_home can_release rec old;
    }

    pub can_open : {chain : List (QueueName × Turnstile)} → RepresentsQueues c chain (queue_in s) s.loan_home
        → IsSomeAnd (head_of (lock_queue l) chain) (CanOpen l side r)
    can_open {chain = chain} shows = can_open_there (head_of (lock_queue l) chain) (shows.lock l g.turnstile)

-- 5. The objects of a release

-- the head of a chain, by what is said of the chain
pub of_head : {A : Type 0} {o : Option A} {x : A} (P : A → Type 0) → Some x ≡ o → IfSome o P → P x
of_head P e h = subst (λ o. IfSome o P) (sym e) h

-- a turnstile that was settled and emptied of a side has no owner, and its node is at home
module _ (l : ℕ) (side : Side) (r : Record) {h a : Turnstile} {b : Contents} (can : CanOpen l side r h)
    (is : a ≡ record h { contents = settled l r h.contents })
    (made : b ≡ left_by (length (waiters side a.contents)) side a.contents) where
  pub at_home : record b.own { lock = None } ≡ home
  at_home =
      let unowned = ap (λ (d : Contents). d.own.owner) made ∙ left_owner side a.contents
      ∙ ap (λ (v : Turnstile). v.contents.own.owner) is in
      let lent = ap (λ (d : Contents). d.own.loan_home) made ∙ left_home side a.contents
      ∙ ap (λ (v : Turnstile). v.contents.own.loan_home) is ∙ can.returns in
      λ i. record { lock = None; owner = unowned i; loan_home = lent i }

-- one who is in the chain has what is asked of the head there
pub of_some : {A : Type 0} {o : Option A} {x : A} (P : A → Type 0) → Some x ≡ o → IsSomeAnd o P → P x
of_some P e h = subst (λ o. IsSomeAnd o P) (sym e) h

-- the settled turnstile, by the one that was there
pub is_settled : (l : ℕ) (r : Record) {a h : Turnstile} → a ≡ h
    → with_contents (settled l r a.contents) a ≡ record h { contents = settled l r h.contents }
is_settled l r e = ap (λ (v : Turnstile). record v { contents = settled l r v.contents }) e
