-- A thread stands on a turnstile: its record, the lock's turnstile and the chain show the columns behind an enter.
use Rattle.lock_objects.proofs.Names
use Names.{ℕ, ltb, true, List, [], Option, Some, None, refl, sym, ap, subst, Holder, owner_of, Config, State, Waiter}
use Names.{lock_queue, stands, side_of, list_of, with_list, insert, head_with, free_with, Lawful, is_turnstile}
use Names.{after_enter, owner_with, Mode, Side, X, S, QueueName, put_same, put_lock_same, put_lock_other, home_nowhere}
use Names.{node_home, headless_bare, Contents, Turnstile, idle_contents, with_owner, begun, joined, name_of, Record}
use Names.{head_of, QueueColumns, RepresentsHead, RepresentsQueue, RepresentsQueues, RepresentsRecord, queue_in}
use Names.{record_in, queue_of, CanStand, CanLend, waiter_of, record_entered, head_entered, chain_entered}
use Rattle.std.proofs.Common.{◌≡◌, ◌≢◌, ◌<◌, ◌∙◌}
use Rattle.turnstile_core.specs.Changes.{lists_of}
use Rattle.lock_objects.proofs.Queues.{SameQueue, queues_placed}
use Rattle.lock_objects.proofs.StepsOfSleepers.{somebody_stands}

-- 1. A lawful state

module _ (c : Config) (s : State) (t l x : ℕ) (lawful : Lawful c s) where
  -- a thread with its turnstile at home can lend it
  pub can_lend : t < c.threads → is_turnstile (c.kind l) ≡ true → s.turnstile t ≡ Some x → CanLend c s t l x
  can_lend thread turnstile own = record {
    turnstile = turnstile;
    own = own;
    node = node_home c s t x lawful thread own;
    no_waiter = λ e. let b = headless_bare c s (lock_queue l) lawful e in
        λ i. record { exclusive = b.no_exclusive i; shared = b.no_shared i };
    no_free = λ e. (headless_bare c s (lock_queue l) lawful e).no_free;
  }

  -- and stand on a turnstile
  pub can_stand : {chain : List (QueueName × Turnstile)} → RepresentsQueues c chain (queue_in s) s.loan_home
      → is_turnstile (c.kind l) ≡ true → s.turnstile t ≡ Some x → CanStand t (head_of (lock_queue l) chain)
  can_stand {chain = chain} shows turnstile own = go (head_of (lock_queue l) chain) (shows.lock l turnstile)
    where
      go : (o : Option Turnstile) → RepresentsQueue o (queue_in s (lock_queue l)) s.loan_home → CanStand t o
      go None h = tt
      go (Some d) h =
          let ls : s.lists (lock_queue l) ≡ lists_of d.contents = ap (λ v. v.lists) h.queue in (
            somebody_stands c s (lock_queue l) lawful d.contents (ap (λ v. v.head) h.queue) ls,
            ap (ltb 0) (ap (stands t) (sym ls) ∙ home_nowhere c s t l x lawful own turnstile),
          )

-- 2. The turnstile

-- a queue's columns with one waiter more, whose turnstile is x
abbrev with_one : Waiter → ℕ → Side → Holder → QueueColumns → QueueColumns
with_one w x side holder v = record {
  head = head_with v.head x;
  lists = with_list side (insert w (list_of side v.lists)) v.lists;
  free_list = free_with v.head x v.free_list;
  owner = owner_with v.head v.owner holder;
}

-- of a queue that had no head
module _ (l : ℕ) (w : Waiter) (x : ℕ) where
  abbrev first : Side → Option ℕ → Contents
  first side owner = with_owner owner (begun l w side (idle_contents x))

  first_shown : (side : Side) (holder : Holder) (v : QueueColumns) → v.head ≡ None
      → v.lists ≡ record { exclusive = []; shared = [] } → v.free_list ≡ []
      → with_one w x side holder v ≡ queue_of (first side (owner_of holder))
  first_shown X holder v e f g =
      λ i. with_one w x X holder (record { head = e i; lists = f i; free_list = g i; owner = v.owner })
  first_shown S holder v e f g =
      λ i. with_one w x S holder (record { head = e i; lists = f i; free_list = g i; owner = v.owner })

  begun_number : (side : Side) (owner : Option ℕ) → (first side owner).number ≡ x
  begun_number X owner = refl
  begun_number S owner = refl

  begun_home : (side : Side) (owner : Option ℕ) → (first side owner).own.loan_home ≡ true
  begun_home X owner = refl
  begun_home S owner = refl

-- and of one that had
module _ (w : Waiter) (x : ℕ) where
  later_shown : (side : Side) (holder : Holder) (h : Contents)
      → with_one w x side holder (queue_of h) ≡ queue_of (joined x w side h)
  later_shown X holder h = refl
  later_shown S holder h = refl

  joined_number : (side : Side) (h : Contents) → (joined x w side h).number ≡ h.number
  joined_number X h = refl
  joined_number S h = refl

  joined_home : (side : Side) (h : Contents) → (joined x w side h).own.loan_home ≡ h.own.loan_home
  joined_home X h = refl
  joined_home S h = refl

-- 3. A state behind an enter

module _ (s : State) (t l : ℕ) (mode : Mode) (x : ℕ) where
  abbrev n : State
  n = after_enter s t l mode x

  abbrev q : QueueName
  q = lock_queue l

  abbrev w : Waiter
  w = record { thread = t; kept = s.effective t }

  others : (c : Config) (k : ℕ) → k ≢ l → is_turnstile (c.kind k) ≡ true
      → SameQueue (queue_in s) (queue_in n) s.loan_home n.loan_home (lock_queue k)
  unfolding after_enter
  others c k d j = record {
    queue = λ i. record {
      head = put_lock_other s.head l (head_with (s.head q) x) k (λ e. d (sym e)) i;
      lists = put_lock_other s.lists l
          (with_list (side_of mode) (insert w (list_of (side_of mode) (s.lists q))) (s.lists q)) k (λ e. d (sym e)) i;
      free_list = put_lock_other s.free_list l (free_with (s.head q) x (s.free_list q)) k (λ e. d (sym e)) i;
      owner = put_lock_other s.owner l (owner_with (s.head q) (s.owner q) (s.word l).holder) k (λ e. d (sym e)) i;
    };
    loan_home = λ y e. refl;
  }

  -- the turnstile shows the columns behind the enter
  pub head_shown : {c : Config} (o : Option Turnstile) → CanLend c s t l x
      → RepresentsQueue o (queue_in s q) s.loan_home → RepresentsHead
      (head_entered l (side_of mode) x (owner_of (s.word l).holder) w o).contents (queue_in n q) n.loan_home
  unfolding after_enter
  head_shown o can h = record {
    queue = (λ i. record {
      head = put_lock_same s.head l (head_with (s.head q) x) i;
      lists = put_lock_same s.lists l
          (with_list (side_of mode) (insert w (list_of (side_of mode) (s.lists q))) (s.lists q)) i;
      free_list = put_lock_same s.free_list l (free_with (s.head q) x (s.free_list q)) i;
      owner = put_lock_same s.owner l (owner_with (s.head q) (s.owner q) (s.word l).holder) i;
    }) ∙ (go o h).0;
    loan_home = (go o h).1;
  }
    where
      Shown : Option Turnstile → Type 0
      Shown d =
          let b : Contents = (head_entered l (side_of mode) x (owner_of (s.word l).holder) w d).contents in
          (with_one w x (side_of mode) (s.word l).holder (queue_in s q) ≡ queue_of b)
          × (s.loan_home b.number ≡ b.own.loan_home)

      go : (d : Option Turnstile) → RepresentsQueue d (queue_in s q) s.loan_home → Shown d
      go None none = (
        first_shown l w x (side_of mode) (s.word l).holder (queue_in s q) none (can.no_waiter none) (can.no_free none),
        ap s.loan_home (begun_number l w x (side_of mode) (owner_of (s.word l).holder)) ∙ can.node
            ∙ sym (begun_home l w x (side_of mode) (owner_of (s.word l).holder)),
      )
      go (Some d) old = (
        ap (with_one w x (side_of mode) (s.word l).holder) old.queue
            ∙ later_shown w x (side_of mode) (s.word l).holder d.contents,
        ap s.loan_home (joined_number w x (side_of mode) d.contents) ∙ old.loan_home
            ∙ sym (joined_home w x (side_of mode) d.contents),
      )

  pub queues_entered : {c : Config} {chain : List (QueueName × Turnstile)} → CanLend c s t l x
      → RepresentsQueues c chain (queue_in s) s.loan_home
      → RepresentsQueues c (chain_entered l (side_of mode) x (owner_of (s.word l).holder) w chain)
      (queue_in n) n.loan_home
  queues_entered {c = c} {chain = chain} can shows = queues_placed l shows (others c)
      (head_entered l (side_of mode) x (owner_of (s.word l).holder) w (head_of q chain))
      (head_shown (head_of q chain) can (shows.lock l can.turnstile))

  pub record_shown : {r : Record} → RepresentsRecord r (record_in s t)
      → RepresentsRecord (record_entered l r) (record_in n t)
  unfolding after_enter
  record_shown h = record {
    columns = λ i. record (h.columns
        i) { turnstile = sym (put_same s.turnstile t None) i; blocked_on = sym (put_same s.blocked_on t (Some q)) i };
    one_loan_each = h.one_loan_each;
  }

-- 4. A chain and a record that are what an enter makes

-- a record that was entered
pub entered_record : (s : State) (t l : ℕ) (mode : Mode) (x : ℕ) {r n : Record} → n ≡ record_entered l r
    → RepresentsRecord r (record_in s t) → RepresentsRecord n (record_in (after_enter s t l mode x) t)
entered_record s t l mode x e h =
    subst (λ v. RepresentsRecord v (record_in (after_enter s t l mode x) t)) (sym e) (record_shown s t l mode x h)

-- a chain that was entered
pub entered_chain : (c : Config) (s : State) (t l : ℕ) (mode : Mode) (x : ℕ) (side : Side) (owner : Option ℕ)
    {r : Record} {chain n : List (QueueName × Turnstile)} → side ≡ side_of mode → owner ≡ owner_of (s.word l).holder
    → CanLend c s t l x → RepresentsRecord r (record_in s t) → RepresentsQueues c chain (queue_in s) s.loan_home
    → ((y : ℕ) → r.turnstile ≡ Some y → n ≡ chain_entered l side y owner (waiter_of r) chain)
    → RepresentsQueues c n (queue_in (after_enter s t l mode x)) (after_enter s t l mode x).loan_home
entered_chain c s t l mode x side owner {r = r} {chain = chain} e f can rec shows made =
    let own : r.turnstile ≡ Some x = ap (λ v. v.turnstile) rec.columns ∙ can.own in
    let w : waiter_of r ≡ record { thread = t; kept = s.effective t } = λ i.
    record { thread = (rec.columns i).thread; kept = (rec.columns i).effective } in
    let is = made x own ∙ (λ i. chain_entered l (e i) x (f i) (w i) chain) in
    subst (λ v. RepresentsQueues c v (queue_in (after_enter s t l mode x)) (after_enter s t l mode x).loan_home)
    (sym is) (queues_entered s t l mode x can shows)
