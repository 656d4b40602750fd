-- A thread is put on a queue: it blocks on a lock that is held, or sleeps on a channel.
use Rattle.step_machine.proofs.Names
use Names.{inl, inr, ℕ, Bool, true, false, cond, List, slice_get, Option, Some, None, option_map, is_some, IsSome, refl}
use Names.{sym, ap, subst, with_item, with_value, Config, word_of, entered, owner_of, is_free, is_turnstile, lock_queue}
use Names.{chan_queue, side_of, is_turnstile_queue, Kind, Mtx, Rw, Mode, Side, X, QueueName, State, Queued, put, Lawful}
use Names.{MayMake, Enters, EntersSleepQueue, MayReady, after_ready, MayEnter, after_enter, walk_up, MayEnterSleep}
use Names.{MayAdd, after_enter_sleep, after_add, put_same, put_other, ready_lawful, Turnstile, SleepQueue, head_of}
use Names.{Record, Walk, RecordColumns, RepresentsQueues, RepresentsSleepers, RepresentsRecord, queue_in, sleepers_in}
use Names.{record_in, walk_of, CanStand, CanLend, IsBalanced, ChangesSleepers, sleeper_of, slept, can_lend, can_stand}
use Names.{balanced, can_sleep, turnstiles_stay, sleepers_stay, sleeper_is, enter_changes, enter_sleep_changes}
use Names.{add_changes, Machine, Thread, Represents, RepresentsWords, thread_in, enters, arith}
use Rattle.std.proofs.Common.{◌≡◌, ◌⊎◌, ◌<◌, ◌∙◌}
use Rattle.lock_state.specs.State as state
use Rattle.prio_lending.specs.Hops as hops
use Rattle.lock_objects.specs.declared.wait.Wait.TheVariants as wait
use Rattle.step_machine.proofs.Kit.{OthersStay, thread_changed, word_changed, record_of, shown_by}

-- 1. A thread is made ready

pub readied : {m : Machine} {c : Config} {s : State} {t : ℕ} (th : Thread) → Represents c m s → MayReady c s t
    → slice_get m.threads.items t ≡ Some th
    → Represents c (record m { threads = with_item m.threads t (record th { wait = wait.Queued }) }) (after_ready s t)
unfolding after_ready
readied {m = m} {c = c} {s = s} {t = t} th h g at =
    let old = h.threads.thread t th at in
    shown_by (after_ready s t) h refl refl h.words h.queues h.sleepers
    (thread_changed (after_ready s t) (record th { wait = wait.Queued }) h.threads g.thread
    (record {
      columns = λ i. record (old.columns i) { wait = sym (put_same s.wait t Queued) i };
      one_loan_each = old.one_loan_each;
      held = old.held;
      marked = old.marked;
    })
    (λ u d i. record (thread_in s u) { wait = put_other s.wait t Queued u (λ e. d (sym e)) i }))

-- 2. A thread falls asleep, on the queue of an sx lock or of a channel

-- what the call makes of the chain, in every state that this shows
abbrev pub FallsAsleep : QueueName → Side → Record → List (QueueName × SleepQueue) → List (QueueName × SleepQueue)
    → Type 0
FallsAsleep q side r chain then = (c : Config) (s n : State) (x : ℕ) → r.sleep_queue ≡ Some x
    → is_turnstile_queue c q ≡ false → IsBalanced (sleepers_in s q)
    → ChangesSleepers s n q (slept side x (sleeper_of r)) → RepresentsSleepers c chain (sleepers_in s)
    → RepresentsSleepers c then (sleepers_in n)

module _ (c : Config) (s : State) (t x : ℕ) (q : QueueName) (lawful : Lawful c s) (own : s.sleep_queue t ≡ Some x)
    (sleeps : is_turnstile_queue c q ≡ false) {r : Record} (rec : RepresentsRecord r (record_in s t)) where
  own_is : r.sleep_queue ≡ Some x
  own_is = ap (λ v. v.sleep_queue) rec.columns ∙ own

  -- what it asks
  pub has_sleep_queue : IsSome r.sleep_queue
  has_sleep_queue = ap is_some own_is

  module _ {chain : List (QueueName × SleepQueue)} (shows : RepresentsSleepers c chain (sleepers_in s)) where
    pub sleeps_free : CanStand r.thread (head_of q chain)
    sleeps_free = subst (λ u. CanStand u (head_of q chain)) (sym (ap (λ v. v.thread) rec.columns))
        (can_sleep c s q lawful shows sleeps t x own)

    -- what it makes
    pub asleep : {then : List (QueueName × SleepQueue)} (n : State) (side : Side)
        → ChangesSleepers s n q (slept side x (record { thread = t; kept = s.base t }))
        → FallsAsleep q side r chain then → RepresentsSleepers c then (sleepers_in n)
    asleep n side changes falls = falls c s n x own_is sleeps (balanced c s q lawful)
        (subst (λ w. ChangesSleepers s n q (slept side x w)) (sym (sleeper_is s t rec)) changes) shows

-- its record has no sleep queue any more, and names the queue
abbrev pub asleep_on : QueueName → RecordColumns → RecordColumns
asleep_on q a = record a { sleep_queue = None; blocked_on = Some q }

abbrev pub RecordFallsAsleep : QueueName → Record → Record → Type 0
RecordFallsAsleep q r then = (a : RecordColumns) → RepresentsRecord r a → RepresentsRecord then (asleep_on q a)

-- 3. A thread sleeps on a channel

module _ {m : Machine} {c : Config} {s : State} {t d x : ℕ} (h : Represents c m s) (lawful : Lawful c s)
    (g : MayAdd c s t d x) {th : Thread} (at : slice_get m.threads.items t ≡ Some th) where
  abbrev after : State
  after = after_add s t d x

  pub record_now : RepresentsRecord th.record.value (record_in s t)
  record_now = record_of (h.threads.thread t th at)

  pub add_asks : IsSome th.record.value.sleep_queue
      × CanStand th.record.value.thread (head_of (chan_queue d) m.sleepers)
  add_asks = (
    has_sleep_queue c s t x (chan_queue d) lawful g.own refl record_now,
    sleeps_free c s t x (chan_queue d) lawful g.own refl record_now h.sleepers,
  )

  add_others : OthersStay s after t
  unfolding after_add
  add_others u e = λ i. record (thread_in s u) {
    its_record = record (record_in s u) {
      sleep_queue = put_other s.sleep_queue t None u (λ j. e (sym j)) i;
      blocked_on = put_other s.blocked_on t (Some (chan_queue d)) u (λ j. e (sym j)) i;
    };
  }

  pub stands_added : {chain : List (QueueName × SleepQueue)} {v : Record} → FallsAsleep
      (chan_queue d) X th.record.value m.sleepers chain → RecordFallsAsleep (chan_queue d) th.record.value v
      → Represents c
      (record m { sleepers = chain; threads = with_item m.threads t (record th { «record» = with_value th.record v }) })
      after
  unfolding after_add
  stands_added {v = v} falls rec =
      let old = h.threads.thread t th at in
      let new = rec (record_in s t) record_now in
      shown_by after h refl refl h.words
      (turnstiles_stay c s after (chan_queue d) _ (add_changes s t d x) refl refl refl h.queues)
      (asleep c s t x (chan_queue d) lawful g.own refl record_now h.sleepers after X (add_changes s t d x) falls)
      (thread_changed after (record th { «record» = with_value th.record v }) h.threads g.thread (record {
        columns = λ i. record (old.columns i) {
          its_record = (new.columns ∙ sym (λ j. record (record_in s t) {
            sleep_queue = put_same s.sleep_queue t None j;
            blocked_on = put_same s.blocked_on t (Some (chan_queue d)) j;
          })) i;
        };
        one_loan_each = new.one_loan_each;
        held = old.held;
        marked = old.marked;
      }) add_others)

-- 4. A thread blocks on a lock: it is made ready, and stands on the lock's queue

-- a walk begins where the columns say
walk_begins : (l : ℕ) (o : Option ℕ) → walk_of (hops.walk_up l (is_some o)) ≡ walk_up l o
walk_begins l e = grind arith

pub seen_is : {A : Type 0} (f : A → ℕ) (o : Option A) → is_some o ≡ is_some (option_map f o)
seen_is f e = grind arith

-- mutexes and rw locks have turnstiles
pub has_turnstile : (kind : Kind) → (kind ≡ Mtx) ⊎ (kind ≡ Rw) → is_turnstile kind ≡ true
has_turnstile kind e = grind arith

-- what it asks on either kind of queue
pub record IsBusy (c : Config) (s : State) (t l : ℕ) : Type 0 where
  pub thread : t < c.threads
  pub lock : l < c.locks
  pub held : is_free (s.word l).holder ≡ false

-- what it makes of the columns of which the queue's kind tells nothing, with a walk or without
record Blocks (s n : State) (t l : ℕ) (mode : Mode) (walk : state.Walk) : Type 0 where
  word : n.word ≡ put s.word l (entered (s.word l) (side_of mode))
  history : n.history ≡ s.history
  edges : n.edges ≡ s.edges
  others : OthersStay s n t
  thread : thread_in n t
      ≡ record (thread_in s t) { its_record = record_in n t; wait = Queued; walk = walk; wants = true }

module _ (c : Config) (s : State) (t l : ℕ) (mode : Mode) (x : ℕ) (kind : Kind) where
  pub is_busy : MayMake c (after_ready s t) (enters kind t l mode x) → IsBusy c s t l
  unfolding after_ready
  is_busy = go (is_turnstile kind)
    where
      go : (b : Bool) → MayMake c (after_ready s t) (cond b (Enters t l mode x) (EntersSleepQueue t l mode x))
          → IsBusy c s t l
      go true g = assumption g.waits
      go false g = assumption g.waits

  pub on_turnstile : is_turnstile kind ≡ true → enters kind t l mode x ≡ Enters t l mode x
  on_turnstile k = ap (λ b. cond b (Enters t l mode x) (EntersSleepQueue t l mode x)) k

  pub on_sleep_queue : is_turnstile kind ≡ false → enters kind t l mode x ≡ EntersSleepQueue t l mode x
  on_sleep_queue k = ap (λ b. cond b (Enters t l mode x) (EntersSleepQueue t l mode x)) k

module _ {m : Machine} {c : Config} {s : State} {t : ℕ} (h : Represents c m s) (lawful : Lawful c s)
    (r : MayReady c s t) where
  abbrev ready : State
  ready = after_ready s t

  ready_is_lawful : Lawful c ready
  ready_is_lawful = ready_lawful c s t r lawful

  pub queues_ready : RepresentsQueues c m.chain (queue_in ready) ready.loan_home
  unfolding after_ready
  queues_ready = h.queues

  sleepers_ready : RepresentsSleepers c m.sleepers (sleepers_in ready)
  unfolding after_ready
  sleepers_ready = h.sleepers

  module _ {th : Thread} (at : slice_get m.threads.items t ≡ Some th) where
    pub record_ready : RepresentsRecord th.record.value (record_in ready t)
    unfolding after_ready
    record_ready = record_of (h.threads.thread t th at)

    blocked : {l : ℕ} {mode : Mode} {chain : List (QueueName × Turnstile)} {sleepers : List (QueueName × SleepQueue)}
        {v : Record} (walk : Walk) (n : State) (w : ℕ) → IsBusy c s t l → Blocks s n t l mode (walk_of walk)
        → word_of w ≡ entered (s.word l) (side_of mode)
        → RepresentsQueues c chain (queue_in n) n.loan_home → RepresentsSleepers c sleepers (sleepers_in n)
        → RepresentsRecord v (record_in n t)
        → Represents c (record m {
          words = with_item m.words l w;
          chain = chain;
          sleepers = sleepers;
          threads = with_item m.threads t
              (record th { «record» = with_value th.record v; wait = wait.Queued; walk = walk; wants = true });
        }) n
    blocked {l = l} {mode = mode} {v = v} walk n w busy b word queues sleepers rec =
        let old = h.threads.thread t th at in
        shown_by n h b.history b.edges (subst (RepresentsWords (with_item m.words l w).items c) (sym b.word)
        (word_changed m.words.items c s.word l w (entered (s.word l) (side_of mode)) h.words busy.lock word)) queues
        sleepers
        (thread_changed n
        (record th { «record» = with_value th.record v; wait = wait.Queued; walk = walk; wants = true }) h.threads
        busy.thread (record {
          columns = (λ i.
              record (old.columns i) { its_record = rec.columns i; wait = Queued; walk = walk_of walk; wants = true })
              ∙ sym b.thread;
          one_loan_each = rec.one_loan_each;
          held = old.held;
          marked = old.marked;
        }) b.others)

    -- on a turnstile, with its walk
    module _ {l : ℕ} {mode : Mode} {x : ℕ} (g : MayEnter c ready t l mode x) where
      pub lends : CanLend c ready t l x
      lends = can_lend c ready t l x ready_is_lawful g.waits.thread g.turnstile g.own

      -- what an enter asks of the objects
      pub has_own : IsSome th.record.value.turnstile
      has_own = ap is_some (ap (λ v. v.turnstile) record_ready.columns ∙ g.own)

      pub stands_free : CanStand th.record.value.thread (head_of (lock_queue l) m.chain)
      stands_free =
          subst (λ u. CanStand u (head_of (lock_queue l) m.chain)) (sym (ap (λ v. v.thread) record_ready.columns))
          (can_stand c ready t l x ready_is_lawful queues_ready g.turnstile g.own)

      enters_turnstile : Blocks s (after_enter ready t l mode x) t l mode (walk_up l (owner_of (s.word l).holder))
      unfolding after_enter after_ready
      enters_turnstile = record {
        word = refl;
        history = refl;
        edges = refl;
        others = λ u d i. record (thread_in s u) {
          its_record = record (record_in s u) {
            turnstile = put_other s.turnstile t None u (λ e. d (sym e)) i;
            blocked_on = put_other s.blocked_on t (Some (lock_queue l)) u (λ e. d (sym e)) i;
          };
          wait = put_other s.wait t Queued u (λ e. d (sym e)) i;
          walk = put_other s.walk t (walk_up l (owner_of (s.word l).holder)) u (λ e. d (sym e)) i;
          wants = is_some (put_other s.wanted t (Some l) u (λ e. d (sym e)) i);
        };
        thread = λ i. record (thread_in s t) {
          its_record = record_in (after_enter ready t l mode x) t;
          wait = put_same s.wait t Queued i;
          walk = put_same s.walk t (walk_up l (owner_of (s.word l).holder)) i;
          wants = is_some (put_same s.wanted t (Some l) i);
        };
      }

      pub blocked_on_turnstile : {chain : List (QueueName × Turnstile)} {v : Record} {walk : Walk} {o : Option ℕ}
          (w : ℕ) → IsBusy c s t l → word_of w ≡ entered (s.word l) (side_of mode)
          → RepresentsQueues c chain (queue_in (after_enter ready t l mode x)) (after_enter ready t l mode x).loan_home
          → RepresentsRecord v (record_in (after_enter ready t l mode x) t)
          → o ≡ owner_of (s.word l).holder → walk ≡ hops.walk_up l (is_some o)
          → Represents c (record m {
            words = with_item m.words l w;
            chain = chain;
            threads = with_item m.threads t
                (record th { «record» = with_value th.record v; wait = wait.Queued; walk = walk; wants = true });
          }) (after_enter ready t l mode x)
      blocked_on_turnstile {walk = walk} {o = o} w busy word queues rec owner goes =
          let begins = ap walk_of goes ∙ walk_begins l o ∙ ap (walk_up l) owner in
          blocked walk (after_enter ready t l mode x) w busy
          (subst (Blocks s (after_enter ready t l mode x) t l mode) (sym begins) enters_turnstile) word queues
          (sleepers_stay c ready (after_enter ready t l mode x) (lock_queue l) _
          (enter_changes ready t l mode x) g.turnstile sleepers_ready) rec

    -- on a sleep queue, without
    module _ {l : ℕ} {mode : Mode} {x : ℕ} (g : MayEnterSleep c ready t l mode x) where
      pub sleep_asks : IsSome th.record.value.sleep_queue
          × CanStand th.record.value.thread (head_of (lock_queue l) m.sleepers)
      sleep_asks = (
        has_sleep_queue c ready t x (lock_queue l) ready_is_lawful g.own g.sleeps record_ready,
        sleeps_free c ready t x (lock_queue l) ready_is_lawful g.own g.sleeps record_ready sleepers_ready,
      )

      abbrev slept_on : State
      slept_on = after_enter_sleep ready t l mode x

      enters_sleep : Blocks s slept_on t l mode (s.walk t)
      unfolding after_enter_sleep after_ready
      enters_sleep = record {
        word = refl;
        history = refl;
        edges = refl;
        others = λ u d i. record (thread_in s u) {
          its_record = record (record_in s u) {
            sleep_queue = put_other s.sleep_queue t None u (λ e. d (sym e)) i;
            blocked_on = put_other s.blocked_on t (Some (lock_queue l)) u (λ e. d (sym e)) i;
          };
          wait = put_other s.wait t Queued u (λ e. d (sym e)) i;
          wants = is_some (put_other s.wanted t (Some l) u (λ e. d (sym e)) i);
        };
        thread = λ i. record (thread_in s t) {
          its_record = record_in slept_on t;
          wait = put_same s.wait t Queued i;
          wants = is_some (put_same s.wanted t (Some l) i);
        };
      }

      record_slept : record_in slept_on t ≡ asleep_on (lock_queue l) (record_in ready t)
      unfolding after_enter_sleep after_ready
      record_slept = λ i. record (record_in s t) {
        sleep_queue = put_same s.sleep_queue t None i;
        blocked_on = put_same s.blocked_on t (Some (lock_queue l)) i;
      }

      queues_slept : RepresentsQueues c m.chain (queue_in slept_on) slept_on.loan_home
      unfolding after_enter_sleep
      queues_slept = turnstiles_stay c ready slept_on (lock_queue l) _
          (enter_sleep_changes ready t l mode x) g.sleeps refl refl queues_ready

      pub blocked_on_sleep_queue : {chain : List (QueueName × SleepQueue)} {v : Record} (w : ℕ) → IsBusy c s t l
          → word_of w ≡ entered (s.word l) (side_of mode)
          → FallsAsleep (lock_queue l) (side_of mode) th.record.value m.sleepers chain
          → RecordFallsAsleep (lock_queue l) th.record.value v
          → Represents c (record m {
            words = with_item m.words l w;
            sleepers = chain;
            threads = with_item m.threads t
                (record th { «record» = with_value th.record v; wait = wait.Queued; wants = true });
          }) slept_on
      blocked_on_sleep_queue w busy word falls rec =
          let walks = ap (λ v. v.walk) (h.threads.thread t th at).columns in
          blocked th.walk slept_on w busy
          (subst (Blocks s slept_on t l mode) (sym walks) enters_sleep) word queues_slept
          (asleep c ready t x (lock_queue l) ready_is_lawful g.own g.sleeps record_ready sleepers_ready slept_on
          (side_of mode) (enter_sleep_changes ready t l mode x) falls)
          (subst (RepresentsRecord _) (sym record_slept) (rec (record_in ready t) record_ready))
