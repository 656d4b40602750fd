-- Those who stand on a queue are taken off it: waiters of a lock by its last holder's release, and sleepers of a
-- channel by a wake.
use Rattle.step_machine.proofs.Names
use Names.{ℕ, Bool, true, false, cond, List, map, slice_get, Option, Some, None, IsSome, refl, sym, ap, subst, arith}
use Names.{All, with_item, vec_capacity, with_value, Config, NotHeld, hold_in, without_lock, Mark, BySignal, lock_queue}
use Names.{chan_queue, is_turnstile_queue, list_of, dealt, taken_off, Holder, Free, HeldBy, SharedBy, word_of, is_free}
use Names.{is_turnstile, without_one, opened, side_opened, side_woken, Kind, Mode, Side, X, QueueName, State, put}
use Names.{put_at, Lawful, MayMake, Opens, OpensSleepQueue, effective_of, bits_of_threads, IsLastHolder, MayOpen}
use Names.{after_open, MayOpenSleep, MayWake, after_open_sleep, after_wake, put_same, put_other, put_at_other, few_bits}
use Names.{IsHeldIn, Turnstile, SleepQueue, Place, Record, holds_of, places_of, cause_in, AreOfKind, Marked, Waiters}
use Names.{Sleepers, RepresentsQueues, RepresentsSleepers, RepresentsRecord, queue_in, sleepers_in, record_in, mark_of}
use Names.{IsBalanced, ChangesSleepers, woken, once_without, column_without, balanced, taken_are, turnstiles_stay}
use Names.{sleepers_stay, open_changes, open_sleep_changes, wake_changes, Machine, Thread, Represents, RepresentsWords}
use Names.{thread_in, thread_of, opens, mode_left, progress_of, with_released}
use Rattle.std.proofs.Common.{◌≡◌, ◌≤◌, ◌<◌, ◌^◌, ◌∙◌}
use Rattle.step_machine.proofs.Kit.{OthersStay, thread_changed, word_changed, record_of, shown_by}
use Rattle.step_machine.proofs.Holding.{is_held}

-- 1. Sleepers are taken off the queue of an sx lock or of a channel

-- what the call makes of the chain, in every state that this shows, and whom it takes
abbrev pub TakesOff : QueueName → Side → Bool → List (QueueName × SleepQueue) → List (QueueName × SleepQueue) → Type 0
TakesOff q side all chain then = (c : Config) (s n : State) → is_turnstile_queue c q ≡ false
    → IsBalanced (sleepers_in s q) → ChangesSleepers s n q (woken all side)
    → RepresentsSleepers c chain (sleepers_in s) → RepresentsSleepers c then (sleepers_in n)

abbrev pub AreDealt : QueueName → List Mark → List Place → Type 0
AreDealt q ms ps = (map (mark_of q) ps ≡ ms) × All (λ p. IsSome p.object) ps

abbrev pub Takes : QueueName → Side → Bool → List (QueueName × SleepQueue) → List Place → Type 0
Takes q side all chain ps = (c : Config) (s : State) → is_turnstile_queue c q ≡ false → IsBalanced (sleepers_in s q)
    → RepresentsSleepers c chain (sleepers_in s)
    → AreDealt q (dealt q (taken_off all (list_of side (s.lists q))) (s.free_list q) (s.head q)) ps

-- 2. A wake of a channel

module _ {m : Machine} {c : Config} {s : State} (d : ℕ) (all : Bool) (h : Represents c m s) (lawful : Lawful c s) where
  abbrev q : QueueName
  q = chan_queue d

  -- whom it takes
  pub woken_are : (ps : List Place) → Takes q X all m.sleepers ps
      → map (λ p. p.thread) ps ≡ map (λ w. w.thread) (taken_off all (s.lists q).exclusive)
  woken_are ps takes = taken_are c s q lawful X all ps (takes c s refl (balanced c s q lawful) h.sleepers).0

  pub bits_fit : (ps : List Place) → Takes q X all m.sleepers ps → bits_of_threads (map (λ p. p.thread) ps) < 2 ^ 64
  bits_fit ps takes = subst (λ us. bits_of_threads us < 2 ^ 64) (sym (woken_are ps takes))
      (few_bits c s q X all lawful (omega (arith, h.within.few_threads)))

  module _ {t : ℕ} (g : MayWake c s t d all) {th : Thread} (at : slice_get m.threads.items t ≡ Some th) where
    abbrev after : State
    after = after_wake s t d all

    wake_others : OthersStay s after t
    unfolding after_wake
    wake_others u e = λ i. record (thread_in s u) {
      marked = put_other s.marked t (dealt q (taken_off all (s.lists q).exclusive) (s.free_list q) (s.head q)) u
          (λ j. e (sym j)) i;
    }

    pub woken_shown : {chain : List (QueueName × SleepQueue)} (ps : List Place) → TakesOff q X all m.sleepers chain
        → Takes q X all m.sleepers ps
        → Represents c (record m {
          sleepers = chain;
          threads = with_item m.threads t (record th { marked = Sleepers ps; marked_from = q });
        }) after
    unfolding after_wake
    woken_shown ps falls takes =
        let old = h.threads.thread t th at in
        let b = balanced c s q lawful in
        let marks = takes c s refl b h.sleepers in
        shown_by after h refl refl h.words
        (turnstiles_stay c s after q _ (wake_changes s t d all) refl refl refl h.queues)
        (falls c s after refl b (wake_changes s t d all) h.sleepers)
        (thread_changed after (record th { marked = Sleepers ps; marked_from = q }) h.threads g.thread (record {
          columns = λ i. record (old.columns i) {
            marked = (marks.0 ∙ sym
                (put_same s.marked t (dealt q (taken_off all (s.lists q).exclusive) (s.free_list q) (s.head q)))) i;
          };
          one_loan_each = old.one_loan_each;
          held = old.held;
          marked = record { filled = marks.1; kind = λ _. refl; by_signal = λ _. refl };
        }) wake_others)

-- 3. A release by the last holder

-- what it makes of the columns of which the queue's kind tells nothing
record Opened (c : Config) (s n : State) (t l : ℕ) : Type 0 where
  word : n.word ≡ put s.word l (opened (c.kind l) (s.word l))
  history : n.history ≡ s.history
  edges : n.edges ≡ s.edges
  others : OthersStay s n t
  thread : thread_in n t
      ≡ record (thread_in s t) { its_record = record_in n t; held = put_at s.held t l NotHeld t; marked = n.marked t }

module _ (c : Config) (s : State) (t l : ℕ) (mode : Mode) (kind : Kind) where
  -- what it asks on either kind of queue
  pub releases : MayMake c s (opens kind t l mode) → IsLastHolder c s t l mode
  releases = go (is_turnstile kind)
    where
      go : (b : Bool) → MayMake c s (cond b (Opens t l mode) (OpensSleepQueue t l mode)) → IsLastHolder c s t l mode
      go true g = g.releases
      go false g = g.releases

pub by_turnstile : (t l : ℕ) (mode : Mode) (kind : Kind) → is_turnstile kind ≡ true
    → opens kind t l mode ≡ Opens t l mode
by_turnstile t l mode kind k = ap (λ b. cond b (Opens t l mode) (OpensSleepQueue t l mode)) k

pub by_sleep_queue : (t l : ℕ) (mode : Mode) (kind : Kind) → is_turnstile kind ≡ false
    → opens kind t l mode ≡ OpensSleepQueue t l mode
by_sleep_queue t l mode kind k = ap (λ b. cond b (Opens t l mode) (OpensSleepQueue t l mode)) k

-- a word that is held isn't free
held_busy : (x : Holder) (mode : Mode) → IsHeldIn x mode → is_free x ≡ false
held_busy f mode e = grind arith

module _ {c : Config} {s : State} {t l : ℕ} {mode : Mode} {kind : Kind} (lawful : Lawful c s)
    (g : IsLastHolder c s t l mode) (its_kind : kind ≡ c.kind l) (w : ℕ) (read : word_of w ≡ s.word l) where
  -- the word that is read
  pub word_last : is_free (without_one (word_of w).holder) ≡ true
  word_last = ap (λ v. is_free (without_one v.holder)) read ∙ g.last

  pub word_held : is_free (word_of w).holder ≡ false
  word_held = ap (λ v. is_free v.holder) read
      ∙ held_busy (s.word l).holder mode (is_held c s t l mode lawful g.thread g.held)

  pub word_opens : (v : ℕ) → word_of v ≡ opened kind (word_of w) → word_of v ≡ opened (c.kind l) (s.word l)
  word_opens v is = is ∙ (λ i. opened (its_kind i) (read i))

  -- the side that is woken
  pub side_is : {o : Option Side} → o ≡ side_opened kind (word_of w) → o ≡ Some (side_woken (c.kind l) (s.word l))
  side_is is = is ∙ (λ i. side_opened (its_kind i) (read i))
      ∙ ap (λ b. cond b (Some (side_woken (c.kind l) (s.word l))) None) g.shown

-- what the thread becomes by putting the lock down
pub record PutsDown (l : ℕ) (th p : Thread) : Type 0 where
  pub same : p ≡ record th { held = p.held; left = p.left }
  pub items : p.held.items ≡ without_lock l th.held.items
  pub room : vec_capacity p.held ≡ vec_capacity th.held

-- and what no column tells
pub put_down_progress : (l : ℕ) (th : Thread) {p : Thread} → p ≡ record th { held = p.held; left = p.left }
    → p.held.items ≡ without_lock l th.held.items → p.left ≡ mode_left (hold_in th.held.items l) th.left
    → progress_of p ≡ with_released l (progress_of th)
put_down_progress l th same items left = ap progress_of same
    ∙ (λ i. record { next_op = th.next_op; held = items i; left = left i })

module _ {m : Machine} {c : Config} {s : State} {t : ℕ} (h : Represents c m s) {th : Thread}
    (at : slice_get m.threads.items t ≡ Some th) where
  released : {l : ℕ} {mode : Mode} {chain : List (QueueName × Turnstile)} {sleepers : List (QueueName × SleepQueue)}
      {r : Record} {p : Thread} (n : State) (marked : Marked) (v : ℕ) → IsLastHolder c s t l mode → Opened c s n t l
      → word_of v ≡ opened (c.kind l) (s.word l) → RepresentsQueues c chain (queue_in n) n.loan_home
      → RepresentsSleepers c sleepers (sleepers_in n) → RepresentsRecord r (record_in n t)
      → AreDealt (lock_queue l) (n.marked t) (places_of marked) → AreOfKind c marked (lock_queue l)
      → cause_in marked ≡ BySignal → PutsDown l th p
      → Represents c (record m {
        words = with_item m.words l v;
        chain = chain;
        sleepers = sleepers;
        threads = with_item m.threads t
            (record p { «record» = with_value p.record r; marked = marked; marked_from = lock_queue l });
      }) n
  released {l = l} {r = r} {p = p} n marked v g o word queues sleepers rec marks of_kind signal down =
      let old = h.threads.thread t th at in
      shown_by n h o.history o.edges (subst (RepresentsWords (with_item m.words l v).items c) (sym o.word)
      (word_changed m.words.items c s.word l v (opened (c.kind l) (s.word l)) h.words g.lock word)) queues sleepers
      (thread_changed n (record p { «record» = with_value p.record r; marked = marked; marked_from = lock_queue l })
      h.threads g.thread (record {
        columns =
            (λ i. record ((ap thread_of down.same ∙ (λ j. record (old.columns j) { held = hold_in p.held.items })) i) {
              its_record = rec.columns i;
              held = λ k. (ap (λ hs. hold_in hs k) down.items
                  ∙ column_without s.held t l th.held.items old.held.once (λ j. ap (λ x. x.held j) old.columns) k) i;
              marked = marks.0 i;
            }) ∙ sym o.thread;
        one_loan_each = rec.one_loan_each;
        held = record {
          once = λ k. subst (λ hs. holds_of k hs ≤ 1) (sym down.items) (once_without l th.held.items old.held.once k);
          room = subst (λ i. 8 ≤ i) (sym down.room) old.held.room;
        };
        marked = record { filled = marks.1; kind = of_kind; by_signal = λ _. signal };
      }) o.others)

  -- on a turnstile
  module _ {l : ℕ} {mode : Mode} (g : MayOpen c s t l mode) where
    opens_turnstile : Opened c s (after_open c s t l) t l
    unfolding after_open
    opens_turnstile = record {
      word = refl;
      history = refl;
      edges = refl;
      others = λ u d i. record (thread_in s u) {
        its_record = record (record_in s u) {
          effective = put_other s.effective t (effective_of c (put (s.loan t) l None) (s.base t)) u (λ e. d (sym e)) i;
          loan = λ k. put_at_other s.loan t l None u k (λ e. d (sym e)) i;
        };
        held = λ k. put_at_other s.held t l NotHeld u k (λ e. d (sym e)) i;
        marked = put_other s.marked t
            (dealt (lock_queue l) (list_of (side_woken (c.kind l) (s.word l)) (s.lists (lock_queue l)))
            (s.free_list (lock_queue l)) (s.head (lock_queue l))) u (λ e. d (sym e)) i;
      };
      thread = refl;
    }

    pub turnstile_opened : {chain : List (QueueName × Turnstile)} {r : Record} {p : Thread} (ps : List Place) (v : ℕ)
        → IsLastHolder c s t l mode → word_of v ≡ opened (c.kind l) (s.word l)
        → RepresentsQueues c chain (queue_in (after_open c s t l)) (after_open c s t l).loan_home
        → RepresentsRecord r (record_in (after_open c s t l) t)
        → AreDealt (lock_queue l) ((after_open c s t l).marked t) ps → PutsDown l th p
        → Represents c (record m {
          words = with_item m.words l v;
          chain = chain;
          threads = with_item m.threads t
              (record p { «record» = with_value p.record r; marked = Waiters ps; marked_from = lock_queue l });
        }) (after_open c s t l)
    turnstile_opened ps v rel word queues rec marks down =
        released (after_open c s t l) (Waiters ps) v rel opens_turnstile word queues
        (sleepers_stay c s (after_open c s t l) (lock_queue l) _ (open_changes s t l c) g.turnstile h.sleepers) rec
        marks (λ _. g.turnstile) refl down

  -- on a sleep queue
  module _ {l : ℕ} {mode : Mode} (lawful : Lawful c s) (g : MayOpenSleep c s t l mode) where
    abbrev side : Side
    side = side_woken (c.kind l) (s.word l)

    abbrev n : State
    n = after_open_sleep c s t l

    abbrev marks : List Mark
    marks = dealt (lock_queue l) (list_of side (s.lists (lock_queue l))) (s.free_list (lock_queue l))
        (s.head (lock_queue l))

    opens_sleep : Opened c s n t l
    unfolding after_open_sleep
    opens_sleep = record {
      word = refl;
      history = refl;
      edges = refl;
      others = λ u d i. record (thread_in s u) {
        held = λ k. put_at_other s.held t l NotHeld u k (λ e. d (sym e)) i;
        marked = put_other s.marked t marks u (λ e. d (sym e)) i;
      };
      thread = refl;
    }

    record_stays : record_in n t ≡ record_in s t
    unfolding after_open_sleep
    record_stays = refl

    queues_open : RepresentsQueues c m.chain (queue_in n) n.loan_home
    unfolding after_open_sleep
    queues_open = turnstiles_stay c s n (lock_queue l) _ (open_sleep_changes s t l c) g.sleeps refl refl h.queues

    marks_are : n.marked t ≡ marks
    unfolding after_open_sleep
    marks_are = put_same s.marked t marks

    pub sleep_queue_opened : {chain : List (QueueName × SleepQueue)} {p : Thread} (ps : List Place) (v : ℕ)
        → IsLastHolder c s t l mode → word_of v ≡ opened (c.kind l) (s.word l)
        → TakesOff (lock_queue l) side true m.sleepers chain → Takes (lock_queue l) side true m.sleepers ps
        → p.record.value ≡ th.record.value → PutsDown l th p
        → Represents c (record m {
          words = with_item m.words l v;
          sleepers = chain;
          threads = with_item m.threads t (record p { marked = Sleepers ps; marked_from = lock_queue l });
        }) n
    sleep_queue_opened {p = p} ps v rel word off takes rec down =
        let b = balanced c s (lock_queue l) lawful in
        released n (Sleepers ps) v rel opens_sleep word queues_open
        (off c s n g.sleeps b (open_sleep_changes s t l c) h.sleepers)
        (subst (λ (r : Record). RepresentsRecord r (record_in n t)) (sym rec)
        (subst (RepresentsRecord th.record.value) (sym record_stays) (record_of (h.threads.thread t th at))))
        (subst (λ ms. AreDealt (lock_queue l) ms ps) (sym marks_are) (takes c s g.sleeps b h.sleepers))
        (λ _. g.sleeps) refl down
