-- What a lawful state says of sleep queues, and what the steps of sleepers make of their columns.
use Rattle.lock_objects.proofs.Names
use Names.{ℕ, Bool, true, false, cond, ltb, List, [], map, length, Option, Some, None, refl, sym, ap, subst, arith}
use Names.{length-append, Config, some, Lists, lock_queue, chan_queue, with_kept, side_of, list_of, with_list, insert}
use Names.{head_with, free_with, dealt, taken_off, is_queue, is_turnstile_queue, stands, waiting, side_woken, Mode}
use Names.{Side, X, QueueName, State, put_queue, Lawful, HeadsFitWaiters, after_enter, after_open, after_shift, sleeper}
use Names.{after_enter_sleep, after_open_sleep, after_add, after_wake, after_abort, is_queue_true, put_queue_same}
use Names.{put_queue_other, at_put_queue, standing_named, asleep_out, zero_unless, threads-dealt, objects_enough}
use Names.{Turnstile, SleepQueue, Place, lists_of, all_waiters, Record, head_of, SleepColumns, RepresentsQueues}
use Names.{RepresentsSleepQueue, RepresentsSleepers, RepresentsRecord, queue_in, sleepers_in, record_in, mark_of}
use Names.{CanStand, aborted, IsBalanced, ChangesSleepers, sleeper_of, slept, woken}
use Rattle.std.proofs.Common.{◌≡◌, ◌≢◌, ◌∷◌, ◌∙◌, not}
use Rattle.std.specs.Option.{IfSome}
use Rattle.wait_objects.specs.Seen.{Contents}
use Rattle.lock_objects.proofs.Queues.{queue_stays}

-- 1. A lawful state

module _ (c : Config) (s : State) (q : QueueName) (lawful : Lawful c s) where
  pub balanced : IsBalanced (sleepers_in s q)
  unfolding HeadsFitWaiters
  balanced = let f = lawful.queues.heads_fit_waiters q in assumption f

  -- a thread that has its sleep queue at home sleeps nowhere
  home_awake : (t x : ℕ) → s.sleep_queue t ≡ Some x → is_turnstile_queue c q ≡ false → stands t (s.lists q) ≡ 0
  home_awake t x own k =
      zero_unless (stands t (s.lists q))
      (λ a. let n = asleep_out c s t q lawful (standing_named c s t q lawful a) (ap not k) in
      let f : None ≡ Some x = sym n ∙ own in cc)

  -- somebody stands on an object that shows the queue with a head
  pub somebody_stands : {E : Type 0} (h : Contents E) → s.head q ≡ Some h.number → s.lists q ≡ lists_of h
      → all_waiters h ≢ []
  somebody_stands h e shown z =
      let l = length-append h.exclusive h.shared in
      absurd (omega (arith, balanced.balanced, ap some e, ap waiting shown, l, ap length z))

  module _ {chain : List (QueueName × SleepQueue)} (shows : RepresentsSleepers c chain (sleepers_in s))
      (sleeps : is_turnstile_queue c q ≡ false) where
    -- somebody sleeps where a sleep queue is there
    pub somebody_sleeps : IfSome (head_of q chain) (λ h. all_waiters h.contents ≢ [])
    somebody_sleeps = go (head_of q chain) (shows.queue q sleeps)
      where
        go : (o : Option SleepQueue) → RepresentsSleepQueue o (sleepers_in s q)
            → IfSome o (λ h. all_waiters h.contents ≢ [])
        go None h = tt
        go (Some d) h = somebody_stands d.contents (ap (λ a. a.head) h) (ap (λ a. a.lists) h)

    -- and a thread that has its own at home can sleep there
    pub can_sleep : (t x : ℕ) → s.sleep_queue t ≡ Some x → CanStand t (head_of q chain)
    can_sleep t x own = go (head_of q chain) (shows.queue q sleeps) somebody_sleeps
      where
        go : (o : Option SleepQueue) → RepresentsSleepQueue o (sleepers_in s q)
            → IfSome o (λ h. all_waiters h.contents ≢ []) → CanStand t o
        go None h some_sleep = tt
        go (Some d) h some_sleep =
            (some_sleep, ap (ltb 0) (ap (λ a. stands t a.lists) (sym h) ∙ home_awake t x own sleeps))

  -- those whose marks are those of sleepers that were taken off are these
  pub taken_are : (side : Side) (all : Bool) (ps : List Place)
      → map (mark_of q) ps ≡ dealt q (taken_off all (list_of side (s.lists q))) (s.free_list q) (s.head q)
      → map (λ p. p.thread) ps ≡ map (λ w. w.thread) (taken_off all (list_of side (s.lists q)))
  taken_are side all ps e = sym (go ps) ∙ ap (map (λ m. m.thread)) e ∙ threads-dealt q
      (taken_off all (list_of side (s.lists q))) (s.free_list q) (s.head q) (objects_enough c s q side all lawful)
    where
      go : (xs : List Place) → map (λ m. m.thread) (map (mark_of q) xs) ≡ map (λ p. p.thread) xs
      go [] = refl
      go (x ∷ xs) = ap (λ us. x.thread ∷ us) (go xs)

-- 2. One queue's columns change

pub put_columns : (s : State) (q : QueueName) (v : SleepColumns) (r : QueueName)
    → record {
      head = put_queue s.head q v.head r;
      lists = put_queue s.lists q v.lists r;
      free_list = put_queue s.free_list q v.free_list r;
    } ≡ put_queue (sleepers_in s) q v r
unfolding put_queue
put_columns s q v r = go (is_queue q r)
  where
    go : (b : Bool) → record {
      head = cond b v.head (s.head r);
      lists = cond b v.lists (s.lists r);
      free_list = cond b v.free_list (s.free_list r);
    } ≡ cond b v (sleepers_in s r)
    go true = refl
    go false = refl

module _ (c : Config) (s n : State) (q : QueueName) (v : SleepColumns)
    (changes : (r : QueueName) → sleepers_in n r ≡ put_queue (sleepers_in s) q v r) where
  -- those of a queue of the other kind stay
  others_stay : (r : QueueName) → is_turnstile_queue c r ≢ is_turnstile_queue c q → sleepers_in n r ≡ sleepers_in s r
  others_stay r d = changes r ∙ put_queue_other (sleepers_in s) q v r (go (is_queue q r) refl)
    where
      go : (b : Bool) → is_queue q r ≡ b → b ≡ false
      go true e = absurd (d (ap (is_turnstile_queue c) (sym (is_queue_true q r e))))
      go false e = refl

  -- so the turnstiles show what they showed, where a sleep queue changes,
  pub turnstiles_stay : {chain : List (QueueName × Turnstile)} → is_turnstile_queue c q ≡ false → n.owner ≡ s.owner
      → n.loan_home ≡ s.loan_home
      → RepresentsQueues c chain (queue_in s) s.loan_home → RepresentsQueues c chain (queue_in n) n.loan_home
  turnstiles_stay {chain = chain} k owner home shows = record {
    lock = λ l j. queue_stays (head_of (lock_queue l) chain) {qs = queue_in s} {ns = queue_in n} {q = lock_queue l}
        (record {
          queue = let e = others_stay (lock_queue l) (λ i. let z : true ≡ false = sym j ∙ i ∙ k in cc) in
              λ i. record {
                head = (e i).head;
                lists = (e i).lists;
                free_list = (e i).free_list;
                owner = owner i (lock_queue l);
              };
          loan_home = λ x e. ap (λ (f : ℕ → Bool). f x) home;
        }) (shows.lock l j);
  }

  -- and the sleep queues, where a turnstile changes
  pub sleepers_stay : {chain : List (QueueName × SleepQueue)} → is_turnstile_queue c q ≡ true
      → RepresentsSleepers c chain (sleepers_in s) → RepresentsSleepers c chain (sleepers_in n)
  sleepers_stay {chain = chain} k shows = record {
    queue = λ r j. subst (RepresentsSleepQueue (head_of r chain))
        (sym (others_stay r (λ i. let z : false ≡ true = sym j ∙ i ∙ k in cc))) (shows.queue r j);
  }

-- 3. Steps

-- the sleeper that a record tells of
pub sleeper_is : {r : Record} (s : State) (t : ℕ) → RepresentsRecord r (record_in s t)
    → sleeper_of r ≡ record { thread = t; kept = s.base t }
sleeper_is s t h = λ i. record { thread = (h.columns i).thread; kept = (h.columns i).base }

module _ (s : State) (t l : ℕ) where
  pub enter_sleep_changes : (mode : Mode) (x : ℕ) → ChangesSleepers s (after_enter_sleep s t l mode x) (lock_queue l)
      (slept (side_of mode) x (record { thread = t; kept = s.base t }))
  unfolding after_enter_sleep
  enter_sleep_changes mode x = put_columns s (lock_queue l)
      (slept (side_of mode) x (record { thread = t; kept = s.base t }) (sleepers_in s (lock_queue l)))

  pub shift_changes : (o : ℕ) → ChangesSleepers s (after_shift s t o l) (lock_queue l)
      (λ v. record v { lists = with_kept o (s.effective o) v.lists })
  unfolding after_shift
  shift_changes o =
      let q : QueueName = lock_queue l in
      let ls : Lists = with_kept o (s.effective o) (s.lists q) in
      at_put_queue (λ r v. record (sleepers_in s r) { lists = put_queue s.lists q ls r } ≡ v) (sleepers_in s) q
      (record (sleepers_in s q) { lists = ls })
      (λ i. record (sleepers_in s q) { lists = put_queue_same s.lists q ls i })
      (λ r e i. record (sleepers_in s r) { lists = put_queue_other s.lists q ls r e i })

  pub enter_changes : (mode : Mode) (x : ℕ) → ChangesSleepers s (after_enter s t l mode x) (lock_queue l) (λ v. record {
    head = head_with v.head x;
    lists = with_list (side_of mode)
        (insert (record { thread = t; kept = s.effective t }) (list_of (side_of mode) v.lists)) v.lists;
    free_list = free_with v.head x v.free_list;
  })
  unfolding after_enter
  enter_changes mode x = put_columns s (lock_queue l) _

  pub open_changes : (c : Config)
      → ChangesSleepers s (after_open c s t l) (lock_queue l) (woken true (side_woken (c.kind l) (s.word l)))
  unfolding after_open
  open_changes c =
      put_columns s (lock_queue l) (woken true (side_woken (c.kind l) (s.word l)) (sleepers_in s (lock_queue l)))

  pub open_sleep_changes : (c : Config)
      → ChangesSleepers s (after_open_sleep c s t l) (lock_queue l) (woken true (side_woken (c.kind l) (s.word l)))
  unfolding after_open_sleep
  open_sleep_changes c =
      put_columns s (lock_queue l) (woken true (side_woken (c.kind l) (s.word l)) (sleepers_in s (lock_queue l)))

pub abort_changes : (s : State) (t : ℕ) (q : QueueName) (side : Side) (u : ℕ)
    → ChangesSleepers s (after_abort s t q side u) q (aborted side (sleeper s u))
unfolding after_abort
abort_changes s t q side u = put_columns s q (aborted side (sleeper s u) (sleepers_in s q))

module _ (s : State) (t d : ℕ) where
  pub add_changes : (x : ℕ)
      → ChangesSleepers s (after_add s t d x) (chan_queue d) (slept X x (record { thread = t; kept = s.base t }))
  unfolding after_add
  add_changes x =
      put_columns s (chan_queue d) (slept X x (record { thread = t; kept = s.base t }) (sleepers_in s (chan_queue d)))

  pub wake_changes : (all : Bool) → ChangesSleepers s (after_wake s t d all) (chan_queue d) (woken all X)
  unfolding after_wake
  wake_changes all = put_columns s (chan_queue d) (woken all X (sleepers_in s (chan_queue d)))
