-- What is printed of a machine is what the run that it shows leaves to be printed.
use Rattle.step_world.proofs.Names
use Names.{ℕ, suc, true, List, [], length, map, flat_map, slice_get, Option, Some, None, IfSome, refl, ap, sym, inl}
use Names.{inr, arith, range_with_len, cases_Bool, Lawful, HeadsFitWaiters, config_of, lock_queue, chan_queue}
use Names.{is_turnstile_queue, waiting, Run, line_of_queue, queue_lines, threads_of, Config, State, is_turnstile, Plan}
use Names.{QueueName, Lock, Chan, few_wait, Contents, lists_of, Turnstile, SleepQueue, head_of, Machine, Thread}
use Names.{line_at, line_of_lock, lines_of, finals_of, IsShort, HasShortQueues, RepresentsRun, RepresentsQueue}
use Names.{RepresentsSleepQueue, queue_in, sleepers_in}
use Rattle.std.proofs.Common.{◌≡◌, ◌+◌, ◌%◌, ◌≤◌, ◌∷◌, ◌++◌, ◌∙◌}

-- 1. Queues

-- the line of a queue is that of the turnstile that is lent to its lock,
turnstile_line : (chains : ℕ) (s : State) (q : QueueName) (n : ℕ) (o : Option Turnstile)
    → RepresentsQueue o (queue_in s q) s.loan_home → line_at q (n % chains) o ≡ line_of_queue chains s q n (s.head q)
turnstile_line chains s q n e h = grind arith

-- or of the sleep queue that is lent to the lock or channel
sleepers_line : (chains : ℕ) (s : State) (q : QueueName) (n : ℕ) (o : Option SleepQueue)
    → RepresentsSleepQueue o (sleepers_in s q) → line_at q (n % chains) o ≡ line_of_queue chains s q n (s.head q)
sleepers_line chains s q n e h = grind arith

module _ (plan : Plan) (chains : ℕ) (m : Machine) (r : Run) (h : RepresentsRun plan m r) where
  abbrev c : Config
  c = config_of plan

  -- the kind of a lock says which of the two
  lock_line : (l : ℕ)
      → line_of_lock chains m (c.kind l) l ≡ line_of_queue chains r.state (lock_queue l) l (r.state.head (lock_queue l))
  lock_line l = grind arith

  channel_line : (d : ℕ) → line_at (chan_queue d) (d % chains) (head_of (chan_queue d) m.sleepers)
      ≡ line_of_queue chains r.state (chan_queue d) d (r.state.head (chan_queue d))
  channel_line d = sleepers_line chains r.state (chan_queue d) d (head_of (chan_queue d) m.sleepers)
      (h.shows.sleepers.queue (chan_queue d) refl)

  pub lines_are : lines_of chains c m ≡ queue_lines chains c r.state
  lines_are = λ i. flat_map (λ l. lock_line l i) (range_with_len 0 c.locks)
      ++ flat_map (λ d. channel_line d i) (range_with_len 0 c.chans)

-- 2. Priorities

-- what the items of a list say, by their numbers from a on
by_number : {A : Type 0} (xs : List Thread) (f : Thread → A) (g : ℕ → A) (a : ℕ)
    → ((t : ℕ) (x : Thread) → slice_get xs t ≡ Some x → f x ≡ g (a + t))
    → map f xs ≡ map g (range_with_len a (length xs))
by_number [] f g a same = refl
by_number (x ∷ xs) f g a same =
    let first : f x ≡ g a = same 0 x refl ∙ ap g (omega arith) in
    let others = by_number xs f g (a + 1) (λ t y e. same (suc t) y e ∙ ap g (omega arith)) in
    ap (λ y. y ∷ map f xs) first ∙ ap (λ ys. g a ∷ ys) others

pub finals_are : (plan : Plan) (m : Machine) (r : Run) → RepresentsRun plan m r
    → finals_of m ≡ map (λ t. (r.state.base t, r.state.effective t)) (threads_of plan)
finals_are plan m r h =
    let pair : ℕ → ℕ × ℕ = λ t. (r.state.base t, r.state.effective t) in
    by_number m.threads.items (λ th. (th.record.value.base, th.record.value.effective)) pair 0
    (λ t th e. let shown = h.shows.threads.thread t th e in rw (
      ap (λ x. x.its_record.base) shown.columns,
      ap (λ x. x.its_record.effective) shown.columns,
    ) (ap pair (omega arith)))
    ∙ ap (λ (n : ℕ). map pair (range_with_len 0 n)) h.shows.threads.threads

-- 3. Lengths

-- where few wait on a queue, its object's lists are short, and its free list is shorter than both
short_is : {E : Type 0} {c : Config} {s : State} (q : QueueName) (h : Contents E) → Lawful c s → c.threads ≤ 32
    → s.lists q ≡ lists_of h → s.free_list q ≡ h.free → IsShort h
unfolding HeadsFitWaiters
short_is {c = c} {s = s} q h lawful few lists free =
    let fits = (lawful.queues.heads_fit_waiters q).balanced in
    let both : length h.exclusive + length h.shared
    ≤ 32 = rw lists at (let n : waiting (s.lists q) ≤ 32 = omega (arith, few_wait c s lawful q, few) in n) in
    let spare : length (s.free_list q) ≤ 32 = omega (arith, fits, few_wait c s lawful q, few) in
    let its_free : length h.free ≤ 32 = rw free at spare in
    record { exclusive = omega (arith, both); shared = omega (arith, both); free = omega (arith, its_free) }

module _ (plan : Plan) (m : Machine) (r : Run) (h : RepresentsRun plan m r)
    (lawful : Lawful (config_of plan) r.state) where
  of_turnstile : (q : QueueName) (o : Option Turnstile) → RepresentsQueue o (queue_in r.state q) r.state.loan_home
      → IfSome o (λ t. IsShort t.contents)
  of_turnstile q None shown = tt
  of_turnstile q (Some t) shown = short_is q t.contents lawful h.shows.within.few_threads
      (ap (λ v. v.lists) shown.queue) (ap (λ v. v.free_list) shown.queue)

  of_sleep_queue : (q : QueueName) (o : Option SleepQueue) → RepresentsSleepQueue o (sleepers_in r.state q)
      → IfSome o (λ t. IsShort t.contents)
  of_sleep_queue q None shown = tt
  of_sleep_queue q (Some t) shown =
      short_is q t.contents lawful h.shows.within.few_threads (ap (λ v. v.lists) shown) (ap (λ v. v.free_list) shown)

  at_turnstile : (q : QueueName) → is_turnstile_queue (config_of plan) q ≡ true
      → IfSome (head_of q m.chain) (λ t. IsShort t.contents)
  at_turnstile (Lock l) e = of_turnstile (Lock l) (head_of (Lock l) m.chain) (h.shows.queues.lock l.0 e)
  at_turnstile (Chan d) e = absurd cc

  pub all_short : HasShortQueues (config_of plan) m
  all_short = record {
    turnstiles = at_turnstile;
    sleep_queues = λ q e. of_sleep_queue q (head_of q m.sleepers) (h.shows.sleepers.queue q e);
  }
