-- The state of a run as plain data: a column for each thing that a lock, a queue, a thread or a table has. Between
-- two steps this is all there is to know. Columns range over all numbers; out of a plan's range they stay as they
-- began.
use Rattle.std.specs.Prelude.{ℕ, Bool, true, false, ◌&&◌, ◌==◌, if◌then◌else◌, List, [], map, reverse, Option, Some, None}
use Rattle.lock_model.specs.Words.{Word, free_word}
use Rattle.lock_model.specs.Config.{Config}
use Rattle.lock_model.specs.Holds.{Hold, NotHeld}
use Rattle.lock_model.specs.Queues.{Cause, Lists, Mark, is_queue}
use Rattle.lock_model.specs.declared.plan.QueueName.{QueueName}
use Rattle.lock_model.specs.declared.event.Entry.{Entry}
use Rattle.lock_model.specs.declared.event.Held.{Held}

-- what a thread's wait word says
pub data Wait : Type 0 where
  Running : Wait
  Queued : Wait
  Woken : QueueName → Cause → Wait

-- where a thread's lending walk stands
pub data Walk : Type 0 where
  NoWalk : Walk
  AtLock : ℕ → Walk
  AtThread : ℕ → Walk

-- a priority that a lock's waiters lend to its owner, with the number of the node that carries it
pub record Loan : Type 0 where
  pub number : ℕ
  pub prio : ℕ

-- what a thread's last look at a lock saw
pub record Look : Type 0 where
  pub lock : ℕ
  pub word : Word

-- what a thread was answered and has yet to note in its log: its order was refused for a held class, or its sleep was
-- ended
pub data Note : Type 0 where
  -- the lock that was wanted, and the held class
  OrderRefused : ℕ → ℕ → Note
  -- the queue on which the thread slept
  SleepHalted : QueueName → Note

-- sleepers that a thread took off a channel and has yet to note in its log
pub record Wake : Type 0 where
  pub chan : ℕ
  pub all : Bool
  pub taken : List ℕ

-- an acquiring round of a running thread: the lock that it seeks, whether it is a try's, and whether the lock's chain
-- was taken in it
pub record Round : Type 0 where
  pub lock : ℕ
  pub by_try : Bool
  pub in_chain : Bool

-- a lock that a thread holds, and whether a try gained it
pub record HeldLock : Type 0 where
  pub lock : ℕ
  pub by_try : Bool

-- held locks as a state lists them, the one gained last first
abbrev pub gained_order : List Held → List HeldLock
gained_order hs = reverse (map (λ h. record { lock = h.l.0; by_try = h.by_try }) hs)

-- Where a thread of a running floor is with its counting. Awake: it is counted among those that are awake. Asleep: it
-- counted itself out, and somebody was left. Last: its counting out left nobody. Halting: it counted itself in after
-- that. Aborting: it has aborted a sleeper since. SelfAborted: one that it aborted and woke was itself
pub data Phase : Type 0 where
  Awake : Phase
  Asleep : Phase
  Last : Phase
  Halting : Phase
  Aborting : Phase
  SelfAborted : Phase

-- whether it is parked: from its counting out until it resumes, or counts itself in
abbrev pub is_parked : Phase → Bool
is_parked Awake = false
is_parked Asleep = true
is_parked Last = true
is_parked Halting = false
is_parked Aborting = false
is_parked SelfAborted = false

-- whether its last counting out left nobody awake, and it hasn't resumed since
abbrev pub found_nobody_awake : Phase → Bool
found_nobody_awake Awake = false
found_nobody_awake Asleep = false
found_nobody_awake Last = true
found_nobody_awake Halting = true
found_nobody_awake Aborting = true
found_nobody_awake SelfAborted = true

-- whether it is a finder: nobody else is awake, until its first abort or its next counting out
abbrev pub is_finder : Phase → Bool
is_finder Awake = false
is_finder Asleep = false
is_finder Last = true
is_finder Halting = true
is_finder Aborting = false
is_finder SelfAborted = false

pub record State : Type 0 where
  -- by lock: its word
  pub word : ℕ → Word
  -- by queue: its lists, its free list, its head and the head's owner. The queues of mutexes and rw locks are
  -- turnstiles, the others sleep queues
  pub lists : QueueName → Lists
  pub free_list : QueueName → List ℕ
  pub head : QueueName → Option ℕ
  pub owner : QueueName → Option ℕ
  -- by thread: its record
  pub base : ℕ → ℕ
  pub effective : ℕ → ℕ
  pub turnstile : ℕ → Option ℕ
  pub sleep_queue : ℕ → Option ℕ
  pub loan : ℕ → ℕ → Option Loan
  pub blocked_on : ℕ → Option QueueName
  -- by turnstile: whether its loan node is at home
  pub loan_home : ℕ → Bool
  -- by thread: its wait word
  pub wait : ℕ → Wait
  -- by thread: its share
  pub held : ℕ → ℕ → Hold
  -- the locks that it holds, the one gained last first
  pub held_locks : ℕ → List HeldLock
  pub wanted : ℕ → Option ℕ
  -- the lock of a take that was admitted, or sought in a blocking call's round, or of a wait from which it was woken,
  -- whose entry is still to come
  pub taking : ℕ → Option ℕ
  pub called : ℕ → Option ℕ
  pub walk : ℕ → Walk
  pub marked : ℕ → List Mark
  -- the looks of its call, or of its round, that count
  pub looks : ℕ → ℕ
  pub looks_in_all : ℕ → ℕ
  pub last_look : ℕ → Option Look
  -- what it saw last since it took or gave back a chain
  pub seen_in_section : ℕ → Option Look
  -- the acquiring round under way
  pub round : ℕ → Option Round
  pub noted : ℕ → Option Note
  -- the channel from which it was woken by a signal since its last entry
  pub woken_from : ℕ → Option ℕ
  pub unstamped : ℕ → Option Wake
  pub counted_out : ℕ → ℕ
  pub counted_in : ℕ → ℕ → ℕ
  -- whom it counted in and has yet to wake
  pub counting : ℕ → Option ℕ
  pub phase : ℕ → Phase
  pub has_ended : ℕ → Bool
  -- its log, the newest entry first
  pub log : ℕ → List Entry
  -- by thread and lock: whether a section of the lock began in the log since the thread gained it
  pub has_begun : ℕ → ℕ → Bool
  -- what is out, each by the thread that has it: turnstile chains, sleep chains, records, table cells and the class
  -- graph
  pub turnstile_chain_with : ℕ → Option ℕ
  pub sleep_chain_with : ℕ → Option ℕ
  pub record_with : ℕ → Option ℕ
  pub cell_with : ℕ → ℕ → Option ℕ
  pub graph_with : Option ℕ
  -- by lock and key: its table
  pub table : ℕ → ℕ → Option ℕ
  -- the next ticket, and the entries of all logs, the newest first
  pub next : ℕ
  pub history : List Entry
  -- the edges of the class graph, the awake and the ended count, and the halt word
  pub edges : List (ℕ × ℕ)
  pub awake : ℕ
  pub ended : ℕ
  pub halted : Bool
  -- the next ticket at the moment at which the halt word was set
  pub halted_at : ℕ

-- the column f with v at the place i
unfoldable pub put : {A : Type 0} → (ℕ → A) → ℕ → A → ℕ → A
put f i v j = if i == j then v else f j

-- the same for a column with two places
unfoldable pub put_at : {A : Type 0} → (ℕ → ℕ → A) → ℕ → ℕ → A → ℕ → ℕ → A
put_at f i k v j l = if (i == j) && (k == l) then v else f j l

-- the same for a column by queue
unfoldable pub put_queue : {A : Type 0} → (QueueName → A) → QueueName → A → QueueName → A
put_queue f q v r = if is_queue q r then v else f r

-- how a run of a plan begins: every object at home, all locks free, all threads running and awake, no entry and empty
-- tables
unfoldable pub start_state : Config → State
start_state c = record {
  word = λ l. free_word;
  lists = λ q. record { exclusive = []; shared = [] };
  free_list = λ q. [];
  head = λ q. None;
  owner = λ q. None;
  base = c.declared_base;
  effective = c.declared_base;
  turnstile = λ t. Some t;
  sleep_queue = λ t. Some t;
  loan = λ t l. None;
  blocked_on = λ t. None;
  loan_home = λ n. true;
  wait = λ t. Running;
  held = λ t l. NotHeld;
  held_locks = λ t. [];
  wanted = λ t. None;
  taking = λ t. None;
  called = λ t. None;
  walk = λ t. NoWalk;
  marked = λ t. [];
  looks = λ t. 0;
  looks_in_all = λ t. 0;
  last_look = λ t. None;
  seen_in_section = λ t. None;
  round = λ t. None;
  noted = λ t. None;
  woken_from = λ t. None;
  unstamped = λ t. None;
  counted_out = λ t. 0;
  counted_in = λ t u. 0;
  counting = λ t. None;
  phase = λ t. Awake;
  has_ended = λ t. false;
  log = λ t. [];
  has_begun = λ t l. false;
  turnstile_chain_with = λ k. None;
  sleep_chain_with = λ k. None;
  record_with = λ t. None;
  cell_with = λ l k. None;
  graph_with = None;
  table = λ l k. None;
  next = 0;
  history = [];
  edges = [];
  awake = c.threads;
  ended = 0;
  halted = false;
  halted_at = 0;
}
