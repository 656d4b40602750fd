-- Which state of `lock_state` a floor's table represents: its words, what is at home and what is out, and what its
-- seats know. Each column of the state is pinned: `state_from` shows that a state has no others.
use Rattle.std.specs.Prelude.{◌≡◌, ◌≢◌, ◌⊎◌, ℕ, suc, ◌+◌, ◌^◌, ◌<◌, ◌≤◌, Bool, true, ◌==◌, List, [], ◌∷◌, length, slice_index_or, Option, Some, None}
use Rattle.std.specs.List.{All, IsDistinct, list_any}
use Rattle.std.specs.Map.{keys_of}
use Rattle.atomic_table.specs.Table as table
use Rattle.floor_table.specs.Descriptions.{config_in, IsSized}
use Rattle.lock_model.specs.Counts.{one}
use Rattle.lock_model.specs.Queues.{Cause, BySignal, ByAbort, is_queue}
use Rattle.lock_model.specs.Words.{Word, word_of}
use Rattle.floor_table.specs.declared.description.Description.{Description}
use Rattle.lock_model.specs.declared.plan.QueueName.{QueueName}
use Rattle.lock_model.specs.declared.event.Entry.{Entry}
use Rattle.lock_state.specs.State.{State, Wait, Running, Queued, Woken}
use Rattle.lock_state.specs.Steps.{chain_of_queue}
use Rattle.lock_state.specs.Steps.Items.{Item, TurnstileChain, SleepChain, RecordOf, CellOf, ClassGraph, item_with}
use Rattle.turnstile_core.specs.Seen.{Turnstile}
use Rattle.sleep_queues.specs.Seen.{SleepQueue}
use Rattle.chain_table.specs.Chains.{head_of}
use Rattle.witness_orders.specs.Graph.{RepresentsGraph}
use Rattle.lock_objects.specs.Held.{holds_of}
use Rattle.lock_objects.specs.Represents.{QueueColumns, queue_in, RepresentsQueue, SleepColumns, RepresentsSleepQueue, RecordColumns, RepresentsRecord, record_in}
use Rattle.floor_table.specs.declared.slot.Slot.{Slot}
use Rattle.floor_table.specs.declared.slot.Slot.TheVariants.{Record, Cell, Turnstiles, SleepQueues, Graph}
use Rattle.floor_table.specs.Places.{lock_word, wait_word, latch_word, word_at, ticket_line, awake_line, ended_line, halt_line, words_for, slots_for, slot_of, taker, home_at}
use Rattle.floor_table.specs.Shares.{Share, ShareColumns, columns_of, share_in, start_share}
use Rattle.floor_table.specs.Shelves.{Shelves}
use Rattle.floor_table.specs.Views.{Role, OfKeeper, OfThread, OfNobody, Pose, Runs, IsReady, StandsOn, Knowledge, nothing}

abbrev pub Board : Type 0
Board = table.State Slot Knowledge

-- 1. Words

-- what the columns say of words
pub record WordColumns : Type 0 where
  pub word : ℕ → Word
  pub wait : ℕ → Wait
  pub next : ℕ
  pub awake : ℕ
  pub ended : ℕ
  pub halted : Bool

-- those of a state
abbrev pub words_in : State → WordColumns
words_in s = record {
  word = s.word;
  wait = s.wait;
  next = s.next;
  awake = s.awake;
  ended = s.ended;
  halted = s.halted;
}

-- A wait word says that its thread runs, that it is Queued, or that it was woken, by a signal or by an abort. Off
-- which queue it was woken, its own seat knows. Queued alone is odd, so that to keep the last bit of a word makes one
-- that says woken say that its thread runs, and leaves the others
abbrev pub wait_number : Wait → ℕ
wait_number Running = 0
wait_number Queued = 1
wait_number (Woken q BySignal) = 2
wait_number (Woken q ByAbort) = 4

-- each word says what the columns say; the halt word is 1 where they say that there was a halt
pub record RepresentsWords (floor : Description) (words : List ℕ) (x : WordColumns) : Type 0 where
  pub locks : (l : ℕ) → l < length floor.locks → word_of (lock_word words l) ≡ x.word l
  pub waits : (t : ℕ) → t < length floor.threads → wait_word words t ≡ wait_number (x.wait t)
  pub ticket : word_at words ticket_line ≡ x.next
  pub awake : word_at words awake_line ≡ x.awake
  pub ended : word_at words ended_line ≡ x.ended
  pub halted : word_at words halt_line ≡ one x.halted

-- the thread that has the value of a place
abbrev pub taken_from : (ℕ → ℕ) → Option ℕ → Option ℕ
taken_from latch None = None
taken_from latch (Some j) = taker (latch j)

-- an item is out with the thread that its latch names
unfoldable pub RepresentsLatches : Description → (ℕ → ℕ) → (Item → Option ℕ) → Type 0
RepresentsLatches floor latch out = (i : Item) → out i ≡ taken_from latch (slot_of floor i)

-- 2. Values behind latches

-- what the columns say of them
pub record Objects : Type 0 where
  pub record_of : ℕ → RecordColumns
  pub table : ℕ → ℕ → Option ℕ
  pub queues : QueueName → QueueColumns
  pub loan_home : ℕ → Bool
  pub edges : List (ℕ × ℕ)

abbrev pub objects_in : State → Objects
objects_in s = record {
  record_of = record_in s;
  table = s.table;
  queues = queue_in s;
  loan_home = s.loan_home;
  edges = s.edges;
}

-- what the columns say of a queue, as a sleep queue
abbrev pub sleepers : QueueColumns → SleepColumns
sleepers x = record { head = x.head; lists = x.lists; free_list = x.free_list }

-- the queue stands in the chain: the lock's or the channel's number, by the number of chains, gives its chain's
abbrev pub StandsIn : Description → Item → QueueName → Type 0
StandsIn floor i q = chain_of_queue floor.chains (config_in floor) q ≡ i

-- the names of a chain differ, and each is that of a queue which stands there
pub record HasNames {H : Type 0} (floor : Description) (i : Item) (chain : List (QueueName × H))
    : Type 0 where
  pub distinct : IsDistinct is_queue (keys_of chain)
  pub own : All (λ e. StandsIn floor i e.0) chain

-- the k-th chain of turnstiles says of each queue that stands there what the columns say
pub record RepresentsTurnstiles (floor : Description) (k : ℕ)
    (chain : List (QueueName × Turnstile)) (x : Objects) : Type 0 where
  pub names : HasNames floor (TurnstileChain k) chain
  pub queue : (q : QueueName) → StandsIn floor (TurnstileChain k) q
      → RepresentsQueue (head_of q chain) (x.queues q) x.loan_home

-- the same of the k-th chain of sleep queues
pub record RepresentsSleepChain (floor : Description) (k : ℕ)
    (chain : List (QueueName × SleepQueue)) (x : Objects) : Type 0 where
  pub names : HasNames floor (SleepChain k) chain
  pub queue : (q : QueueName) → StandsIn floor (SleepChain k) q
      → RepresentsSleepQueue (head_of q chain) (sleepers (x.queues q))

-- A value says of its item what the columns say. The cases are listed, so that a value of another sort must be decided
-- here
abbrev pub IsOf : Description → Objects → Item → Slot → Type 0
IsOf floor x (TurnstileChain k) (Record b) = ⊥
IsOf floor x (TurnstileChain k) (Cell value) = ⊥
IsOf floor x (TurnstileChain k) (Turnstiles chain) = RepresentsTurnstiles floor k chain x
IsOf floor x (TurnstileChain k) (SleepQueues chain) = ⊥
IsOf floor x (TurnstileChain k) (Graph b) = ⊥
IsOf floor x (SleepChain k) (Record b) = ⊥
IsOf floor x (SleepChain k) (Cell value) = ⊥
IsOf floor x (SleepChain k) (Turnstiles chain) = ⊥
IsOf floor x (SleepChain k) (SleepQueues chain) = RepresentsSleepChain floor k chain x
IsOf floor x (SleepChain k) (Graph b) = ⊥
IsOf floor x (RecordOf t) (Record b) = RepresentsRecord b.value (x.record_of t)
IsOf floor x (RecordOf t) (Cell value) = ⊥
IsOf floor x (RecordOf t) (Turnstiles chain) = ⊥
IsOf floor x (RecordOf t) (SleepQueues chain) = ⊥
IsOf floor x (RecordOf t) (Graph b) = ⊥
IsOf floor x (CellOf l key) (Record b) = ⊥
IsOf floor x (CellOf l key) (Cell value) = value ≡ x.table l key
IsOf floor x (CellOf l key) (Turnstiles chain) = ⊥
IsOf floor x (CellOf l key) (SleepQueues chain) = ⊥
IsOf floor x (CellOf l key) (Graph b) = ⊥
IsOf floor x ClassGraph (Record b) = ⊥
IsOf floor x ClassGraph (Cell value) = ⊥
IsOf floor x ClassGraph (Turnstiles chain) = ⊥
IsOf floor x ClassGraph (SleepQueues chain) = ⊥
IsOf floor x ClassGraph (Graph b) = RepresentsGraph (config_in floor) b.value x.edges

pub record RepresentsObjects (floor : Description) (content : ℕ → Slot) (x : Objects) : Type 0 where
  pub each : (i : Item) (j : ℕ) → slot_of floor i ≡ Some j → IsOf floor x i (content j)
  pub unnamed : (l key : ℕ) → slot_of floor (CellOf l key) ≡ None → x.table l key ≡ None

-- 3. What seats know

-- a share says of a thread what the columns say; no lock is held twice
pub record RepresentsShare (x : Share) (s : State) (t : ℕ) : Type 0 where
  pub columns : columns_of x ≡ share_in s t
  pub held_once : (l : ℕ) → holds_of l x.held ≤ 1

-- the seat of the keeper is the first, and those of threads stand behind it
abbrev pub seat : List Knowledge → ℕ → Knowledge
seat views i = slice_index_or views i nothing

abbrev pub keeper_in : List Knowledge → Knowledge
keeper_in views = seat views 0

abbrev pub thread_in : List Knowledge → ℕ → Knowledge
thread_in views t = seat views (suc t)

-- a number of each seat, added up
abbrev pub total : (Knowledge → ℕ) → List Knowledge → ℕ
total f [] = 0
total f (v ∷ vs) = f v + total f vs

abbrev pub spare : Knowledge → ℕ
spare v = v.spare

-- 1 for a thread's seat
abbrev pub one_thread : Role → ℕ
one_thread OfKeeper = 0
one_thread OfThread = 1
one_thread OfNobody = 0

abbrev pub live : Knowledge → ℕ
live v = one_thread v.role

-- the seat is the thread's
pub record IsSeatOf (v : Knowledge) (s : State) (t : ℕ) : Type 0 where
  pub thread : v.thread ≡ t
  pub share : RepresentsShare v.share s t

-- the keeper took the thread's pass in, with its share
pub record IsTakenIn (views : List Knowledge) (s : State) (t : ℕ) (x : Share) : Type 0 where
  pub made : t < (keeper_in views).made
  pub gone : (thread_in views t).role ≢ OfThread
  pub share : RepresentsShare x s t

-- Where a seat knows that its thread is, the thread is, by its wait word and by the queue that its record names. Who
-- stands on a queue may have been woken off it, which its seat doesn't know
abbrev pub IsPosed : Pose → Wait → Option QueueName → Type 0
IsPosed Runs wait blocked_on = wait ≡ Running
IsPosed IsReady wait blocked_on = (wait ≡ Queued) × (blocked_on ≡ None)
IsPosed (StandsOn q) wait blocked_on =
    ((wait ≡ Queued) × (blocked_on ≡ Some q)) ⊎ ((cause : Cause) × (wait ≡ Woken q cause))

-- Each thread's share is with its seat, or with the keeper, or as it began where its pass isn't made yet. A seat that
-- is no thread's has nothing out. Each seat knows where its thread is; a thread without one runs.
pub record RepresentsSeats (floor : Description) (views : List Knowledge) (s : State) : Type 0 where
  pub keeper : (keeper_in views).role ≡ OfKeeper
  pub made : length views ≡ suc (keeper_in views).made
  pub few : (keeper_in views).made ≤ length floor.threads
  pub thread : (t : ℕ) → (thread_in views t).role ≡ OfThread → IsSeatOf (thread_in views t) s t
  pub unmade : (t : ℕ) → (keeper_in views).made ≤ t → share_in s t ≡ columns_of start_share
  pub taken_in : All (λ g. IsTakenIn views s g.0 g.1) (keeper_in views).gathered
  pub each : (t : ℕ) → t < (keeper_in views).made → (thread_in views t).role ≢ OfThread
      → list_any (λ g. g.0 == t) (keeper_in views).gathered ≡ true
  pub none_out : (t : ℕ) → (thread_in views t).role ≢ OfThread → (thread_in views t).out ≡ []
  pub counted : total live views + length (keeper_in views).gathered ≡ (keeper_in views).made
  pub poses : (t : ℕ) → IsPosed (thread_in views t).pose (s.wait t) (s.blocked_on t)
  pub runs : (t : ℕ) → (thread_in views t).role ≢ OfThread → (thread_in views t).pose ≡ Runs

-- 4. The columns that are told

-- The state with the columns that words, values, latches and seats tell; with a history, of which the logs are the
-- parts; and with the moment of the first halt, which the steps tell that were made. Each column stands here, so that
-- who adds one decides what tells it
abbrev pub state_from : WordColumns → (Item → Option ℕ) → Objects → (ℕ → ShareColumns) → List Entry
    → ℕ → State
state_from told out x share history halted_at = record {
  word = told.word;
  lists = λ q. (x.queues q).lists;
  free_list = λ q. (x.queues q).free_list;
  head = λ q. (x.queues q).head;
  owner = λ q. (x.queues q).owner;
  base = λ t. (x.record_of t).base;
  effective = λ t. (x.record_of t).effective;
  turnstile = λ t. (x.record_of t).turnstile;
  sleep_queue = λ t. (x.record_of t).sleep_queue;
  loan = λ t. (x.record_of t).loan;
  blocked_on = λ t. (x.record_of t).blocked_on;
  loan_home = x.loan_home;
  wait = told.wait;
  held = λ t. (share t).held;
  held_locks = λ t. (share t).held_locks;
  wanted = λ t. (share t).doing.wanted;
  taking = λ t. (share t).doing.taking;
  called = λ t. (share t).doing.called;
  walk = λ t. (share t).doing.walk;
  marked = λ t. (share t).doing.marked;
  looks = λ t. (share t).doing.looks;
  looks_in_all = λ t. (share t).doing.looks_in_all;
  last_look = λ t. (share t).doing.last_look;
  seen_in_section = λ t. (share t).doing.seen_in_section;
  round = λ t. (share t).doing.round;
  noted = λ t. (share t).doing.noted;
  woken_from = λ t. (share t).doing.woken_from;
  unstamped = λ t. (share t).doing.unstamped;
  counted_out = λ t. (share t).doing.counted_out;
  counted_in = λ t. (share t).counted_in;
  counting = λ t. (share t).doing.counting;
  phase = λ t. (share t).doing.phase;
  has_ended = λ t. (share t).doing.has_ended;
  log = λ t. (share t).log;
  has_begun = λ t. (share t).has_begun;
  turnstile_chain_with = λ k. out (TurnstileChain k);
  sleep_chain_with = λ k. out (SleepChain k);
  record_with = λ t. out (RecordOf t);
  cell_with = λ l k. out (CellOf l k);
  graph_with = out ClassGraph;
  table = x.table;
  next = told.next;
  history = history;
  edges = x.edges;
  awake = told.awake;
  ended = told.ended;
  halted = told.halted;
  halted_at = halted_at;
}

-- 5. The table

-- how many words and values there are
pub record HasSizes (floor : Description) (b : Board) : Type 0 where
  pub words : length b.words ≡ words_for (slots_for floor)
  pub slots : length b.homes ≡ slots_for floor
  pub sized : IsSized floor

pub record Represents (floor : Description) (b : Board) (s : State) : Type 0 where
  pub sizes : HasSizes floor b
  pub words : RepresentsWords floor b.words (words_in s)
  pub room : s.next + total spare b.views < 2 ^ 32
  pub latches : RepresentsLatches floor (latch_word b.words) (item_with s)
  pub content : ℕ → Slot
  pub shelves : Shelves (slots_for floor) (latch_word b.words) (home_at b.homes)
      (λ t. (thread_in b.views t).out) content
  pub objects : RepresentsObjects floor content (objects_in s)
  pub seats : RepresentsSeats floor b.views s
