-- What lies behind latches, and the steps that take it out of its home and give it back.
use Rattle.std.specs.Prelude.{◌≡◌, ◌≢◌, ℕ, ◌<◌, ◌%◌, Bool, true, false, not, ◌&&◌, ◌==◌, if◌then◌else◌, Option, Some, None, ⊤}
use Rattle.lock_model.specs.Config.{Config}
use Rattle.lock_state.specs.State.{State, Queued, SleepHalted, Look, Round, put, put_at}
use Rattle.lock_model.specs.Queues.{chan_queue}
use Rattle.lock_model.specs.Words.{is_turnstile}
use Rattle.lock_model.specs.declared.plan.QueueName.{QueueName}
use Rattle.lock_model.specs.declared.plan.QueueName.TheVariants.{Lock, Chan}
use Rattle.lock_state.specs.Steps.LockWords.{IsActing, is_taking_back}

-- what a thread may have out: a chain of turnstiles or of sleep queues, a thread's record, a cell of a lock's table,
-- the class graph
pub data Item : Type 0 where
  TurnstileChain : ℕ → Item
  SleepChain : ℕ → Item
  RecordOf : ℕ → Item
  CellOf : ℕ → ℕ → Item
  ClassGraph : Item

-- who has an item out
abbrev pub out_with : (ℕ → Option ℕ) → (ℕ → Option ℕ) → (ℕ → Option ℕ) → (ℕ → ℕ → Option ℕ)
    → Option ℕ → Item → Option ℕ
out_with turnstile_chain sleep_chain of cell graph (TurnstileChain k) = turnstile_chain k
out_with turnstile_chain sleep_chain of cell graph (SleepChain k) = sleep_chain k
out_with turnstile_chain sleep_chain of cell graph (RecordOf t) = of t
out_with turnstile_chain sleep_chain of cell graph (CellOf l k) = cell l k
out_with turnstile_chain sleep_chain of cell graph ClassGraph = graph

-- the same of a state
abbrev pub item_with : State → Item → Option ℕ
item_with s =
    out_with s.turnstile_chain_with s.sleep_chain_with s.record_with s.cell_with s.graph_with

-- Whether a thread may have both out: one chain and one record, or else one cell alone, or the class graph alone. Each
-- pair is listed, so that an item of another sort must be decided here
abbrev pub go_together : Item → Item → Bool
go_together (TurnstileChain i) (TurnstileChain j) = i == j
go_together (TurnstileChain i) (SleepChain j) = false
go_together (TurnstileChain i) (RecordOf t) = true
go_together (TurnstileChain i) (CellOf l k) = false
go_together (TurnstileChain i) ClassGraph = false
go_together (SleepChain i) (TurnstileChain j) = false
go_together (SleepChain i) (SleepChain j) = i == j
go_together (SleepChain i) (RecordOf t) = true
go_together (SleepChain i) (CellOf l k) = false
go_together (SleepChain i) ClassGraph = false
go_together (RecordOf t) (TurnstileChain i) = true
go_together (RecordOf t) (SleepChain i) = true
go_together (RecordOf t) (RecordOf u) = t == u
go_together (RecordOf t) (CellOf l k) = false
go_together (RecordOf t) ClassGraph = false
go_together (CellOf l k) (TurnstileChain i) = false
go_together (CellOf l k) (SleepChain i) = false
go_together (CellOf l k) (RecordOf t) = false
go_together (CellOf l k) (CellOf m j) = (l == m) && (k == j)
go_together (CellOf l k) ClassGraph = false
go_together ClassGraph (TurnstileChain i) = false
go_together ClassGraph (SleepChain i) = false
go_together ClassGraph (RecordOf t) = false
go_together ClassGraph (CellOf l k) = false
go_together ClassGraph ClassGraph = true

-- the class graph is taken only by a thread that is on no queue, in no marked list and not woken
abbrev pub MayCheckOrders : State → ℕ → Item → Type 0
MayCheckOrders s t (TurnstileChain k) = ⊤
MayCheckOrders s t (SleepChain k) = ⊤
MayCheckOrders s t (RecordOf u) = ⊤
MayCheckOrders s t (CellOf l k) = ⊤
MayCheckOrders s t ClassGraph = IsActing s t

-- what it asks to take an item: it is home, and goes together with all that the thread has out
pub record MayTake (c : Config) (s : State) (t : ℕ) (i : Item) : Type 0 where
  pub thread : t < c.threads
  pub home : item_with s i ≡ None
  pub together : (j : Item) → item_with s j ≡ Some t
      → (go_together i j ≡ true) × (go_together j i ≡ true)
  pub orders : MayCheckOrders s t i

-- who has what out, once an item goes to a thread, or home
abbrev pub turnstile_chains_after : Item → Option ℕ → (ℕ → Option ℕ) → ℕ → Option ℕ
turnstile_chains_after (TurnstileChain k) o f = put f k o
turnstile_chains_after (SleepChain k) o f = f
turnstile_chains_after (RecordOf u) o f = f
turnstile_chains_after (CellOf l k) o f = f
turnstile_chains_after ClassGraph o f = f

abbrev pub sleep_chains_after : Item → Option ℕ → (ℕ → Option ℕ) → ℕ → Option ℕ
sleep_chains_after (TurnstileChain k) o f = f
sleep_chains_after (SleepChain k) o f = put f k o
sleep_chains_after (RecordOf u) o f = f
sleep_chains_after (CellOf l k) o f = f
sleep_chains_after ClassGraph o f = f

abbrev pub records_after : Item → Option ℕ → (ℕ → Option ℕ) → ℕ → Option ℕ
records_after (TurnstileChain k) o f = f
records_after (SleepChain k) o f = f
records_after (RecordOf u) o f = put f u o
records_after (CellOf l k) o f = f
records_after ClassGraph o f = f

abbrev pub cells_after : Item → Option ℕ → (ℕ → ℕ → Option ℕ) → ℕ → ℕ → Option ℕ
cells_after (TurnstileChain k) o f = f
cells_after (SleepChain k) o f = f
cells_after (RecordOf u) o f = f
cells_after (CellOf l k) o f = put_at f l k o
cells_after ClassGraph o f = f

abbrev pub graph_after : Item → Option ℕ → Option ℕ → Option ℕ
graph_after (TurnstileChain k) o g = g
graph_after (SleepChain k) o g = g
graph_after (RecordOf u) o g = g
graph_after (CellOf l k) o g = g
graph_after ClassGraph o g = o

abbrev pub is_chain : Item → Bool
is_chain (TurnstileChain k) = true
is_chain (SleepChain k) = true
is_chain (RecordOf u) = false
is_chain (CellOf l k) = false
is_chain ClassGraph = false

-- an acquiring round in which a chain is taken
abbrev pub in_its_chain : Option Round → Option Round
in_its_chain None = None
in_its_chain (Some r) = Some (record r { in_chain = true })

-- Where a chain is taken or given back, a thread has seen nothing under it yet.
abbrev pub seen_after : Bool → Option Look → Option Look
seen_after is_chain seen = if is_chain then None else seen

-- the item is out with the thread
unfoldable pub after_take : State → ℕ → Item → State
after_take s t i = record s {
  turnstile_chain_with = turnstile_chains_after i (Some t) s.turnstile_chain_with;
  sleep_chain_with = sleep_chains_after i (Some t) s.sleep_chain_with;
  record_with = records_after i (Some t) s.record_with;
  cell_with = cells_after i (Some t) s.cell_with;
  graph_with = graph_after i (Some t) s.graph_with;
  seen_in_section = put s.seen_in_section t (seen_after (is_chain i) (s.seen_in_section t));
  round = put s.round t (if is_chain i then in_its_chain (s.round t) else s.round t);
}

-- the round under way has taken its lock's chain, and is none of a try's
abbrev pub is_bound : Option Round → Bool
is_bound None = false
is_bound (Some r) = not r.by_try && r.in_chain

-- a thread that was made ready sleeps in its log, wasn't woken or halted since, and doesn't stand on its channel yet
pub record IsOnItsWay (s : State) (t : ℕ) : Type 0 where
  pub queued : s.wait t ≡ Queued
  pub nowhere : s.blocked_on t ≡ None
  pub wants : s.wanted t ≡ None
  pub slept : is_taking_back (s.log t) ≡ true
  pub unwoken : s.woken_from t ≡ None
  pub unhalted : (d : ℕ) → s.noted t ≡ Some (SleepHalted (chan_queue d)) → ⊥

-- the thread isn't about to stand on a queue
abbrev pub IsSettled : State → ℕ → Type 0
IsSettled s t = s.wait t ≡ Queued → s.blocked_on t ≢ None

-- A thread gives back what it has out: a chain and its own record only where it isn't about to stand on a queue; a
-- chain that a blocking call's round took only after a gain, a claim or an enter, which end the round; a sleep chain
-- only where its wake is noted. The class graph goes home by steps of its own.
abbrev pub IsDoneWith : State → ℕ → Item → Type 0
IsDoneWith s t (TurnstileChain k) = (is_bound (s.round t) ≡ false) × IsSettled s t
IsDoneWith s t (SleepChain k) =
    (is_bound (s.round t) ≡ false) × (s.unstamped t ≡ None) × IsSettled s t
IsDoneWith s t (RecordOf u) = u ≡ t → IsSettled s t
IsDoneWith s t (CellOf l k) = ⊤
IsDoneWith s t ClassGraph = ⊥

-- what it asks to give an item back
pub record MayGive (c : Config) (s : State) (t : ℕ) (i : Item) : Type 0 where
  pub thread : t < c.threads
  pub out : item_with s i ≡ Some t
  pub done : IsDoneWith s t i

-- the item is home
unfoldable pub after_give : State → ℕ → Item → State
after_give s t i = record s {
  turnstile_chain_with = turnstile_chains_after i None s.turnstile_chain_with;
  sleep_chain_with = sleep_chains_after i None s.sleep_chain_with;
  record_with = records_after i None s.record_with;
  cell_with = cells_after i None s.cell_with;
  graph_with = graph_after i None s.graph_with;
  seen_in_section = put s.seen_in_section t (seen_after (is_chain i) (s.seen_in_section t));
}

-- Of a running floor, which has so many chains of each sort.

-- the chain in which the lock's queue stands
abbrev pub chain_of : ℕ → Config → ℕ → Item
chain_of chains c l =
    if is_turnstile (c.kind l) then TurnstileChain (l % chains) else SleepChain (l % chains)

-- the chain of a queue
abbrev pub chain_of_queue : ℕ → Config → QueueName → Item
chain_of_queue chains c (Lock l) = chain_of chains c l.0
chain_of_queue chains c (Chan d) = SleepChain (d.0 % chains)

-- the items that there are
abbrev pub IsItem : ℕ → Config → Item → Type 0
IsItem chains c (TurnstileChain k) = k < chains
IsItem chains c (SleepChain k) = k < chains
IsItem chains c (RecordOf t) = t < c.threads
IsItem chains c (CellOf l k) = l < c.locks
IsItem chains c ClassGraph = ⊤

-- the thread has the item out
abbrev pub HasItem : State → ℕ → Item → Type 0
HasItem s t i = item_with s i ≡ Some t
