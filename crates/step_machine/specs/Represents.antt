-- Which state of `lock_state` the objects of a machine show. Columns of which the objects do not tell, as looks and
-- counts, are free: the scheduled run makes nothing of them.
use Rattle.std.specs.Prelude.{◌≡◌, ◌≢◌, ℕ, ◌≤◌, ◌<◌, Bool, List, [], length, reverse, map, slice_get, get_or, option_map, is_some, Option, Some, IsSome}
use Rattle.std.specs.List.{All}
use Rattle.std.specs.Global.{Vec}
use Rattle.std.specs.Vec.{vec_capacity}
use Rattle.lock_model.specs.Words.{Word, word_of}
use Rattle.lock_state.specs.State as state
use Rattle.lock_model.specs.Config.{Config}
use Rattle.lock_state.specs.State.{State}
use Rattle.lock_model.specs.Holds.{Hold}
use Rattle.lock_state.specs.Run.{waits_on, was_cut}
use Rattle.lock_model.specs.Queues.{Mark, BySignal}
use Rattle.lock_model.specs.History.{tables_of}
use Rattle.lock_model.specs.Operations.{hold_in}
use Rattle.lock_model.specs.declared.event.Held.{Held}
use Rattle.lock_model.specs.declared.plan.QueueName.{QueueName}
use Rattle.witness_orders.specs.Graph.{RepresentsGraph}
use Rattle.thread_records.specs.Loans.{loans_for}
use Rattle.lock_objects.specs.Held.{holds_of}
use Rattle.lock_objects.specs.Marked.{places_of, cause_in, AreOfKind}
use Rattle.lock_objects.specs.declared.marked.Marked.{Marked}
use Rattle.lock_objects.specs.Represents.{RecordColumns, RepresentsQueues, RepresentsSleepers, queue_in, sleepers_in, record_in, columns_of, mark_of, walk_of, wait_of}
use Rattle.step_machine.specs.declared.thread.Thread.{Thread}
use Rattle.step_machine.specs.declared.machine.Machine.{Machine}

-- 1. Words

-- each lock has a word, which says what the column says
pub record RepresentsWords (words : List ℕ) (c : Config) (column : ℕ → Word) : Type 0 where
  pub locks : length words ≡ c.locks
  pub word : (l : ℕ) → l < c.locks → word_of (get_or words l 0) ≡ column l

-- 2. Threads

-- what the columns say of a thread, whether it has a lock to gain, and by its log on which channel it waits, and
-- whether it was cut
pub record ThreadColumns : Type 0 where
  pub its_record : RecordColumns
  pub wait : state.Wait
  pub walk : state.Walk
  pub held : ℕ → Hold
  pub marked : List Mark
  pub chan : Option ℕ
  pub wants : Bool
  pub cut : Bool

-- those of a state
abbrev pub thread_in : State → ℕ → ThreadColumns
thread_in s t = record {
  its_record = record_in s t;
  wait = s.wait t;
  walk = s.walk t;
  held = s.held t;
  marked = s.marked t;
  chan = waits_on (s.log t);
  wants = is_some (s.wanted t);
  cut = was_cut s t;
}

-- what a thread's objects say
abbrev pub thread_of : Thread → ThreadColumns
thread_of th = record {
  its_record = columns_of th.record.value;
  wait = wait_of th.wait;
  walk = walk_of th.walk;
  held = hold_in th.held.items;
  marked = map (mark_of th.marked_from) (places_of th.marked);
  chan = option_map (λ d. d.0) th.waits_on;
  wants = th.wants;
  cut = th.cut;
}

-- no lock is held twice, and there is room for as many as a thread may hold
pub record HoldsEachOnce (held : Vec Held) : Type 0 where
  pub once : (l : ℕ) → holds_of l held.items ≤ 1
  pub room : 8 ≤ vec_capacity held

-- each of those that were taken off has the object that it takes back, and a signal took it off: nobody is halted in a
-- scheduled run
pub record AreFilled (c : Config) (marked : Marked) (q : QueueName) : Type 0 where
  pub filled : All (λ p. IsSome p.object) (places_of marked)
  pub kind : AreOfKind c marked q
  pub by_signal : places_of marked ≢ [] → cause_in marked ≡ BySignal

-- the objects of a thread say of it what the columns say
pub record RepresentsThread (th : Thread) (c : Config) (s : State) (t : ℕ) : Type 0 where
  pub columns : thread_of th ≡ thread_in s t
  pub one_loan_each : (l : ℕ) → loans_for l th.record.value.loans ≤ 1
  pub held : HoldsEachOnce th.held
  pub marked : AreFilled c th.marked th.marked_from

-- so those of each thread of the plan
pub record RepresentsThreads (ths : List Thread) (c : Config) (s : State) : Type 0 where
  pub threads : length ths ≡ c.threads
  pub thread : (t : ℕ) (th : Thread) → slice_get ths t ≡ Some th → RepresentsThread th c s t

-- 3. The machine

-- what bounds the numbers of a run
pub record IsWithin (c : Config) : Type 0 where
  pub few_locks : c.locks ≤ 64
  pub few_threads : c.threads ≤ 32
  pub few_channels : c.chans ≤ 64

pub record Represents (c : Config) (m : Machine) (s : State) : Type 0 where
  pub within : IsWithin c
  pub words : RepresentsWords m.words.items c s.word
  pub queues : RepresentsQueues c m.chain (queue_in s) s.loan_home
  pub sleepers : RepresentsSleepers c m.sleepers (sleepers_in s)
  pub threads : RepresentsThreads m.threads.items c s
  pub history : m.log.entries ≡ reverse s.history
  pub tables : m.tables.present ≡ tables_of s.history
  pub orders : RepresentsGraph c m.orders s.edges
