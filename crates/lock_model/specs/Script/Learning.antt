-- What the lines so far have made known, and what a line without a fault adds to it.
use Rattle.std.specs.Prelude.{ℕ, suc, Bool, true, false, if◌then◌else◌, List, [], ◌∷◌, ◌++◌, length, option_and_then, option_map, unwrap_or, option_to_list, flat_map, slice_set, Option, Some, None}
use Rattle.std.specs.List.{list_any, position_or_len}
use Rattle.std.specs.Map.{lookup}
use Rattle.lock_model.specs.Names.{is_name}
use Rattle.lock_model.specs.Operations.{of_locks, held_behind}
use Rattle.lock_model.specs.Script.Lines.{is_same, number_of, priority_of}
use Rattle.lock_model.specs.Script.Statements.{Statement, Declares, DeclaresChan, Begins, Ends, Schedules, IsDone, Operates, EndsTry, Operation}
use Rattle.lock_model.specs.Script.Statements as say
use Rattle.lock_model.specs.declared.plan.Declared.{Declared}
use Rattle.lock_model.specs.declared.plan.Declared.TheVariants.{Lock, Chan, Thread}
use Rattle.lock_model.specs.declared.plan.Kind.{Kind}
use Rattle.lock_model.specs.declared.plan.Mode.{Mode}
use Rattle.lock_model.specs.declared.plan.LockDecl.{LockDecl}
use Rattle.lock_model.specs.declared.plan.ChanDecl.{ChanDecl}
use Rattle.lock_model.specs.declared.plan.ThreadDecl.{ThreadDecl}
use Rattle.lock_model.specs.declared.plan.Op.{Op}
use Rattle.lock_model.specs.declared.plan.OfLocks.{OfLocks}
use Rattle.lock_model.specs.declared.plan.OfLocks.TheVariants.{NoLock, Acquires, ClosesBlock, Releases, EditsAt, ReadsAt, SleepsOn, WakesOn}
use Rattle.lock_model.specs.declared.plan.Op.TheVariants.{Take, Try, EndTry, Release, Set, Add, Get, Base, Show, Sleep, WakeOne, WakeAll}
use Rattle.lock_model.specs.declared.event.Held.{Held}
use Rattle.lock_model.specs.declared.numbers.ChanNo.{ChanNo}
use Rattle.lock_model.specs.declared.numbers.ClassNo.{ClassNo}
use Rattle.lock_model.specs.declared.numbers.LockNo.{LockNo}
use Rattle.lock_model.specs.declared.numbers.ThreadNo.{ThreadNo}

-- 1. What is known

-- a try's block that is open: the try's lock and mode, its place among the thread's operations, and what the thread
-- held before it
pub record Block : Type 0 where
  pub lock : LockNo
  pub mode : Mode
  pub opened_at : ℕ
  pub before : List Held

-- a thread whose `end` hasn't come
pub record OpenThread : Type 0 where
  pub name : List ℕ
  pub base : ℕ
  pub ops : List Op
  -- what it holds behind its lines so far, in order of acquisition
  pub held : List Held
  -- its open blocks, the innermost first
  pub blocks : List Block

pub record Known : Type 0 where
  -- what each name stands for, in order of declaration
  pub names : List (List ℕ × Declared)
  pub classes : List (List ℕ)
  pub locks : List LockDecl
  pub chans : List ChanDecl
  pub threads : List ThreadDecl
  pub schedule : List ThreadNo
  pub open_thread : Option OpenThread
  -- operations of all threads
  pub operations : ℕ
  pub is_done : Bool

-- what the header makes known
abbrev pub nothing_known : Known
nothing_known = record {
  names = [];
  classes = [];
  locks = [];
  chans = [];
  threads = [];
  schedule = [];
  open_thread = None;
  operations = 0;
  is_done = false;
}

-- 2. Names

abbrev pub declared_as : Known → List ℕ → Option Declared
declared_as k name = lookup (is_same name) k.names

abbrev pub lock_of : Declared → Option LockNo
lock_of (Lock l) = Some l
lock_of (Chan c) = None
lock_of (Thread t) = None

-- the lock of that name
abbrev pub lock_named : Known → List ℕ → Option LockNo
lock_named k name = if is_name name then option_and_then lock_of (declared_as k name) else None

abbrev pub chan_of : Declared → Option ChanNo
chan_of (Lock l) = None
chan_of (Chan c) = Some c
chan_of (Thread t) = None

-- the condition variable or channel of that name
abbrev pub chan_named : Known → List ℕ → Option ChanNo
chan_named k name = if is_name name then option_and_then chan_of (declared_as k name) else None

abbrev pub thread_of : Declared → Option ThreadNo
thread_of (Lock l) = None
thread_of (Chan c) = None
thread_of (Thread t) = Some t

-- the thread of that name
abbrev pub thread_named : Known → List ℕ → Option ThreadNo
thread_named k name = if is_name name then option_and_then thread_of (declared_as k name) else None

-- the threads of those names, in order
abbrev pub threads_named : Known → List (List ℕ) → List ThreadNo
threads_named k names = flat_map (λ name. option_to_list (thread_named k name)) names

-- a class's number: that of its first use, or the next
abbrev pub class_number : List (List ℕ) → List ℕ → ℕ
class_number classes class = position_or_len (is_same class) classes

abbrev pub with_class : List (List ℕ) → List ℕ → List (List ℕ)
with_class classes class =
    if list_any (is_same class) classes then classes else classes ++ class ∷ []

-- 3. Operations

-- of a lock and a key, where both are readable
abbrev pub with_key : (LockNo → ℕ → Op) → Option LockNo → Option ℕ → Option Op
with_key f (Some l) (Some key) = Some (f l key)
with_key f l key = None

-- the same with a value or an amount
abbrev pub with_number : (LockNo → ℕ → ℕ → Op) → Option LockNo → Option ℕ → Option ℕ → Option Op
with_number f l key (Some n) = with_key (λ l key. f l key n) l key
with_number f l key None = None

-- The operation that words say, where each of them is readable. Where a try goes on, its endtry says; till then this is
-- 0.
abbrev pub op_of : Known → Operation → Option Op
op_of k (say.Take kind mode name) = option_map (λ l. Take l mode) (lock_named k name)
op_of k (say.Release kind mode name) = option_map (λ l. Release l) (lock_named k name)
op_of k (say.Try kind mode name) = option_map (λ l. Try l mode 0) (lock_named k name)
op_of k (say.Set name key value) =
    with_number Set (lock_named k name) (number_of key) (number_of value)
op_of k (say.Add name key amount) =
    with_number Add (lock_named k name) (number_of key) (number_of amount)
op_of k (say.Get name key) = with_key Get (lock_named k name) (number_of key)
op_of k (say.Prio prio) = option_map (λ p. Base (record { 0 = p })) (priority_of prio)
op_of k say.Show = Some Show
op_of k (say.Wait cond name) = option_map (λ c. Sleep c) (chan_named k name)
op_of k (say.WakeOne cond name) = option_map (λ c. WakeOne c) (chan_named k name)
op_of k (say.WakeAll cond name) = option_map (λ c. WakeAll c) (chan_named k name)

-- 4. What a line adds

-- the class of that name
abbrev pub class_named : Known → List ℕ → ClassNo
class_named k class = record { 0 = class_number k.classes class }

-- a lock of a class, which is declared by its first use
abbrev pub with_lock : Known → Kind → List ℕ → List ℕ → Known
with_lock k kind name class = record k {
  names = k.names ++ (name, Lock (record { 0 = length k.locks })) ∷ [];
  classes = with_class k.classes class;
  locks = k.locks ++ (record { name = name; kind = kind; class = class_named k class }) ∷ [];
}

-- a condition variable or channel with its lock
abbrev pub with_chan : Known → Bool → List ℕ → LockNo → Known
with_chan k cond name lock = record k {
  names = k.names ++ (name, Chan (record { 0 = length k.chans })) ∷ [];
  chans = k.chans ++ (record { name = name; cond = cond; lock = lock }) ∷ [];
}

-- a thread that begins
abbrev pub with_thread : Known → List ℕ → ℕ → Known
with_thread k name base = record k {
  names = k.names ++ (name, Thread (record { 0 = length k.threads })) ∷ [];
  open_thread = Some (record { name = name; base = base; ops = []; held = []; blocks = [] });
}

-- the open thread has ended
abbrev pub with_end : Known → Option OpenThread → Known
with_end k None = k
with_end k (Some t) = record k {
  threads = k.threads ++ (record { name = t.name; base = record { 0 = t.base }; ops = t.ops }) ∷ [];
  open_thread = None;
}

-- the blocks that are open behind an operation: a try opens one
abbrev pub blocks_after : OpenThread → OfLocks → List Block
blocks_after t NoLock = t.blocks
blocks_after t (Acquires h) =
    if h.by_try
    then record { lock = h.l; mode = h.mode; opened_at = length t.ops; before = t.held } ∷ t.blocks
    else t.blocks
blocks_after t ClosesBlock = t.blocks
blocks_after t (Releases l) = t.blocks
blocks_after t (EditsAt l key) = t.blocks
blocks_after t (ReadsAt l key) = t.blocks
blocks_after t (SleepsOn c) = t.blocks
blocks_after t (WakesOn c) = t.blocks

abbrev pub blocks_behind : OpenThread → Op → List Block
blocks_behind t op = blocks_after t (of_locks op)

-- the open thread has made an operation
abbrev pub with_operation : Known → Option OpenThread → Option Op → Known
with_operation k (Some t) (Some op) = record k {
  open_thread = Some (record t {
    ops = t.ops ++ op ∷ [];
    held = held_behind op t.held;
    blocks = blocks_behind t op;
  });
  operations = suc k.operations;
}
with_operation k t op = k

-- the innermost block is closed: its try goes on behind the endtry
abbrev pub without_block : OpenThread → List Block → OpenThread
without_block t [] = t
without_block t (b ∷ bs) = record t {
  ops = slice_set t.ops b.opened_at (Try b.lock b.mode (suc (length t.ops))) ++ EndTry ∷ [];
  blocks = bs;
}

-- the open thread has made an endtry
abbrev pub with_endtry : Known → Option OpenThread → Known
with_endtry k None = k
with_endtry k (Some t) = record k {
  open_thread = Some (without_block t t.blocks);
  operations = suc k.operations;
}

-- what is known behind a statement; where a word isn't readable, nothing rests on it
abbrev pub learned : Known → Statement → Known
learned k (Declares kind name class) = with_lock k kind name class
learned k (DeclaresChan cond name lock) =
    with_chan k cond name (unwrap_or (lock_named k lock) (record { 0 = 0 }))
learned k (Begins name prio) = with_thread k name (unwrap_or (priority_of prio) 0)
learned k Ends = with_end k k.open_thread
learned k (Schedules names) = record k { schedule = k.schedule ++ threads_named k names }
learned k IsDone = record k { is_done = true }
learned k (Operates o) = with_operation k k.open_thread (op_of k o)
learned k EndsTry = with_endtry k k.open_thread
