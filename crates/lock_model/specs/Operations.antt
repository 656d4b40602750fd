-- What operations do to the list of locks that a thread holds, which operations fit it, and the plans whose threads'
-- operations fit from their begin to their end. Each script's plan is such a plan.
use Rattle.std.specs.Prelude.{◌≡◌, ℕ, suc, ◌+◌, ◌≤◌, ◌<◌, Bool, true, false, not, ◌&&◌, ◌||◌, ◌==◌, nat_lt, if◌then◌else◌, List, [], ◌∷◌, ◌++◌, length, map, sum, take, take_while, drop, fold, option_map, slice_get, Option, Some, None}
use Rattle.std.specs.List.{All, list_all}
use Rattle.lock_model.specs.Holds.{Hold, NotHeld, Holds, is_unheld, is_exclusive}
use Rattle.lock_model.specs.Limits.{most_threads, most_locks, most_channels, most_classes, most_held, most_operations, most_scheduled}
use Rattle.lock_model.specs.Plans.{operations_of}
use Rattle.lock_model.specs.Tests.{Test, test, where_some, Passes}
use Rattle.lock_model.specs.declared.plan.Kind.{Kind}
use Rattle.lock_model.specs.declared.plan.Kind.TheVariants.{Mtx, Rw, Sx}
use Rattle.lock_model.specs.declared.plan.Mode.{Mode}
use Rattle.lock_model.specs.declared.plan.Mode.TheVariants.{Excl, Shared}
use Rattle.lock_model.specs.declared.plan.LockDecl.{LockDecl}
use Rattle.lock_model.specs.declared.plan.ChanDecl.{ChanDecl}
use Rattle.lock_model.specs.declared.plan.Op.{Op}
use Rattle.lock_model.specs.declared.plan.Op.TheVariants.{Take, Try, EndTry, Release, Set, Add, Get, Base, Show, Sleep, WakeOne, WakeAll}
use Rattle.lock_model.specs.declared.plan.OfLocks.{OfLocks}
use Rattle.lock_model.specs.declared.plan.OfLocks.TheVariants.{NoLock, Acquires, ClosesBlock, Releases, EditsAt, ReadsAt, SleepsOn, WakesOn}
use Rattle.lock_model.specs.declared.plan.Plan.{Plan}
use Rattle.lock_model.specs.declared.event.Held.{Held}
use Rattle.lock_model.specs.declared.numbers.LockNo.{LockNo}
use Rattle.lock_model.specs.declared.numbers.ChanNo.{ChanNo}

-- 1. What an operation does with locks: the one place in which operations are sorted

abbrev pub of_locks : Op → OfLocks
of_locks (Take l mode) = Acquires (record { l = l; mode = mode; by_try = false })
of_locks (Try l mode past) = Acquires (record { l = l; mode = mode; by_try = true })
of_locks EndTry = ClosesBlock
of_locks (Release l) = Releases l
of_locks (Set l key value) = EditsAt l key
of_locks (Add l key amount) = EditsAt l key
of_locks (Get l key) = ReadsAt l key
of_locks (Base prio) = NoLock
of_locks Show = NoLock
of_locks (Sleep c) = SleepsOn c
of_locks (WakeOne c) = WakesOn c
of_locks (WakeAll c) = WakesOn c

-- 2. Lists of held locks, in order of acquisition

abbrev pub holds_lock : LockNo → Held → Bool
holds_lock l h = h.l.0 == l.0

-- how a lock is held
abbrev pub hold_in : List Held → ℕ → Hold
hold_in [] l = NotHeld
hold_in (h ∷ hs) l = if h.l.0 == l then Holds h.mode else hold_in hs l

-- without a lock
abbrev pub without_lock : ℕ → List Held → List Held
without_lock l [] = []
without_lock l (h ∷ hs) = if h.l.0 == l then hs else h ∷ without_lock l hs

-- the lock was gained last, and not by a try
abbrev pub is_last : ℕ → List Held → Bool
is_last l [] = false
is_last l (h ∷ []) = h.l.0 == l && not h.by_try
is_last l (h ∷ g ∷ hs) = is_last l (g ∷ hs)

-- What a thread holds behind an operation, by what that does with locks. A wait leaves the list as it is, and the lines
-- of a try's block are read with its lock held.
abbrev pub held_after : OfLocks → List Held → List Held
held_after NoLock held = held
held_after (Acquires h) held = held ++ h ∷ []
held_after ClosesBlock held = held
held_after (Releases l) held = without_lock l.0 held
held_after (EditsAt l key) held = held
held_after (ReadsAt l key) held = held
held_after (SleepsOn c) held = held
held_after (WakesOn c) held = held

abbrev pub held_behind : Op → List Held → List Held
held_behind op held = held_after (of_locks op) held

-- the same behind operations in order
abbrev pub held_through : List Op → List Held → List Held
held_through ops held = fold (λ hs op. held_behind op hs) held ops

-- what a thread holds behind the first n of its operations
abbrev pub held_of : List Op → ℕ → List Held
held_of ops n = held_through (take n ops) []

-- 3. Which operations fit what is held

abbrev pub kind_number : Kind → ℕ
kind_number Mtx = 0
kind_number Rw = 1
kind_number Sx = 2

abbrev pub is_kind : Kind → Option Kind → Bool
is_kind kind None = false
is_kind kind (Some other) = kind_number kind == kind_number other

abbrev pub is_of_kind : List LockDecl → Kind → LockNo → Bool
is_of_kind locks kind l = is_kind kind (option_map (λ d. d.kind) (slice_get locks l.0))

-- a mutex is held exclusively alone
abbrev pub may_be_held : List LockDecl → Mode → LockNo → Bool
may_be_held locks Excl l = nat_lt l.0 (length locks)
may_be_held locks Shared l = is_of_kind locks Rw l || is_of_kind locks Sx l

-- A take or a try: there is room for a lock more; the lock's kind has that mode; it isn't held; and no mutex or rw lock
-- is held where it is an sx lock.
abbrev pub acquiring_tests : List LockDecl → LockNo → Mode → List Held → List Test
acquiring_tests locks l mode held =
    test 7 (nat_lt (length held) most_held)
    ∷ test 8 (may_be_held locks mode l)
    ∷ test 9 (is_unheld (hold_in held l.0))
    ∷ test 12 (not (is_of_kind locks Sx l) || list_all (λ h. is_of_kind locks Sx h.l) held)
    ∷ []

-- the lock is held
abbrev pub held_test : LockNo → List Held → Test
held_test l held = test 11 (not (is_unheld (hold_in held l.0)))

-- a change of a lock's table: it is held, and exclusively
abbrev pub edit_tests : LockNo → List Held → List Test
edit_tests l held = held_test l held ∷ test 20 (is_exclusive (hold_in held l.0)) ∷ []

-- a wait with a lock: it is held; no other mutex or rw lock is; and it was gained last, and not by a try
abbrev pub wait_tests : List LockDecl → LockNo → List Held → List Test
wait_tests locks l held =
    held_test l held
    ∷ test 12 (list_all (λ h. h.l.0 == l.0 || is_of_kind locks Sx h.l) held)
    ∷ test 13 (is_last l.0 held)
    ∷ []

-- the channel is declared
abbrev pub channel_test : List ChanDecl → ChanNo → Test
channel_test chans c = test 5 (nat_lt c.0 (length chans))

-- the tests of an operation, by what it does with locks and what the thread holds
abbrev pub tests_of : List LockDecl → List ChanDecl → OfLocks → List Held → List Test
tests_of locks chans NoLock held = []
tests_of locks chans (Acquires h) held = acquiring_tests locks h.l h.mode held
tests_of locks chans ClosesBlock held = []
tests_of locks chans (Releases l) held = held_test l held ∷ []
tests_of locks chans (EditsAt l key) held = edit_tests l held
tests_of locks chans (ReadsAt l key) held = held_test l held ∷ []
tests_of locks chans (SleepsOn c) held =
    channel_test chans c
    ∷ where_some (λ (d : ChanDecl). wait_tests locks d.lock held) (slice_get chans c.0)
tests_of locks chans (WakesOn c) held = channel_test chans c ∷ []

abbrev pub operation_tests : List LockDecl → List ChanDecl → Op → List Held → List Test
operation_tests locks chans op held = tests_of locks chans (of_locks op) held

-- 4. Blocks of tries

-- The block of the try n: its endtry stands behind it, the operations go on behind that, and there the thread holds
-- what it held before the try.
pub record IsBlock (ops : List Op) (n past : ℕ) : Type 0 where
  pub end : ℕ
  pub behind : n < end
  pub endtry : slice_get ops end ≡ Some EndTry
  pub goes_on : past ≡ suc end
  pub leaves : held_of ops end ≡ held_of ops n

-- the endtry n ends the block of a try before it
pub record EndsBlock (ops : List Op) (n : ℕ) : Type 0 where
  pub tried : ℕ
  pub lock : LockNo
  pub mode : Mode
  pub before : tried < n
  pub its_try : slice_get ops tried ≡ Some (Try lock mode (suc n))

abbrev pub closes_block : OfLocks → Bool
closes_block NoLock = false
closes_block (Acquires h) = false
closes_block ClosesBlock = true
closes_block (Releases l) = false
closes_block (EditsAt l key) = false
closes_block (ReadsAt l key) = false
closes_block (SleepsOn c) = false
closes_block (WakesOn c) = false

abbrev pub is_endtry : Op → Bool
is_endtry op = closes_block (of_locks op)

-- the first operation from the n-th on that is no endtry: an endtry takes no turn
abbrev pub next_at : List Op → ℕ → ℕ
next_at ops n = n + length (take_while is_endtry (drop n ops))

-- blocks don't cross: one that begins in another ends in it
abbrev pub AreNested : List Op → Type 0
AreNested ops =
    (n m : ℕ) (l k : LockNo) (outer inner : Mode) (past next : ℕ)
    → slice_get ops n ≡ Some (Try l outer past) → slice_get ops m ≡ Some (Try k inner next)
    → n < m → m < past → next < past

-- each operation passes its tests on what those before it lead to, each try has its block and each endtry its try, and
-- nothing is held in the end
pub record Fit (locks : List LockDecl) (chans : List ChanDecl) (ops : List Op) : Type 0 where
  pub each : (n : ℕ) (op : Op) → slice_get ops n ≡ Some op
      → Passes (operation_tests locks chans op (held_of ops n))
  pub blocks : (n : ℕ) (l : LockNo) (mode : Mode) (past : ℕ)
      → slice_get ops n ≡ Some (Try l mode past) → IsBlock ops n past
  pub endtries : (n : ℕ) → slice_get ops n ≡ Some EndTry → EndsBlock ops n
  pub nested : AreNested ops
  pub released : held_of ops (length ops) ≡ []

-- 5. Plans

-- the operations of all threads. A wait makes two entries and every other operation one at most; and each lock that a
-- cut thread gives back was gained by an operation that made one
abbrev pub operations_in_all : Plan → ℕ
operations_in_all plan = sum (map (λ d. length d.ops) plan.threads)

-- each thread begins and ends with nothing held, and its operations fit in between; the limits that a run needs are
-- kept
pub record IsProper (plan : Plan) : Type 0 where
  pub threads : length plan.threads ≤ most_threads
  pub locks : length plan.locks ≤ most_locks
  pub chans : length plan.chans ≤ most_channels
  pub classes : length plan.classes ≤ most_classes
  pub operations : operations_in_all plan ≤ most_operations
  pub scheduled : length plan.schedule ≤ most_scheduled
  pub schedule : All (λ t. t.0 < length plan.threads) plan.schedule
  -- a lock's class is one of the plan's, and so is a channel's lock
  pub lock_classes : All (λ d. d.class.0 < length plan.classes) plan.locks
  pub chan_locks : All (λ d. d.lock.0 < length plan.locks) plan.chans
  pub fits : (t : ℕ) → Fit plan.locks plan.chans (operations_of plan t)
