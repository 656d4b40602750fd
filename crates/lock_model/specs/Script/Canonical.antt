-- The canonical text of a plan, which is a script of it: the locks, the condition variables and channels, the threads
-- with their operations, and the schedule, each in the plan's order. A line is its words with one space between them,
-- and byte 10. The words of operations are those of the printed text. This form is the project's own.
use Rattle.std.specs.Prelude.{ℕ, zero, suc, ◌+◌, ◌/◌, if◌then◌else◌, List, [], ◌∷◌, ◌++◌, length, take, drop, map, flat_map, codes, decimal}
use Rattle.lock_model.specs.Holds.{Hold, NotHeld, Holds}
use Rattle.lock_model.specs.Operations.{hold_in, held_behind}
use Rattle.lock_model.specs.Text.{line_of, mode_letter, chan_word, thread_name, lock_name, lock_kind, chan_name, class_name}
use Rattle.lock_model.specs.declared.event.Held.{Held}
use Rattle.lock_model.specs.declared.numbers.ChanNo.{ChanNo}
use Rattle.lock_model.specs.declared.numbers.LockNo.{LockNo}
use Rattle.lock_model.specs.declared.numbers.ThreadNo.{ThreadNo}
use Rattle.lock_model.specs.declared.plan.Kind.{Kind}
use Rattle.lock_model.specs.declared.plan.Kind.TheVariants.{Mtx, Rw, Sx}
use Rattle.lock_model.specs.declared.plan.Mode.{Mode}
use Rattle.lock_model.specs.declared.plan.Mode.TheVariants.{Excl}
use Rattle.lock_model.specs.declared.plan.LockDecl.{LockDecl}
use Rattle.lock_model.specs.declared.plan.ChanDecl.{ChanDecl}
use Rattle.lock_model.specs.declared.plan.ThreadDecl.{ThreadDecl}
use Rattle.lock_model.specs.declared.plan.Op.{Op}
use Rattle.lock_model.specs.declared.plan.Op.TheVariants.{Take, Try, EndTry, Release, Set, Add, Get, Base, Show, Sleep, WakeOne, WakeAll}
use Rattle.lock_model.specs.declared.plan.Plan.{Plan}

-- 1. Locks, condition variables and channels

abbrev pub kind_word : Kind → List ℕ
kind_word Mtx = codes "mutex"
kind_word Rw = codes "rw"
kind_word Sx = codes "sx"

-- a lock's name and its class
abbrev pub lock_line : Plan → LockDecl → List ℕ
lock_line plan d = line_of (kind_word d.kind) (d.name ∷ class_name plan d.class.0 ∷ [])

-- the name of a condition variable or channel, and its lock
abbrev pub chan_line : Plan → ChanDecl → List ℕ
chan_line plan d =
    line_of (if d.cond then codes "cond" else codes "chan") (d.name ∷ lock_name plan d.lock.0 ∷ [])

-- 2. Threads

-- the mode in which a lock is held, where it is
abbrev pub held_mode : Hold → Mode
held_mode NotHeld = Excl
held_mode (Holds mode) = mode

-- a line that says a word of a lock, or of a condition variable or channel
abbrev pub on_lock : Plan → List ℕ → LockNo → List ℕ
on_lock plan word l = line_of word (lock_name plan l.0 ∷ [])

abbrev pub on_chan : Plan → List ℕ → ChanNo → List ℕ
on_chan plan word c = line_of word (chan_name plan c.0 ∷ [])

-- how a lock's word begins that says a mode
abbrev pub letter : Plan → LockNo → Mode → List ℕ
letter plan l mode = mode_letter (lock_kind plan l.0) mode

-- an operation of a thread that holds these locks
abbrev pub operation_line : Plan → List Held → Op → List ℕ
operation_line plan held (Take l mode) = on_lock plan (letter plan l mode ++ codes "lock") l
operation_line plan held (Try l mode past) =
    on_lock plan (codes "try" ++ letter plan l mode ++ codes "lock") l
operation_line plan held EndTry = line_of (codes "endtry") []
operation_line plan held (Release l) =
    on_lock plan (letter plan l (held_mode (hold_in held l.0)) ++ codes "unlock") l
operation_line plan held (Set l key value) =
    line_of (codes "set") (lock_name plan l.0 ∷ decimal key ∷ decimal value ∷ [])
operation_line plan held (Add l key amount) =
    line_of (codes "add") (lock_name plan l.0 ∷ decimal key ∷ decimal amount ∷ [])
operation_line plan held (Get l key) =
    line_of (codes "get") (lock_name plan l.0 ∷ decimal key ∷ [])
operation_line plan held (Base prio) = line_of (codes "prio") (decimal prio.0 ∷ [])
operation_line plan held Show = line_of (codes "show") []
operation_line plan held (Sleep c) =
    on_chan plan (chan_word plan c.0 (codes "wait") (codes "msleep")) c
operation_line plan held (WakeOne c) =
    on_chan plan (chan_word plan c.0 (codes "signal") (codes "wakeup_one")) c
operation_line plan held (WakeAll c) =
    on_chan plan (chan_word plan c.0 (codes "broadcast") (codes "wakeup")) c

-- operations in order, of a thread that holds these locks before them
abbrev pub operation_lines : Plan → List Held → List Op → List ℕ
operation_lines plan held [] = []
operation_lines plan held (op ∷ ops) =
    operation_line plan held op ++ operation_lines plan (held_behind op held) ops

abbrev pub thread_lines : Plan → ThreadDecl → List ℕ
thread_lines plan d =
    line_of (codes "thread") (d.name ∷ decimal d.base.0 ∷ [])
    ++ (operation_lines plan [] d.ops ++ line_of (codes "end") [])

-- 3. The schedule

abbrev pub schedule_line : Plan → List ThreadNo → List ℕ
schedule_line plan ts = line_of (codes "schedule") (map (λ t. thread_name plan t.0) ts)

-- n lines of ten names, of which the last may be shorter
abbrev pub lines_of_ten : Plan → ℕ → List ThreadNo → List ℕ
lines_of_ten plan zero ts = []
lines_of_ten plan (suc n) ts =
    schedule_line plan (take 10 ts) ++ lines_of_ten plan n (drop 10 ts)

-- as many as it takes
abbrev pub schedule_lines : Plan → List ThreadNo → List ℕ
schedule_lines plan ts = lines_of_ten plan ((length ts + 9) / 10) ts

-- 4. The whole text

unfoldable pub canonical : Plan → List ℕ
canonical plan =
    line_of (codes "lockrun 1") []
    ++ (flat_map (lock_line plan) plan.locks
    ++ (flat_map (chan_line plan) plan.chans
    ++ (flat_map (thread_lines plan) plan.threads
    ++ (schedule_lines plan plan.schedule
    ++ line_of (codes "done") []))))
