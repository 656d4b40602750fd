-- Words of this crate's contracts: cuts of a source, and what reading answers.
use Rattle.std.specs.Prelude.{◌≡◌, ℕ, ◌+◌, ◌<◌, ◌≤◌, Bool, true, false, not, ◌==◌, if◌then◌else◌, ok_or, List, [], ◌∷◌, slice_index, Option, Some, None, Result, Ok, Err}
use Rattle.std.specs.Int.{w64, trailing_zeros}
use Rattle.std.specs.List.{list_all}
use Rattle.lock_model.specs.Script.{Reading, Reads, Faulty, IsFaulty}
use Rattle.lock_model.specs.Names.{is_name}
use Rattle.lock_model.specs.Script.Lines.{words_of}
use Rattle.lock_model.specs.Limits.{most_operations}
use Rattle.lock_model.specs.Operations.{acquiring_tests, channel_test}
use Rattle.lock_model.specs.Script.Faults.{statement_stages, name_tests, tests_in_thread, of_kind, of_sort, has_room}
use Rattle.lock_model.specs.Script.Learning.{Known, OpenThread, learned}
use Rattle.lock_model.specs.Script.Statements.{Statement, Operation}
use Rattle.lock_model.specs.Tests.{Test, least_code, first_fault}
use Rattle.lock_model.specs.declared.numbers.ChanNo.{ChanNo}
use Rattle.lock_model.specs.declared.numbers.LockNo.{LockNo}
use Rattle.lock_model.specs.declared.plan.Kind.{Kind}
use Rattle.lock_model.specs.declared.plan.Mode.{Mode}
use Rattle.lock_model.specs.declared.plan.Plan.{Plan}
use Rattle.script_read.specs.declared.fault.Code.{Code}
use Rattle.script_read.specs.declared.fault.LineError.{LineError}
use Rattle.script_read.specs.declared.fault.LineError.TheVariants as line
use Rattle.script_read.specs.declared.fault.ReadError.{ReadError}
use Rattle.script_read.specs.declared.fault.ReadError.TheVariants.{Script, Memory}

-- no byte is that one
abbrev pub Lacks : ℕ → List ℕ → Type 0
Lacks byte bytes = list_all (λ b. not (b == byte)) bytes ≡ true

-- of n bytes from a place on, the first so many pass a test, and the next fails it
pub record IsRunIn (test : ℕ → Bool) (bytes : List ℕ) (at n run : ℕ) : Type 0 where
  pub few : run ≤ n
  pub pass : (k : ℕ) → at ≤ k → k < at + run → test (slice_index bytes k) ≡ true
  pub stops : run < n → test (slice_index bytes (at + run)) ≡ false

-- the place of the lowest bit that is set, or n where none is
abbrev pub lowest_or : ℕ → ℕ → ℕ
lowest_or bits n = if bits == 0 then n else trailing_zeros w64 bits

-- the words of what stands behind a space, if there is one
abbrev pub words_behind : Option (List ℕ) → List (List ℕ)
words_behind None = []
words_behind (Some rest) = words_of rest

-- Why reading the bytes answers an error: `Script` tells the first faulty line and its code, and `Memory` says nothing
-- of the bytes.
abbrev pub Refuses : List ℕ → ReadError → Type 0
Refuses bytes (Script fault) = IsFaulty bytes fault.line fault.code
Refuses bytes (Memory e) = Unit {0}

-- the answer is what reading comes to, save for want of memory
abbrev pub Tells : Reading → Result Plan ReadError → Type 0
Tells reading (Ok plan) = reading ≡ Reads plan
Tells reading (Err (Script fault)) = reading ≡ Faulty fault.line fault.code
Tells reading (Err (Memory e)) = Unit {0}

-- why a line wasn't read, with its number
abbrev pub told_at : ℕ → LineError → ReadError
told_at n (line.Fault code) = Script (record { line = n; code = code.0 })
told_at n (line.Memory e) = Memory e

-- a test answers the fault that there is
abbrev pub Finds : {X : Type 0} → Option ℕ → Result X Code → Type 0
Finds fault (Ok x) = fault ≡ None
Finds fault (Err code) = fault ≡ Some code.0

-- a line wasn't read for its fault, or for want of memory
abbrev pub FailsBy : Option ℕ → LineError → Type 0
FailsBy fault (line.Fault code) = fault ≡ Some code.0
FailsBy fault (line.Memory e) = Unit {0}

-- A line is read as its fault says, save for want of memory: where it has none, what is known behind it is what it
-- teaches.
abbrev pub Goes : {X : Type 0} → Option ℕ → Known → Known → Result X LineError → Type 0
Goes fault taught known (Ok x) = (fault ≡ None) × (taught ≡ known)
Goes fault taught known (Err e) = FailsBy fault e

-- a statement is read as it is judged and learnt
abbrev pub GoesBy : {X : Type 0} → Known → Statement → Known → Result X LineError → Type 0
GoesBy old s new result =
    Goes (first_fault (statement_stages old (Some s))) (learned old s) new result

-- the faults of the last stage, of a statement and of an operation
abbrev pub name_fault : Known → Statement → Option ℕ
name_fault k s = least_code (name_tests k s)

abbrev pub operation_fault : Known → Operation → OpenThread → Option ℕ
operation_fault k o t = least_code (tests_in_thread k o t)

-- the tests of a take or a try whose lock is known
abbrev pub gain_tests : Known → OpenThread → Kind → Mode → LockNo → List Test
gain_tests k t kind mode l =
    of_kind k kind l ∷ has_room most_operations k.operations ∷ acquiring_tests k.locks l mode t.held

-- the tests that waits and wakes share, where the channel is known
abbrev pub sort_tests : Known → Bool → ChanNo → List Test
sort_tests k cond c =
    of_sort k cond c ∷ has_room most_operations k.operations ∷ channel_test k.chans c ∷ []

-- what a word names, or why it names nothing of that sort
abbrev pub named : {X : Type 0} → List ℕ → Option X → Result X Code
named word found = if is_name word then ok_or found (record { 0 = 5 }) else Err (record { 0 = 3 })
