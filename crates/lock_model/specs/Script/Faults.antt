-- The tests that a line has to pass, by stages: its bytes, its words, its place among the lines, and what it names.
-- The codes are this project's own.
use Rattle.std.specs.Prelude.{ℕ, ◌+◌, Bool, true, false, not, ◌&&◌, nat_le, nat_lt, is_some, is_none, ◌==◌, if◌then◌else◌, List, [], ◌∷◌, ◌++◌, length, map, slice_get, unwrap_or, Option, Some, None}
use Rattle.std.specs.List.{list_all}
use Rattle.std.specs.Cmp.Lexicographic.{pointwise}
use Rattle.lock_model.specs.Counts.{is_empty}
use Rattle.lock_model.specs.Holds.{Hold, NotHeld, Holds}
use Rattle.lock_model.specs.Limits.{most_threads, most_locks, most_channels, most_classes, most_open_tries, most_operations, most_scheduled, most_line_bytes}
use Rattle.lock_model.specs.Names.{is_name}
use Rattle.lock_model.specs.Operations.{hold_in, operation_tests, is_of_kind}
use Rattle.lock_model.specs.Tests.{Test, test, first_fault, where_some}
use Rattle.lock_model.specs.Script.Lines.{is_printable, has_meaning, number_of, priority_of}
use Rattle.lock_model.specs.Script.Statements.{Statement, Declares, DeclaresChan, Begins, Ends, Schedules, IsDone, Operates, EndsTry, Operation, Take, Release, Try, Set, Add, Get, Prio, Show, Wait, WakeOne, WakeAll, statement_of}
use Rattle.lock_model.specs.Script.Learning.{Known, OpenThread, Block, declared_as, lock_named, chan_named, thread_named, class_number, op_of, learned}
use Rattle.lock_model.specs.declared.event.Held.{Held}
use Rattle.lock_model.specs.declared.numbers.LockNo.{LockNo}
use Rattle.lock_model.specs.declared.numbers.ChanNo.{ChanNo}
use Rattle.lock_model.specs.declared.plan.Kind.{Kind}
use Rattle.lock_model.specs.declared.plan.Mode.{Mode}
use Rattle.lock_model.specs.declared.plan.Mode.TheVariants.{Excl, Shared}

-- 1. Bytes and words

-- a line is too long, or has a byte that may not stand in a script
abbrev pub byte_tests : List ℕ → List Test
byte_tests line =
    test 18 (nat_le (length line) most_line_bytes) ∷ test 19 (list_all is_printable line) ∷ []

-- a line says nothing, or says something behind `done`
abbrev pub word_tests : Known → List ℕ → List Test
word_tests k line = test 2 (not k.is_done && is_some (statement_of line)) ∷ []

-- 2. Place

abbrev pub is_inside : Known → Bool
is_inside k = not (is_none k.open_thread)

-- no thread has begun
abbrev pub is_before_threads : Known → Bool
is_before_threads k = is_none k.open_thread && is_empty k.threads

-- a try's block is open
abbrev pub is_in_block : Option OpenThread → Bool
is_in_block None = false
is_in_block (Some t) = not (is_empty t.blocks)

abbrev pub place_tests : Known → Statement → List Test
place_tests k (Declares kind name class) = test 16 (is_before_threads k) ∷ []
place_tests k (DeclaresChan cond name lock) = test 16 (is_before_threads k) ∷ []
place_tests k (Begins name prio) = test 17 (not (is_inside k)) ∷ []
place_tests k Ends = test 15 (is_inside k) ∷ test 17 (not (is_in_block k.open_thread)) ∷ []
place_tests k (Schedules names) = test 17 (not (is_inside k)) ∷ []
place_tests k IsDone = test 17 (not (is_inside k)) ∷ []
place_tests k (Operates o) = test 15 (is_inside k) ∷ []
place_tests k EndsTry = test 15 (is_in_block k.open_thread) ∷ []

-- 3. Names, numbers, limits and held locks

-- a name or class isn't spelled as a name
abbrev pub spelled : List ℕ → Test
spelled word = test 3 (is_name word)

-- a name is declared already
abbrev pub undeclared : Known → List ℕ → Test
undeclared k name = test 4 (is_none (declared_as k name))

-- a name isn't declared, or as another sort
abbrev pub names_lock : Known → List ℕ → Test
names_lock k name = test 5 (is_some (lock_named k name))

abbrev pub names_chan : Known → List ℕ → Test
names_chan k name = test 5 (is_some (chan_named k name))

abbrev pub names_thread : Known → List ℕ → Test
names_thread k name = test 5 (is_some (thread_named k name))

abbrev pub reads_number : List ℕ → Test
reads_number word = test 6 (is_some (number_of word))

abbrev pub reads_priority : List ℕ → Test
reads_priority word = test 6 (is_some (priority_of word))

-- a limit is passed
abbrev pub has_room : ℕ → ℕ → Test
has_room most n = test 7 (nat_lt n most)

abbrev pub is_same_truth : Bool → Bool → Bool
is_same_truth a b = if a then b else not b

abbrev pub is_same_mode : Mode → Mode → Bool
is_same_mode Excl Excl = true
is_same_mode Excl Shared = false
is_same_mode Shared Excl = false
is_same_mode Shared Shared = true

-- held in the other mode
abbrev pub is_other : Mode → Hold → Bool
is_other mode NotHeld = false
is_other mode (Holds held) = not (is_same_mode mode held)

-- a lock is of another kind than its operation
abbrev pub of_kind : Known → Kind → LockNo → Test
of_kind k kind l = test 8 (is_of_kind k.locks kind l)

-- a channel is used for a condition variable, or the reverse
abbrev pub of_sort : Known → Bool → ChanNo → Test
of_sort k cond c =
    test 8 (is_same_truth cond (unwrap_or (slice_get (map (λ d. d.cond) k.chans) c.0) cond))

-- a lock is released that is held in the other mode
abbrev pub held_so : OpenThread → Mode → LockNo → Test
held_so t mode l = test 10 (not (is_other mode (hold_in t.held l.0)))

-- a take or a try names a lock of its kind
abbrev pub gaining_words : Known → Kind → List ℕ → List Test
gaining_words k kind name =
    spelled name ∷ names_lock k name
    ∷ where_some (λ l. of_kind k kind l ∷ []) (lock_named k name)

-- a wait or a wake names a channel of its sort
abbrev pub sleeping_words : Known → Bool → List ℕ → List Test
sleeping_words k cond name =
    spelled name ∷ names_chan k name
    ∷ where_some (λ c. of_sort k cond c ∷ []) (chan_named k name)

-- tests of an operation's words, and of how it uses its lock
abbrev pub operation_words : Known → OpenThread → Operation → List Test
operation_words k t (Take kind mode name) = gaining_words k kind name
operation_words k t (Try kind mode name) =
    has_room most_open_tries (length t.blocks) ∷ gaining_words k kind name
operation_words k t (Release kind mode name) =
    spelled name ∷ names_lock k name
    ∷ where_some (λ l. of_kind k kind l ∷ held_so t mode l ∷ []) (lock_named k name)
operation_words k t (Set name key value) =
    spelled name ∷ names_lock k name ∷ reads_number key ∷ reads_number value ∷ []
operation_words k t (Add name key amount) =
    spelled name ∷ names_lock k name ∷ reads_number key ∷ reads_number amount ∷ []
operation_words k t (Get name key) =
    spelled name ∷ names_lock k name ∷ reads_number key ∷ []
operation_words k t (Prio prio) = reads_priority prio ∷ []
operation_words k t Show = []
operation_words k t (Wait cond name) = sleeping_words k cond name
operation_words k t (WakeOne cond name) = sleeping_words k cond name
operation_words k t (WakeAll cond name) = sleeping_words k cond name

-- tests of an operation: of its words, of how many there are, and of what they say against what the thread holds
abbrev pub tests_in_thread : Known → Operation → OpenThread → List Test
tests_in_thread k o t =
    operation_words k t o ++ has_room most_operations k.operations
    ∷ where_some (λ op. operation_tests k.locks k.chans op t.held) (op_of k o)

-- whether it is the same lock, held in the same way
abbrev pub is_same_held : Held → Held → Bool
is_same_held g h =
    (g.l.0 == h.l.0) && is_same_mode g.mode h.mode
    && is_same_truth g.by_try h.by_try

-- a block is closed where the thread holds just what it held before the try, in the same order
abbrev pub endtry_tests : Known → OpenThread → List Block → List Test
endtry_tests k t [] = []
endtry_tests k t (b ∷ bs) =
    has_room most_operations k.operations ∷ test 14 (pointwise is_same_held t.held b.before) ∷ []

abbrev pub name_tests : Known → Statement → List Test
name_tests k (Declares kind name class) =
    spelled name ∷ spelled class ∷ undeclared k name ∷ has_room most_locks (length k.locks)
    ∷ has_room most_classes (class_number k.classes class) ∷ []
name_tests k (DeclaresChan cond name lock) =
    spelled name ∷ spelled lock ∷ undeclared k name ∷ names_lock k lock
    ∷ has_room most_channels (length k.chans) ∷ []
name_tests k (Begins name prio) =
    spelled name ∷ undeclared k name ∷ reads_priority prio
    ∷ has_room most_threads (length k.threads) ∷ []
name_tests k Ends = where_some (λ (t : OpenThread). test 14 (is_empty t.held) ∷ []) k.open_thread
name_tests k (Schedules names) =
    test 3 (list_all is_name names)
    ∷ test 5 (list_all (λ name. is_some (thread_named k name)) names)
    ∷ test 7 (nat_le (length k.schedule + length names) most_scheduled) ∷ []
name_tests k IsDone = []
name_tests k (Operates o) = where_some (tests_in_thread k o) k.open_thread
name_tests k EndsTry = where_some (λ t. endtry_tests k t t.blocks) k.open_thread

-- 4. Lines

abbrev pub statement_stages : Known → Option Statement → List (List Test)
statement_stages k None = []
statement_stages k (Some s) = place_tests k s ∷ name_tests k s ∷ []

-- what a line has to pass; where it has no meaning, its bytes alone are judged
abbrev pub stages : Known → List ℕ → List (List Test)
stages k line =
    byte_tests line
    ∷ (if has_meaning line then word_tests k line ∷ statement_stages k (statement_of line) else [])

-- the code of a line's fault
unfoldable pub line_fault : Known → List ℕ → Option ℕ
line_fault k line = first_fault (stages k line)

abbrev pub learned_from : Known → Option Statement → Known
learned_from k None = k
learned_from k (Some s) = learned k s

-- what is known behind a line without a fault
unfoldable pub behind_line : Known → List ℕ → Known
behind_line k line = if has_meaning line then learned_from k (statement_of line) else k
