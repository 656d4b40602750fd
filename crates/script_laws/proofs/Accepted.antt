-- An accepted script's plan is proper: it keeps the limits, its schedule names its threads, and the operations of
-- each thread fit what the thread holds. Each line that has no fault keeps what is known sound.
use Rattle.script_laws.proofs.Names
use Names.{ℕ, suc, max, Bool, true, false, not, cond, List, [], length, Option, Some, None, refl, sym, ap, subst, arith}
use Names.{length-append, map, sum, codes, option_and_then, option_to_list, is_none, is_some, unwrap_or, All, list_any}
use Names.{prefix_len, IfSome, lookup, none-some, same_Some, option_and_then_some, and_parts, ltb-true, leb-true}
use Names.{false≢true, length-set, All-nil, All-cons, All-head, All-tail, All-same, All-push, All-weaker, All-append}
use Names.{most_threads, most_locks, most_channels, most_classes, most_operations, most_scheduled, is_empty, is_name}
use Names.{operation_tests, Fit, IsProper, test, Passes, where_some, first_fault, passed, passed_both, Reading, Reads}
use Names.{Faulty, told, plan_of, faulty_or, reading_from, reading_of_lines, reading_of, IsAccepted, lines_of, is_same}
use Names.{has_meaning, Statement, Declares, DeclaresChan, Begins, Ends, Schedules, IsDone, Operates, EndsTry}
use Names.{Operation, statement_of, Known, OpenThread, Block, nothing_known, learned, with_class, with_lock, with_chan}
use Names.{with_thread, with_end, with_operation, with_endtry, without_block, op_of, lock_of, lock_named, thread_named}
use Names.{threads_named, thread_of, declared_as, class_number, byte_tests, word_tests, place_tests, name_tests}
use Names.{statement_stages, line_fault, behind_line, learned_from, operation_words, tests_in_thread, endtry_tests}
use Names.{is_before_threads, is_in_block, has_room, Declared, Lock, Chan, Thread, Kind, ThreadDecl, LockDecl, ChanDecl}
use Names.{LockNo, ThreadNo, Plan, Op, EndTry}
use Rattle.std.proofs.Common.{◌≡◌, ◌+◌, ◌<◌, ◌≤◌, ◌||◌, ◌∷◌, ◌++◌, ◌∙◌}
use Rattle.std.specs.Prelude.{if◌then◌else◌}
use Rattle.script_laws.proofs.AcceptedBlocks.{IsSoundOpen, IsNew, begin_sound, operation_push, endtry_sound, end_fits}
use Rattle.script_laws.proofs.AcceptedLists.{none_is, empty_is, stages_pass, sum_push, read_all}

-- 1. Names

-- the number of a declared lock is below how many there are, and that of a thread below how many have begun
abbrev IsWithin : ℕ → ℕ → Declared → Type 0
IsWithin locks threads (Lock l) = l.0 < locks
IsWithin locks threads (Chan c) = Unit {0}
IsWithin locks threads (Thread t) = t.0 < threads

abbrev AreWithin : ℕ → ℕ → List (List ℕ × Declared) → Type 0
AreWithin locks threads es = All (λ e. IsWithin locks threads e.1) es

within_more : (l m n o : ℕ) → l ≤ m → n ≤ o → (es : List (List ℕ × Declared)) → AreWithin l n es → AreWithin m o es
within_more l m n o locks threads es h = grind arith

found_within : (locks threads : ℕ) (p : List ℕ → Bool) (es : List (List ℕ × Declared)) (d : Declared)
    → AreWithin locks threads es → lookup p es ≡ Some d → IsWithin locks threads d
found_within locks threads p [] d h e = absurd (none-some d e)
found_within locks threads p (x ∷ es) d h e =
    elim (p x.0) as (λ b. cond b (Some x.1) (lookup p es) ≡ Some d → IsWithin locks threads d) [
      | true ↦
          λ q. subst (IsWithin locks threads) (same_Some x.1 d q) (All-head (λ e. IsWithin locks threads e.1) x es h)
      | false ↦ λ q. found_within locks threads p es d (All-tail (λ e. IsWithin locks threads e.1) x es h) q
    ] e

guarded : {A : Type 0} (b : Bool) (x : Option A) (y : A) → cond b x None ≡ Some y → x ≡ Some y
guarded true x y e = e
guarded false x y e = absurd (none-some y e)

-- what a name stands for is within the same bounds
module _ (locks threads : ℕ) (k : Known) (name : List ℕ) (h : AreWithin locks threads k.names) where
  named_so : {A : Type 0} (f : Declared → Option A) (P : A → Type 0) (x : A)
      → ((d : Declared) → IsWithin locks threads d → f d ≡ Some x → P x)
      → cond (is_name name) (option_and_then f (declared_as k name)) None ≡ Some x → P x
  named_so f P x its e = option_and_then_some f (declared_as k name) x (guarded (is_name name) _ x e)
      (λ d there q. its d (found_within locks threads (is_same name) k.names d h there) q)

  lock_within : (l : LockNo) → lock_named k name ≡ Some l → l.0 < locks
  lock_within l e = named_so lock_of (λ l. l.0 < locks) l its e
    where
      its : (d : Declared) → IsWithin locks threads d → lock_of d ≡ Some l → l.0 < locks
      its d w q = grind arith

  thread_within : (t : ThreadNo) → thread_named k name ≡ Some t → t.0 < threads
  thread_within t e = named_so thread_of (λ t. t.0 < threads) t its e
    where
      its : (d : Declared) → IsWithin locks threads d → thread_of d ≡ Some t → t.0 < threads
      its d w q = grind arith

-- 2. What the lines so far make known is sound

abbrev pub OpenIsSound : List LockDecl → List ChanDecl → Option OpenThread → Type 0
OpenIsSound locks chans None = Unit {0}
OpenIsSound locks chans (Some t) = IsSoundOpen locks chans t

-- threads that have begun and not ended, and their operations
abbrev opened : Option OpenThread → ℕ
opened None = 0
opened (Some t) = 1

abbrev operations_of_open : Option OpenThread → ℕ
operations_of_open None = 0
operations_of_open (Some t) = length t.ops

-- threads that have begun
abbrev begun : Known → ℕ
begun k = length k.threads + opened k.open_thread

pub record IsSound (k : Known) : Type 0 where
  names : AreWithin (length k.locks) (begun k) k.names
  locks : length k.locks ≤ most_locks
  chans : length k.chans ≤ most_channels
  classes : length k.classes ≤ most_classes
  lock_classes : All (λ d. d.class.0 < length k.classes) k.locks
  chan_locks : All (λ d. d.lock.0 < length k.locks) k.chans
  threads : begun k ≤ most_threads
  fits : All (λ d. Fit k.locks k.chans d.ops) k.threads
  pub open_thread : OpenIsSound k.locks k.chans k.open_thread
  operations : k.operations ≤ most_operations
  counted : sum (map (λ d. length d.ops) k.threads) + operations_of_open k.open_thread ≡ k.operations
  scheduled : length k.schedule ≤ most_scheduled
  schedule : All (λ t. t.0 < length k.threads) k.schedule

pub nothing_sound : IsSound nothing_known
nothing_sound = grind arith

-- 3. Each statement keeps that

-- where no thread is open
not_open : (locks : List LockDecl) (chans : List ChanDecl) (o : Option OpenThread) → o ≡ None
    → OpenIsSound locks chans o
not_open locks chans o e = subst (OpenIsSound locks chans) (sym e) tt

none_begun : (k : Known) → k.open_thread ≡ None → begun k ≡ length k.threads
none_begun k none = let e = ap (λ o. length k.threads + opened o) none in omega arith

pub not_inside : (o : Option OpenThread) → not (not (is_none o)) ≡ true → o ≡ None
not_inside o e = grind arith

pub none_left : (bs : List Block) → not (not (is_empty bs)) ≡ true → bs ≡ []
none_left bs e = grind arith

-- a class is known behind its line: its number is that of one of the classes, of which there are no fewer than before,
-- and at most one more
record IsKnown (before all : List (List ℕ)) (number : ℕ) : Type 0 where
  there : number < length all
  keeps : length before ≤ length all
  most : length all ≤ max (length before) (number + 1)

class_known : (classes : List (List ℕ)) (class : List ℕ)
    → IsKnown classes (with_class classes class) (class_number classes class)
class_known [] class = record { there = omega arith; keeps = omega arith; most = omega arith }
class_known (x ∷ xs) class = go (is_same class x) (list_any (is_same class) xs)
    (prefix_len (λ y. not (is_same class y)) xs) (class_known xs class)
  where
    go : (here later : Bool) (n : ℕ) → IsKnown xs (if later then xs else xs ++ class ∷ []) n
        → IsKnown (x ∷ xs) (if here || later then x ∷ xs else x ∷ (xs ++ class ∷ [])) (cond (not here) (1 + n) 0)
    go true later n h = record { there = omega arith; keeps = omega arith; most = omega arith }
    go false true n h = record { there = omega (arith, h.there); keeps = omega arith; most = omega arith }
    go false false n h =
        record { there = omega (arith, h.there); keeps = omega (arith, h.keeps); most = omega (arith, h.most) }

lock_sound : (k : Known) (kind : Kind) (name class : List ℕ) → IsSound k
    → Passes (place_tests k (Declares kind name class)) → Passes (name_tests k (Declares kind name class))
    → IsSound (with_lock k kind name class)
lock_sound k kind name class h place names =
    let before = and_parts _ _ (passed _ _ place).0 in
    let later = passed _ _ (passed _ _ (passed _ _ (passed _ _ names).1).1).1 in
    let room = later.0 in
    let lock : LockDecl = record { name = name; kind = kind; class = record { 0 = class_number k.classes class } } in
    let size : length (k.locks ++ lock ∷ []) ≡ length k.locks + 1 = length-append k.locks _ in
    let few : length k.locks < most_locks = ltb-true (length k.locks) most_locks room in
    let n : ℕ = length (k.locks ++ lock ∷ []) in
    let known = class_known k.classes class in
    let fewer : class_number k.classes class
    < most_classes = ltb-true (class_number k.classes class) most_classes (passed _ _ later.1).0 in
    record {
      names = All-push (λ e. IsWithin n (begun k) e.1) k.names (name, Lock (record { 0 = length k.locks }))
          (within_more (length k.locks) n (begun k) (begun k) (omega (arith, size)) (omega arith) k.names h.names)
          (omega (arith, size));
      locks = omega (arith, size, few);
      chans = h.chans;
      classes = omega (arith, known.most, fewer, h.classes);
      lock_classes = All-push (λ d. d.class.0 < length (with_class k.classes class)) k.locks lock
          (All-weaker (λ d. d.class.0 < length k.classes) (λ d. d.class.0 < length (with_class k.classes class))
          (λ d b. omega (arith, b, known.keeps)) k.locks h.lock_classes) known.there;
      chan_locks = All-weaker (λ d. d.lock.0 < length k.locks) (λ d. d.lock.0 < n)
          (λ d b. omega (arith, size, b)) k.chans h.chan_locks;
      threads = h.threads;
      fits = All-same (λ d. Fit (k.locks ++ lock ∷ []) k.chans d.ops) k.threads [] (empty_is k.threads before.1)
          (All-nil _);
      open_thread = not_open (k.locks ++ lock ∷ []) k.chans k.open_thread (none_is k.open_thread before.0);
      operations = h.operations;
      counted = h.counted;
      scheduled = h.scheduled;
      schedule = h.schedule;
    }

chan_sound : (k : Known) (cond : Bool) (name : List ℕ) (l : LockNo) → IsSound k → is_before_threads k ≡ true
    → l.0 < length k.locks → length k.chans < most_channels → IsSound (with_chan k cond name l)
chan_sound k cond name l h place within few =
    let before = and_parts _ _ place in
    let chan : ChanDecl = record { name = name; cond = cond; lock = l } in
    record {
      names = All-push (λ e. IsWithin (length k.locks) (begun k) e.1) k.names
          (name, Chan (record { 0 = length k.chans })) h.names tt;
      locks = h.locks;
      chans = omega (arith, length-append k.chans (chan ∷ []), few);
      classes = h.classes;
      lock_classes = h.lock_classes;
      chan_locks = All-push (λ d. d.lock.0 < length k.locks) k.chans chan h.chan_locks within;
      threads = h.threads;
      fits = All-same (λ d. Fit k.locks (k.chans ++ chan ∷ []) d.ops) k.threads [] (empty_is k.threads before.1)
          (All-nil _);
      open_thread = not_open k.locks (k.chans ++ chan ∷ []) k.open_thread (none_is k.open_thread before.0);
      operations = h.operations;
      counted = h.counted;
      scheduled = h.scheduled;
      schedule = h.schedule;
    }

thread_sound : (k : Known) (name : List ℕ) (base : ℕ) → IsSound k → k.open_thread ≡ None
    → length k.threads < most_threads → IsSound (with_thread k name base)
thread_sound k name base h none few =
    let n : ℕ = length k.threads in
    let before : begun k ≡ n = none_begun k none in
    let nothing : operations_of_open k.open_thread ≡ 0 = ap operations_of_open none in
    record {
      names = All-push (λ e. IsWithin (length k.locks) (n + 1) e.1) k.names (name, Thread (record { 0 = n }))
          (within_more (length k.locks) (length k.locks) (begun k) (n + 1) (omega arith)
          (omega (arith, before)) k.names h.names) (omega arith);
      locks = h.locks;
      chans = h.chans;
      classes = h.classes;
      lock_classes = h.lock_classes;
      chan_locks = h.chan_locks;
      threads = omega (arith, few);
      fits = h.fits;
      open_thread = begin_sound k.locks k.chans name base;
      operations = h.operations;
      counted = omega (arith, nothing, h.counted);
      scheduled = h.scheduled;
      schedule = h.schedule;
    }

end_sound : (k : Known) (t : OpenThread) → IsSound k → k.open_thread ≡ Some t → t.blocks ≡ [] → t.held ≡ []
    → IsSound (with_end k (Some t))
end_sound k t h o closed released =
    let done : ThreadDecl = record { name = t.name; base = record { 0 = t.base }; ops = t.ops } in
    let size : length (k.threads ++ done ∷ []) ≡ length k.threads + 1 = length-append k.threads _ in
    let before : begun k ≡ length k.threads + 1 = ap (λ o. length k.threads + opened o) o in
    let its : operations_of_open k.open_thread ≡ length t.ops = ap operations_of_open o in
    let in_all = sum_push (λ (d : ThreadDecl). length d.ops) k.threads done in
    let same : begun k ≡ length (k.threads ++ done ∷ []) + 0 = omega (arith, size, before) in
    record {
      names = subst (λ m. AreWithin (length k.locks) m k.names) same h.names;
      locks = h.locks;
      chans = h.chans;
      classes = h.classes;
      lock_classes = h.lock_classes;
      chan_locks = h.chan_locks;
      threads = omega (arith, same, h.threads);
      fits = All-push (λ d. Fit k.locks k.chans d.ops) k.threads done h.fits
          (end_fits k.locks k.chans t (subst (OpenIsSound k.locks k.chans) o h.open_thread) closed released);
      open_thread = tt;
      operations = h.operations;
      counted = omega (arith, in_all, its, h.counted);
      scheduled = h.scheduled;
      schedule = All-weaker (λ t. t.0 < length k.threads) (λ t. t.0 < length (k.threads ++ done ∷ []))
          (λ t b. omega (arith, size, b)) k.schedule h.schedule;
    }

-- the schedule names threads that have begun
threads_within : (locks threads : ℕ) (k : Known) (names : List (List ℕ)) → AreWithin locks threads k.names
    → All (λ t. t.0 < threads) (threads_named k names)
threads_within locks threads k [] h = All-nil _
threads_within locks threads k (name ∷ names) h = All-append (λ t. t.0 < threads) (option_to_list (thread_named k name))
    (threads_named k names) (go (thread_named k name) refl) (threads_within locks threads k names h)
  where
    go : (o : Option ThreadNo) → thread_named k name ≡ o → All (λ t. t.0 < threads) (option_to_list o)
    go None e = All-nil (λ (t : ThreadNo). t.0 < threads)
    go (Some t) e = All-cons (λ (t : ThreadNo). t.0 < threads) t [] (thread_within locks threads k name h t e)
        (All-nil (λ (t : ThreadNo). t.0 < threads))

one_at_most : {A : Type 0} (o : Option A) → length (option_to_list o) ≤ 1
one_at_most o = grind arith

threads_few : (k : Known) (names : List (List ℕ)) → length (threads_named k names) ≤ length names
threads_few k [] = omega arith
threads_few k (name ∷ names) = omega (
  arith,
  length-append (option_to_list (thread_named k name)) (threads_named k names),
  one_at_most (thread_named k name),
  threads_few k names,
)

schedule_sound : (k : Known) (names : List (List ℕ)) → IsSound k → k.open_thread ≡ None
    → length k.schedule + length names ≤ most_scheduled → IsSound (learned k (Schedules names))
schedule_sound k names h none few =
    let scheduled : length (k.schedule ++ threads_named k names)
    ≤ most_scheduled = omega (arith, length-append k.schedule (threads_named k names), threads_few k names, few) in
    let schedule = All-append (λ t. t.0 < length k.threads) k.schedule (threads_named k names) h.schedule
    (threads_within (length k.locks) (length k.threads) k names
    (subst (λ m. AreWithin (length k.locks) m k.names) (none_begun k none) h.names)) in
    assumption (h, scheduled, schedule)

said_new : (k : Known) (o : Operation) → IfSome (op_of k o) IsNew
said_new k o = grind arith

-- the open thread has made one operation more
operation_sound : (k : Known) (t made : OpenThread) → IsSound k → k.open_thread ≡ Some t
    → k.operations < most_operations → length made.ops ≡ length t.ops + 1 → IsSoundOpen k.locks k.chans made
    → IsSound (record k { open_thread = Some made; operations = suc k.operations })
operation_sound k t made h o few size sound =
    let before : begun k ≡ length k.threads + 1 = ap (λ o. length k.threads + opened o) o in
    let its : operations_of_open k.open_thread ≡ length t.ops = ap operations_of_open o in
    record {
      names = subst (λ m. AreWithin (length k.locks) m k.names) before h.names;
      locks = h.locks;
      chans = h.chans;
      classes = h.classes;
      lock_classes = h.lock_classes;
      chan_locks = h.chan_locks;
      threads = omega (arith, before, h.threads);
      fits = h.fits;
      open_thread = sound;
      operations = omega (arith, few);
      counted = omega (arith, size, its, h.counted);
      scheduled = h.scheduled;
      schedule = h.schedule;
    }

-- an operation's line
said_sound : (k : Known) (o : Operation) → IsSound k → (x : Option OpenThread) → k.open_thread ≡ x
    → Passes (where_some (tests_in_thread k o) x) → IsSound (with_operation k x (op_of k o))
said_sound k o h None e passes = h
said_sound k o h (Some t) e passes =
    let later = passed_both (operation_words k t o)
    (has_room most_operations k.operations ∷ where_some (λ op. operation_tests k.locks k.chans op t.held) (op_of k o))
    passes in
    let room = passed _ _ later.1 in
    go (op_of k o) (said_new k o) (ltb-true k.operations most_operations room.0) room.1
  where
    go : (x : Option Op) → IfSome x IsNew → k.operations < most_operations → Passes
        (where_some (λ op. operation_tests k.locks k.chans op t.held) x) → IsSound (with_operation k (Some t) x)
    go None new few q = h
    go (Some op) new few q =
        operation_sound k t _ h e few (length-append t.ops (op ∷ []))
        (operation_push k.locks k.chans t op (subst (OpenIsSound k.locks k.chans) e h.open_thread) new q)

-- the line of an endtry
endtry_line : (k : Known) → IsSound k → (x : Option OpenThread) → k.open_thread ≡ x → is_in_block x ≡ true
    → Passes (where_some (λ (t : OpenThread). endtry_tests k t t.blocks) x)
    → IsSound (with_endtry k x)
endtry_line k h None e inside passes = absurd (false≢true inside)
endtry_line k h (Some t) e inside passes = go t.blocks refl inside passes
  where
    go : (bs : List Block) → t.blocks ≡ bs → not (is_empty bs) ≡ true → Passes (endtry_tests k t bs)
        → IsSound (record k { open_thread = Some (without_block t bs); operations = suc k.operations })
    go [] f inside q = absurd (false≢true inside)
    go (b ∷ bs) f inside q =
        let room = passed _ _ q in
        operation_sound k t (without_block t (b ∷ bs)) h e (ltb-true k.operations most_operations room.0)
        (length-append _ (EndTry ∷ []) ∙ ap (λ n. n + 1) (length-set t.ops b.opened_at _))
        (endtry_sound k.locks k.chans t b bs (subst (OpenIsSound k.locks k.chans) e h.open_thread) f
        (passed _ _ room.1).0)

statement_sound : (k : Known) (s : Statement) → IsSound k → Passes (place_tests k s) → Passes (name_tests k s)
    → IsSound (learned k s)
statement_sound k (Declares kind name class) h place names = lock_sound k kind name class h place names
statement_sound k (DeclaresChan cond name lock) h place names =
    let later = passed _ _ (passed _ _ (passed _ _ (passed _ _ names).1).1).1 in
    go (lock_named k lock) refl later.0 (ltb-true (length k.chans) most_channels (passed _ _ later.1).0)
  where
    go : (o : Option LockNo) → lock_named k lock ≡ o → is_some o ≡ true → length k.chans < most_channels
        → IsSound (with_chan k cond name (unwrap_or o (record { 0 = 0 })))
    go None e there few = absurd (false≢true there)
    go (Some l) e there few =
        chan_sound k cond name l h (passed _ _ place).0 (lock_within (length k.locks) (begun k) k lock h.names l e) few
statement_sound k (Begins name prio) h place names =
    let room = (passed _ _ (passed _ _ (passed _ _ (passed _ _ names).1).1).1).0 in
    thread_sound k name _ h (not_inside k.open_thread (passed _ _ place).0)
    (ltb-true (length k.threads) most_threads room)
statement_sound k Ends h place names = go k.open_thread refl (passed _ _ (passed _ _ place).1).0 names
  where
    go : (o : Option OpenThread) → k.open_thread ≡ o → not (is_in_block o) ≡ true
        → Passes (where_some (λ (t : OpenThread). test 14 (is_empty t.held) ∷ []) o) → IsSound (with_end k o)
    go None e closed q = h
    go (Some t) e closed q = end_sound k t h e (none_left t.blocks closed) (empty_is t.held (passed _ _ q).0)
statement_sound k (Schedules names) h place tests =
    let room = (passed _ _ (passed _ _ (passed _ _ tests).1).1).0 in
    schedule_sound k names h (not_inside k.open_thread (passed _ _ place).0)
    (leb-true (length k.schedule + length names) most_scheduled room)
statement_sound k IsDone h place names = assumption h
statement_sound k (Operates o) h place names = said_sound k o h k.open_thread refl names
statement_sound k EndsTry h place names = endtry_line k h k.open_thread refl (passed _ _ place).0 names

-- 4. Lines and scripts

pub line_sound : (k : Known) (line : List ℕ) → IsSound k → line_fault k line ≡ None → IsSound (behind_line k line)
unfolding line_fault behind_line
line_sound k line h e = meaning (has_meaning line) (stages_pass (byte_tests line) _ e).1
  where
    says : (s : Option Statement) → statement_of line ≡ s → first_fault (statement_stages k s) ≡ None
        → IsSound (learned_from k s)
    says None f q = h
    says (Some s) f q =
        let p = stages_pass (place_tests k s) (name_tests k s ∷ []) q in
        statement_sound k s h p.0 (stages_pass (name_tests k s) [] p.1).0

    meaning : (b : Bool) → first_fault (cond b (word_tests k line ∷ statement_stages k (statement_of line)) []) ≡ None
        → IsSound (cond b (learned_from k (statement_of line)) k)
    meaning true q = says (statement_of line) refl (stages_pass (word_tests k line) _ q).1
    meaning false q = h

sound_proper : (k : Known) → IsSound k → IsProper (plan_of k)
sound_proper k h = record {
  threads = omega (arith, h.threads);
  locks = h.locks;
  chans = h.chans;
  classes = h.classes;
  lock_classes = h.lock_classes;
  operations = omega (arith, h.counted, h.operations);
  scheduled = h.scheduled;
  schedule = h.schedule;
  chan_locks = h.chan_locks;
  fits = read_all (Fit k.locks k.chans) (λ (d : ThreadDecl). d.ops) [] k.threads h.fits
      (end_fits k.locks k.chans _ (begin_sound k.locks k.chans [] 0) refl refl);
}

same_plan : (a b : Plan) → Reads a ≡ Reads b → a ≡ b
same_plan a b e = cc

-- a fault is no plan
pub faulty-reads : (n : ℕ) (fault : Option ℕ) (r : Reading) (plan : Plan) → faulty_or n fault r ≡ Reads plan
    → (fault ≡ None) × (r ≡ Reads plan)
faulty-reads n None r plan e = (refl, e)
faulty-reads n (Some code) r plan e = absurd (cc)

lines_proper : (n : ℕ) (k : Known) (lines : List (List ℕ)) (plan : Plan) → IsSound k
    → reading_from n k lines ≡ Reads plan → IsProper plan
unfolding reading_from
lines_proper n k [] plan h e = go k.is_done e
  where
    go : (b : Bool) → cond b (Reads (plan_of k)) (Faulty (told n) 17) ≡ Reads plan → IsProper plan
    go true q = subst IsProper (same_plan (plan_of k) plan q) (sound_proper k h)
    go false q = absurd cc
lines_proper n k (line ∷ lines) plan h e =
    let q = faulty-reads n (line_fault k line) _ plan e in
    lines_proper (suc n) (behind_line k line) lines plan (line_sound k line h q.0) q.1

-- the plan of a script is proper
pub accepted_proper : (bytes : List ℕ) (plan : Plan) → IsAccepted bytes plan → IsProper plan
unfolding IsAccepted reading_of reading_of_lines
accepted_proper bytes plan e = go (lines_of bytes) e
  where
    go : (lines : List (List ℕ)) → reading_of_lines lines ≡ Reads plan → IsProper plan
    go [] e = absurd cc
    go (header ∷ lines) e = by (is_same header (codes "lockrun 1")) e
      where
        by : (b : Bool) → cond b (reading_from 2 nothing_known lines) (Faulty 1 1) ≡ Reads plan → IsProper plan
        by true q = lines_proper 2 nothing_known lines plan nothing_sound q
        by false q = absurd cc
