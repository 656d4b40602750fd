-- What each line of a script keeps of what is known, so that it can be written again: names and what they stand for,
-- the classes of locks by their first uses, and threads that their own lines lead to.
use Rattle.script_laws.proofs.Names
use Names.{ℕ, suc, Bool, true, false, not, nat_le, nat_lt, cond, List, [], length, Option, Some, None, refl, sym, ap}
use Names.{subst, append-nil, map, codes, is_some, option_map, unwrap_or, All, lookup, and_parts, false≢true, leb-true}
use Names.{none-some, same_Some, length-map, map-append, All-nil, All-same, All-push, is_empty, most_classes}
use Names.{most_operations, greatest_number, greatest_priority, is_name, operation_tests, test, Passes, where_some}
use Names.{first_fault, passed, passed_both, Reads, Faulty, told, plan_of, reading_from, reading_of_lines, reading_of}
use Names.{IsAccepted, lines_of, is_same, has_meaning, priority_of, number_of, number_up_to, is_numeral, digits_value}
use Names.{Statement, Declares, DeclaresChan, Begins, Ends, Schedules, IsDone, Operates, EndsTry, Operation}
use Names.{statement_of, Known, OpenThread, Block, nothing_known, learned, with_lock, with_chan, with_end}
use Names.{with_operation, with_endtry, without_block, op_of, with_key, with_number, lock_named, chan_named}
use Names.{class_number, with_class, class_named, byte_tests, word_tests, place_tests, name_tests, statement_stages}
use Names.{line_fault, behind_line, learned_from, operation_words, tests_in_thread, endtry_tests, is_in_block, has_room}
use Names.{Declared, Lock, Chan, Thread, Kind, ThreadDecl, LockDecl, ChanDecl, LockNo, Plan, Op, Take, Try, Release}
use Names.{Set, Add, Get, Base, Sleep, WakeOne, WakeAll, arith}
use Rattle.std.proofs.Common.{◌≡◌, ◌≤◌, ◌&&◌, ◌∷◌, ◌++◌, ◌∙◌}
use Rattle.lock_model.specs.Script.Statements as say
use Rattle.script_laws.proofs.Accepted.{OpenIsSound, IsSound, nothing_sound, line_sound, faulty-reads, not_inside, none_left}
use Rattle.script_laws.proofs.AcceptedLists.{none_is, empty_is, stages_pass}
use Rattle.script_laws.proofs.CanonicalNames.{name_in, AreNamed, named_more, more_locks, more_chans, more_threads}
use Rattle.script_laws.proofs.CanonicalOperations.{IsReadable, behind}
use Rattle.script_laws.proofs.CanonicalThreads.{IsReplayed, IsEnded, begin_replayed, operation_replayed, endtry_replayed}

-- 1. What is kept

-- a lock's class by the classes before it
pub record IsClassed (before : List (List ℕ)) (d : LockDecl) (class : List ℕ) : Type 0 where
  pub named : is_name class ≡ true
  pub number : d.class.0 ≡ class_number before class
  pub few : nat_lt (class_number before class) most_classes ≡ true

-- locks declare classes by their first uses
abbrev pub DeclareClasses : List (List ℕ) → List LockDecl → List (List ℕ) → Type 0
DeclareClasses before [] all = before ≡ all
DeclareClasses before (d ∷ ds) all =
    (class : List ℕ) × (IsClassed before d class × DeclareClasses (with_class before class) ds all)

classes_push : (before all : List (List ℕ)) (ds : List LockDecl) (d : LockDecl) (class : List ℕ)
    → DeclareClasses before ds all → IsClassed all d class → DeclareClasses before (ds ++ d ∷ []) (with_class all class)
classes_push before all [] d class h g = (
  class,
  (subst (λ (x : List (List ℕ)). IsClassed x d class) (sym h) g, ap (λ (x : List (List ℕ)). with_class x class) h),
)
classes_push before all (x ∷ ds) d class h g =
    (h.0, (h.1.0, classes_push (with_class before h.0) all ds d class h.1.1 g))

abbrev pub names_of_locks : List LockDecl → List (List ℕ)
names_of_locks locks = map (λ d. d.name) locks

abbrev pub names_of_chans : List ChanDecl → List (List ℕ)
names_of_chans chans = map (λ d. d.name) chans

abbrev pub names_of_threads : List ThreadDecl → List (List ℕ)
names_of_threads threads = map (λ d. d.name) threads

abbrev pub open_names : Option OpenThread → List (List ℕ)
open_names None = []
open_names (Some t) = t.name ∷ []

-- names of threads that have begun
abbrev pub begun_names : List ThreadDecl → Option OpenThread → List (List ℕ)
begun_names threads o = names_of_threads threads ++ open_names o

abbrev OpenIsReplayed : List LockDecl → List ChanDecl → Option OpenThread → Type 0
OpenIsReplayed locks chans None = Unit {0}
OpenIsReplayed locks chans (Some t) = IsReplayed locks chans t

pub record IsKept (k : Known) : Type 0 where
  pub named : AreNamed k.names
      (name_in (names_of_locks k.locks) (names_of_chans k.chans) (begun_names k.threads k.open_thread))
  pub classes : DeclareClasses [] k.locks k.classes
  pub threads : All (IsEnded k.locks k.chans) k.threads
  pub open_thread : OpenIsReplayed k.locks k.chans k.open_thread

-- where nothing is named
pub none_named : AreNamed [] (name_in [] [] [])
none_named = grind arith

nothing_kept : IsKept nothing_known
nothing_kept = record { named = none_named; classes = refl; threads = All-nil _; open_thread = tt }

-- 2. Each statement keeps it

-- where no thread is open
still_closed : (locks : List LockDecl) (chans : List ChanDecl) (o : Option OpenThread) → o ≡ None
    → OpenIsReplayed locks chans o
still_closed locks chans o e = subst (OpenIsReplayed locks chans) (sym e) tt

none_ended : (locks : List LockDecl) (chans : List ChanDecl) (ds : List ThreadDecl) → is_empty ds ≡ true
    → All (IsEnded locks chans) ds
none_ended locks chans ds e = All-same (IsEnded locks chans) ds [] (empty_is ds e) (All-nil _)

-- with a lock, a channel or a thread more
pub lock_named_more : (names : List (List ℕ × Declared)) (locks : List LockDecl) (cs ts : List (List ℕ))
    (lock : LockDecl) → AreNamed names (name_in (names_of_locks locks) cs ts) → lookup (is_same lock.name) names ≡ None
    → is_name lock.name ≡ true
    → AreNamed (names ++ (lock.name, Lock (record { 0 = length locks })) ∷ [])
    (name_in (names_of_locks (locks ++ lock ∷ [])) cs ts)
lock_named_more names locks cs ts lock h free name =
    let ls = names_of_locks locks in
    subst (λ (n : ℕ). AreNamed (names ++ (lock.name, Lock (record { 0 = n })) ∷ [])
    (name_in (names_of_locks (locks ++ lock ∷ [])) cs ts)) (length-map locks (λ (d : LockDecl). d.name))
    (subst
    (λ (ns : List (List ℕ)). AreNamed (names ++ (lock.name, Lock (record { 0 = length ls })) ∷ []) (name_in ns cs ts))
    (sym (map-append (λ (d : LockDecl). d.name) locks (lock ∷ [])))
    (named_more names (name_in ls cs ts) (name_in (ls ++ lock.name ∷ []) cs ts)
    (Lock (record { 0 = length ls })) lock.name h free name (more_locks ls cs ts lock.name)))

pub chan_named_more : (names : List (List ℕ × Declared)) (ls : List (List ℕ)) (chans : List ChanDecl)
    (ts : List (List ℕ)) (chan : ChanDecl) → AreNamed names (name_in ls (names_of_chans chans) ts)
    → lookup (is_same chan.name) names ≡ None → is_name chan.name ≡ true
    → AreNamed (names ++ (chan.name, Chan (record { 0 = length chans })) ∷ [])
    (name_in ls (names_of_chans (chans ++ chan ∷ [])) ts)
chan_named_more names ls chans ts chan h free name =
    let cs = names_of_chans chans in
    subst (λ (n : ℕ). AreNamed (names ++ (chan.name, Chan (record { 0 = n })) ∷ [])
    (name_in ls (names_of_chans (chans ++ chan ∷ [])) ts)) (length-map chans (λ (d : ChanDecl). d.name))
    (subst
    (λ (ns : List (List ℕ)). AreNamed (names ++ (chan.name, Chan (record { 0 = length cs })) ∷ []) (name_in ls ns ts))
    (sym (map-append (λ (d : ChanDecl). d.name) chans (chan ∷ [])))
    (named_more names (name_in ls cs ts) (name_in ls (cs ++ chan.name ∷ []) ts)
    (Chan (record { 0 = length cs })) chan.name h free name (more_chans ls cs ts chan.name)))

pub thread_named_more : (names : List (List ℕ × Declared)) (ls cs : List (List ℕ)) (threads : List ThreadDecl)
    (name : List ℕ) → AreNamed names (name_in ls cs (names_of_threads threads)) → lookup (is_same name) names ≡ None
    → is_name name ≡ true
    → AreNamed (names ++ (name, Thread (record { 0 = length threads })) ∷ [])
    (name_in ls cs (names_of_threads threads ++ name ∷ []))
thread_named_more names ls cs threads name h free spelled =
    let ts = names_of_threads threads in
    subst (λ (n : ℕ). AreNamed (names ++ (name, Thread (record { 0 = n })) ∷ []) (name_in ls cs (ts ++ name ∷ [])))
    (length-map threads (λ (d : ThreadDecl). d.name))
    (named_more names (name_in ls cs ts) (name_in ls cs (ts ++ name ∷ []))
    (Thread (record { 0 = length ts })) name h free spelled (more_threads ls cs ts name))

lock_kept : (k : Known) (kind : Kind) (name class : List ℕ) → IsKept k
    → Passes (place_tests k (Declares kind name class)) → Passes (name_tests k (Declares kind name class))
    → IsKept (with_lock k kind name class)
lock_kept k kind name class h place tests =
    let before = and_parts _ _ (passed _ _ place).0 in
    let one = passed _ _ tests in
    let two = passed _ _ one.1 in
    let three = passed _ _ two.1 in
    let few = (passed _ _ (passed _ _ three.1).1).0 in
    let lock : LockDecl = record { name = name; kind = kind; class = class_named k class } in
    record {
      named = lock_named_more k.names k.locks (names_of_chans k.chans)
          (begun_names k.threads k.open_thread) lock h.named (none_is _ three.0) one.0;
      classes =
          classes_push [] k.classes k.locks lock class h.classes (record { named = two.0; number = refl; few = few });
      threads = none_ended (k.locks ++ lock ∷ []) k.chans k.threads before.1;
      open_thread = still_closed (k.locks ++ lock ∷ []) k.chans k.open_thread (none_is k.open_thread before.0);
    }

chan_kept : (k : Known) (on_cond : Bool) (name lock : List ℕ) (l : LockNo) → IsKept k
    → Passes (place_tests k (DeclaresChan on_cond name lock)) → Passes (name_tests k (DeclaresChan on_cond name lock))
    → IsKept (with_chan k on_cond name l)
chan_kept k on_cond name lock l h place tests =
    let before = and_parts _ _ (passed _ _ place).0 in
    let one = passed _ _ tests in
    let three = passed _ _ (passed _ _ one.1).1 in
    let chan : ChanDecl = record { name = name; cond = on_cond; lock = l } in
    record {
      named = chan_named_more k.names (names_of_locks k.locks) k.chans
          (begun_names k.threads k.open_thread) chan h.named (none_is _ three.0) one.0;
      classes = h.classes;
      threads = none_ended k.locks (k.chans ++ chan ∷ []) k.threads before.1;
      open_thread = still_closed k.locks (k.chans ++ chan ∷ []) k.open_thread (none_is k.open_thread before.0);
    }

-- a number that a word spells is within its bound
pub spelled_within : (bound : ℕ) (word : List ℕ) (n : ℕ) → number_up_to bound word ≡ Some n → n ≤ bound
spelled_within bound word n e = go (is_numeral word && nat_le (digits_value word) bound) refl e
  where
    go : (b : Bool) → (is_numeral word && nat_le (digits_value word) bound) ≡ b
        → cond b (Some (digits_value word)) None ≡ Some n → n ≤ bound
    go true q e = subst (λ (m : ℕ). m ≤ bound) (same_Some (digits_value word) n e)
        (leb-true (digits_value word) bound (and_parts (is_numeral word) _ q).1)
    go false q e = absurd (none-some n e)

begin_kept : (k : Known) (name prio : List ℕ) → IsKept k → Passes (place_tests k (Begins name prio))
    → Passes (name_tests k (Begins name prio)) → IsKept (learned k (Begins name prio))
begin_kept k name prio h place tests =
    let none = not_inside k.open_thread (passed _ _ place).0 in
    let one = passed _ _ tests in
    let two = passed _ _ one.1 in
    let there = (passed _ _ two.1).0 in
    let before : AreNamed k.names
    (name_in (names_of_locks k.locks) (names_of_chans k.chans) (names_of_threads k.threads)) =
    subst (λ (ts : List (List ℕ)). AreNamed k.names (name_in (names_of_locks k.locks) (names_of_chans k.chans) ts))
    (ap (begun_names k.threads) none ∙ append-nil (names_of_threads k.threads)) h.named in
    record {
      named = thread_named_more k.names (names_of_locks k.locks) (names_of_chans k.chans) k.threads name before
          (none_is _ two.0) one.0;
      classes = h.classes;
      threads = h.threads;
      open_thread =
          begin_replayed k.locks k.chans name (unwrap_or (priority_of prio) 0) (small (priority_of prio) refl there);
    }
  where
    small : (o : Option ℕ) → priority_of prio ≡ o → is_some o ≡ true → unwrap_or o 0 ≤ greatest_priority
    small o e there = grind arith

end_kept : (k : Known) (t : OpenThread) → IsKept k → k.open_thread ≡ Some t → t.blocks ≡ [] → t.held ≡ []
    → IsKept (with_end k (Some t))
end_kept k t h o closed released =
    let done : ThreadDecl = record { name = t.name; base = record { 0 = t.base }; ops = t.ops } in
    let names : begun_names k.threads k.open_thread ≡ begun_names (k.threads ++ done ∷ []) None =
    ap (begun_names k.threads) o ∙ sym (map-append (λ (d : ThreadDecl). d.name) k.threads (done ∷ []))
    ∙ sym (append-nil (names_of_threads (k.threads ++ done ∷ []))) in
    record {
      named = subst
          (λ (ts : List (List ℕ)). AreNamed k.names (name_in (names_of_locks k.locks) (names_of_chans k.chans) ts))
          names h.named;
      classes = h.classes;
      threads = All-push (IsEnded k.locks k.chans) k.threads done h.threads (record {
        last = t;
        replayed = subst (OpenIsReplayed k.locks k.chans) o h.open_thread;
        closed = closed;
        released = released;
        its = refl;
      });
      open_thread = tt;
    }

-- what the words of an operation keep to
module _ (k : Known) (t : OpenThread) where
  mapped : {A : Type 0} (f : A → Op) (o : Option A) (op : Op) → option_map f o ≡ Some op
      → ((x : A) → o ≡ Some x → IsReadable t (f x)) → IsReadable t op
  mapped f None op e h = absurd (none-some op e)
  mapped f (Some x) op e h = subst (IsReadable t) (same_Some (f x) op e) (h x refl)

  keyed : (f : LockNo → ℕ → Op) (l : Option LockNo) (n : Option ℕ) (op : Op) → with_key f l n ≡ Some op
      → ((l : LockNo) (m : ℕ) → n ≡ Some m → IsReadable t (f l m)) → IsReadable t op
  keyed f l n op e h = grind arith

  numbered : (f : LockNo → ℕ → ℕ → Op) (l : Option LockNo) (key n : Option ℕ) (op : Op) → with_number f l key n
      ≡ Some op → ((l : LockNo) (i m : ℕ) → key ≡ Some i → n ≡ Some m → IsReadable t (f l i m)) → IsReadable t op
  numbered f l key n op e h = grind arith

  within : (word : List ℕ) (n : ℕ) → number_of word ≡ Some n → n ≤ greatest_number
  within word n e = spelled_within greatest_number word n e

  readable : (o : Operation) (op : Op) → op_of k o ≡ Some op → Passes (operation_words k t o) → IsReadable t op
  readable (say.Take kind mode name) op e words = mapped (λ l. Take l mode) (lock_named k name) op e (λ l q. tt)
  readable (say.Release kind mode name) op e words = mapped (λ l. Release l) (lock_named k name) op e (λ l q. tt)
  readable (say.Try kind mode name) op e words =
      mapped (λ l. Try l mode 0) (lock_named k name) op e (λ l q. (refl, (passed _ _ words).0))
  readable (say.Set name key value) op e words = numbered Set (lock_named k name) (number_of key) (number_of value) op e
      (λ l i n p q. (within key i p, within value n q))
  readable (say.Add name key amount) op e words = numbered Add (lock_named k name) (number_of key)
      (number_of amount) op e (λ l i n p q. (within key i p, within amount n q))
  readable (say.Get name key) op e words = keyed Get (lock_named k name) (number_of key) op e (λ l i p. within key i p)
  readable (say.Prio prio) op e words =
      mapped (λ p. Base (record { 0 = p })) (priority_of prio) op e (λ p q. spelled_within greatest_priority prio p q)
  readable say.Show op e words = subst (IsReadable t) (same_Some _ op e) tt
  readable (say.Wait on_cond name) op e words = mapped (λ c. Sleep c) (chan_named k name) op e (λ c q. tt)
  readable (say.WakeOne on_cond name) op e words = mapped (λ c. WakeOne c) (chan_named k name) op e (λ c q. tt)
  readable (say.WakeAll on_cond name) op e words = mapped (λ c. WakeAll c) (chan_named k name) op e (λ c q. tt)

-- the open thread has made an operation
made_kept : (k : Known) (t made : OpenThread) → IsKept k → k.open_thread ≡ Some t → made.name ≡ t.name
    → IsReplayed k.locks k.chans made → IsKept (record k { open_thread = Some made; operations = suc k.operations })
made_kept k t made h o same replayed = record {
  named =
      subst (λ (ts : List (List ℕ)). AreNamed k.names (name_in (names_of_locks k.locks) (names_of_chans k.chans) ts))
      (ap (begun_names k.threads) o ∙ ap (λ (n : List ℕ). names_of_threads k.threads ++ n ∷ []) (sym same)) h.named;
  classes = h.classes;
  threads = h.threads;
  open_thread = replayed;
}

said_kept : (k : Known) (o : Operation) → IsSound k → IsKept k → (x : Option OpenThread) → k.open_thread ≡ x
    → Passes (where_some (tests_in_thread k o) x) → IsKept (with_operation k x (op_of k o))
said_kept k o s h None e passes = h
said_kept k o s h (Some t) e passes =
    let later = passed_both (operation_words k t o)
    (has_room most_operations k.operations ∷ where_some (λ op. operation_tests k.locks k.chans op t.held) (op_of k o))
    passes in
    go (op_of k o) (λ op q. readable k t o op q later.0) (passed _ _ later.1).1
  where
    go : (x : Option Op) → ((op : Op) → x ≡ Some op → IsReadable t op)
        → Passes (where_some (λ op. operation_tests k.locks k.chans op t.held) x) → IsKept (with_operation k (Some t) x)
    go None r q = h
    go (Some op) r q =
        made_kept k t (behind t op) h e refl
        (operation_replayed k.locks k.chans t (subst (OpenIsSound k.locks k.chans) e s.open_thread)
        (subst (OpenIsReplayed k.locks k.chans) e h.open_thread) op (r op refl) q)

endtry_kept : (k : Known) → IsSound k → IsKept k → (x : Option OpenThread) → k.open_thread ≡ x → is_in_block x ≡ true
    → Passes (where_some (λ (t : OpenThread). endtry_tests k t t.blocks) x) → IsKept (with_endtry k x)
endtry_kept k s h None e inside passes = absurd (false≢true inside)
endtry_kept k s h (Some t) e inside passes = go t.blocks refl inside passes
  where
    go : (bs : List Block) → t.blocks ≡ bs → not (is_empty bs) ≡ true → Passes (endtry_tests k t bs)
        → IsKept (record k { open_thread = Some (without_block t bs); operations = suc k.operations })
    go [] f inside q = absurd (false≢true inside)
    go (b ∷ bs) f inside q =
        made_kept k t (without_block t (b ∷ bs)) h e refl
        (endtry_replayed k.locks k.chans t (subst (OpenIsSound k.locks k.chans) e s.open_thread)
        (subst (OpenIsReplayed k.locks k.chans) e h.open_thread) b bs f (passed _ _ (passed _ _ q).1).0)

statement_kept : (k : Known) (s : Statement) → IsSound k → IsKept k → Passes (place_tests k s) → Passes (name_tests k s)
    → IsKept (learned k s)
statement_kept k (Declares kind name class) sound h place tests = lock_kept k kind name class h place tests
statement_kept k (DeclaresChan on_cond name lock) sound h place tests =
    chan_kept k on_cond name lock (unwrap_or (lock_named k lock) (record { 0 = 0 })) h place tests
statement_kept k (Begins name prio) sound h place tests = begin_kept k name prio h place tests
statement_kept k Ends sound h place tests = go k.open_thread refl (passed _ _ (passed _ _ place).1).0 tests
  where
    go : (o : Option OpenThread) → k.open_thread ≡ o → not (is_in_block o) ≡ true
        → Passes (where_some (λ (t : OpenThread). test 14 (is_empty t.held) ∷ []) o) → IsKept (with_end k o)
    go None e closed q = h
    go (Some t) e closed q = end_kept k t h e (none_left t.blocks closed) (empty_is t.held (passed _ _ q).0)
statement_kept k (Schedules names) sound h place tests = assumption h
statement_kept k IsDone sound h place tests = assumption h
statement_kept k (Operates o) sound h place tests = said_kept k o sound h k.open_thread refl tests
statement_kept k EndsTry sound h place tests = endtry_kept k sound h k.open_thread refl (passed _ _ place).0 tests

-- 3. Each line keeps it

line_kept : (k : Known) (line : List ℕ) → IsSound k → IsKept k → line_fault k line ≡ None → IsKept (behind_line k line)
unfolding line_fault behind_line
line_kept k line sound h e = meaning (has_meaning line) (stages_pass (byte_tests line) _ e).1
  where
    says : (s : Option Statement) → first_fault (statement_stages k s) ≡ None → IsKept (learned_from k s)
    says None q = h
    says (Some s) q =
        let p = stages_pass (place_tests k s) (name_tests k s ∷ []) q in
        statement_kept k s sound h p.0 (stages_pass (name_tests k s) [] p.1).0

    meaning : (b : Bool) → first_fault (cond b (word_tests k line ∷ statement_stages k (statement_of line)) []) ≡ None
        → IsKept (cond b (learned_from k (statement_of line)) k)
    meaning true q = says (statement_of line) (stages_pass (word_tests k line) _ q).1
    meaning false q = h

-- a plan that is known somewhere, with what is kept there
pub record IsWritten (plan : Plan) : Type 0 where
  pub last : Known
  pub kept : IsKept last
  pub its : plan_of last ≡ plan

lines_written : (n : ℕ) (k : Known) (lines : List (List ℕ)) (plan : Plan) → IsSound k → IsKept k
    → reading_from n k lines ≡ Reads plan → IsWritten plan
unfolding reading_from
lines_written n k [] plan sound h e = go k.is_done e
  where
    go : (b : Bool) → cond b (Reads (plan_of k)) (Faulty (told n) 17) ≡ Reads plan → IsWritten plan
    go true q = record { last = k; kept = h; its = cc q }
    go false q = absurd cc
lines_written n k (line ∷ lines) plan sound h e =
    let q = faulty-reads n (line_fault k line) _ plan e in
    lines_written (suc n) (behind_line k line) lines plan
    (line_sound k line sound q.0) (line_kept k line sound h q.0) q.1

-- that of a script
pub accepted_written : (bytes : List ℕ) (plan : Plan) → IsAccepted bytes plan → IsWritten plan
unfolding IsAccepted reading_of reading_of_lines
accepted_written bytes plan e = go (lines_of bytes) e
  where
    go : (lines : List (List ℕ)) → reading_of_lines lines ≡ Reads plan → IsWritten plan
    go [] e = absurd cc
    go (header ∷ lines) e = by (is_same header (codes "lockrun 1")) e
      where
        by : (b : Bool) → cond b (reading_from 2 nothing_known lines) (Faulty 1 1) ≡ Reads plan → IsWritten plan
        by true q = lines_written 2 nothing_known lines plan nothing_sound nothing_kept q
        by false q = absurd cc
