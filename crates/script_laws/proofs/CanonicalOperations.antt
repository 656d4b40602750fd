-- The line of an operation leads a thread, wherever its locks and channels are known, to where the operation leads it.
use Rattle.script_laws.proofs.Names
use Names.{ℕ, zero, suc, Bool, true, false, not, nat_lt, cond, List, [], length, slice_get, Option, Some, None, decimal}
use Names.{refl, sym, ap, subst, arith, length-append, map, codes, unwrap_or, option_map, is_some, All, list_all}
use Names.{pointwise, false≢true, lt-ltb, ltb-true, eqb-true, slice_get-map, slice_get_within, length-map, All-head}
use Names.{All-tail, most_open_tries, most_operations, greatest_number, greatest_priority, Hold, Holds, is_unheld}
use Names.{is_name, hold_in, held_behind, is_of_kind, is_kind, may_be_held, operation_tests, Test, test, Passes}
use Names.{least_code, passed, spaced, line_of, mode_letter, lock_name, lock_kind, chan_name, is_cond, held_mode}
use Names.{operation_line, has_meaning, number_of, Statement, Operates, EndsTry, Operation, said_by, Known, OpenThread}
use Names.{Block, without_block, lock_named, chan_named, op_of, blocks_behind, with_operation, operation_words}
use Names.{tests_in_thread, is_other, is_same_truth, has_room, spelled, names_lock, names_chan, reads_number}
use Names.{gaining_words, sleeping_words, of_kind, of_sort, held_so, reads_priority, is_in_block, is_same_held}
use Names.{Declared, Lock, Chan, Kind, Mtx, Rw, Sx, Mode, Excl, Shared, LockDecl, ChanDecl, ThreadDecl, Op, Take, Try}
use Names.{EndTry, Release, Set, Add, Get, Base, Show, Sleep, WakeOne, WakeAll, Plan, Held, ChanNo, LockNo, ThreadNo}
use Rattle.std.proofs.Common.{◌≡◌, ◌<◌, ◌≤◌, ◌^◌, ◌||◌, ◌==◌, ◌∷◌, ◌++◌, ◌∙◌}
use Rattle.std.specs.Prelude.{if◌then◌else◌}
use Rattle.lock_model.specs.Script.Statements as say
use Rattle.script_laws.proofs.CanonicalWords.{is_word_byte, IsWord, IsLine, name_word, decimal_word, decimal_number}
use Rattle.script_laws.proofs.CanonicalReading.{Leads, line_leads}
use Rattle.script_laws.proofs.CanonicalNames.{stands_for}

-- 1. Tests and lines

pub passes_none : Passes []
unfolding least_code
passes_none = refl

pub passes_more : (t : Test) (ts : List Test) → t.passes ≡ true → Passes ts → Passes (t ∷ ts)
unfolding least_code
passes_more t ts e h = rw e h

pub passes_both : (ts us : List Test) → Passes ts → Passes us → Passes (ts ++ us)
passes_both [] us h g = g
passes_both (t ∷ ts) us h g = let p = passed t ts h in passes_more t (ts ++ us) p.0 (passes_both ts us p.1 g)

pub record IsFirst (word : List ℕ) : Type 0 where
  pub bytes : list_all is_word_byte word ≡ true
  pub meaning : has_meaning word ≡ true
  pub short : length word ≤ 20

pub line_alone : (first : List ℕ) → IsFirst first → IsLine first []
line_alone first h =
    record { bytes = h.bytes; meaning = h.meaning; words = tt; short = omega (arith, h.short, length-append first []) }

pub line_one : (first a : List ℕ) → IsFirst first → IsWord a → IsLine first (a ∷ [])
line_one first a h p = record {
  bytes = h.bytes;
  meaning = h.meaning;
  words = (p, tt);
  short = omega (arith, h.short, p.short, length-append first (spaced (a ∷ [])), length-append a []);
}

pub line_two : (first a b : List ℕ) → IsFirst first → IsWord a → IsWord b → IsLine first (a ∷ b ∷ [])
line_two first a b h p q = record {
  bytes = h.bytes;
  meaning = h.meaning;
  words = (p, (q, tt));
  short = omega (
    arith,
    h.short,
    p.short,
    q.short,
    length-append first (spaced (a ∷ b ∷ [])),
    length-append a (32 ∷ (b ++ [])),
    length-append b [],
  );
}

line_three : (first a b c : List ℕ) → IsFirst first → IsWord a → IsWord b → IsWord c → IsLine first (a ∷ b ∷ c ∷ [])
line_three first a b c h p q r = record {
  bytes = h.bytes;
  meaning = h.meaning;
  words = (p, (q, (r, tt)));
  short = omega (
    arith,
    h.short,
    p.short,
    q.short,
    r.short,
    length-append first (spaced (a ∷ b ∷ c ∷ [])),
    length-append a (32 ∷ (b ++ 32 ∷ (c ++ []))),
    length-append b (32 ∷ (c ++ [])),
    length-append c [],
  );
}

-- 2. Words of locks and channels

-- a mutex isn't shared
abbrev pub IsMode : Kind → Mode → Type 0
IsMode kind Excl = Unit {0}
IsMode Mtx Shared = ⊥
IsMode Rw Shared = Unit {0}
IsMode Sx Shared = Unit {0}

abbrev taking : Kind → Mode → List ℕ
taking kind mode = mode_letter kind mode ++ codes "lock"

abbrev releasing : Kind → Mode → List ℕ
releasing kind mode = mode_letter kind mode ++ codes "unlock"

abbrev trying : Kind → Mode → List ℕ
trying kind mode = codes "try" ++ mode_letter kind mode ++ codes "lock"

record IsWordFor (word name : List ℕ) (o : Operation) : Type 0 where
  first : IsFirst word
  says : said_by (word ∷ name ∷ []) ≡ Some (Operates o)

take_word : (kind : Kind) (mode : Mode) (name : List ℕ) → IsMode kind mode
    → IsWordFor (taking kind mode) name (say.Take kind mode name)
take_word Mtx Excl name h = record { first = record { bytes = refl; meaning = refl; short = omega arith }; says = refl }
take_word Mtx Shared name h = absurd h
take_word Rw Excl name h = record { first = record { bytes = refl; meaning = refl; short = omega arith }; says = refl }
take_word Rw Shared name h =
    record { first = record { bytes = refl; meaning = refl; short = omega arith }; says = refl }
take_word Sx Excl name h = record { first = record { bytes = refl; meaning = refl; short = omega arith }; says = refl }
take_word Sx Shared name h =
    record { first = record { bytes = refl; meaning = refl; short = omega arith }; says = refl }

try_word : (kind : Kind) (mode : Mode) (name : List ℕ) → IsMode kind mode
    → IsWordFor (trying kind mode) name (say.Try kind mode name)
try_word Mtx Excl name h = record { first = record { bytes = refl; meaning = refl; short = omega arith }; says = refl }
try_word Mtx Shared name h = absurd h
try_word Rw Excl name h = record { first = record { bytes = refl; meaning = refl; short = omega arith }; says = refl }
try_word Rw Shared name h = record { first = record { bytes = refl; meaning = refl; short = omega arith }; says = refl }
try_word Sx Excl name h = record { first = record { bytes = refl; meaning = refl; short = omega arith }; says = refl }
try_word Sx Shared name h = record { first = record { bytes = refl; meaning = refl; short = omega arith }; says = refl }

release_word : (kind : Kind) (mode : Mode) (name : List ℕ) → IsMode kind mode
    → IsWordFor (releasing kind mode) name (say.Release kind mode name)
release_word Mtx Excl name h =
    record { first = record { bytes = refl; meaning = refl; short = omega arith }; says = refl }
release_word Mtx Shared name h = absurd h
release_word Rw Excl name h =
    record { first = record { bytes = refl; meaning = refl; short = omega arith }; says = refl }
release_word Rw Shared name h =
    record { first = record { bytes = refl; meaning = refl; short = omega arith }; says = refl }
release_word Sx Excl name h =
    record { first = record { bytes = refl; meaning = refl; short = omega arith }; says = refl }
release_word Sx Shared name h =
    record { first = record { bytes = refl; meaning = refl; short = omega arith }; says = refl }

wait_word : (on_cond : Bool) (name : List ℕ)
    → IsWordFor (if on_cond then codes "wait" else codes "msleep") name (say.Wait on_cond name)
wait_word true name = record { first = record { bytes = refl; meaning = refl; short = omega arith }; says = refl }
wait_word false name = record { first = record { bytes = refl; meaning = refl; short = omega arith }; says = refl }

wake_one_word : (on_cond : Bool) (name : List ℕ)
    → IsWordFor (if on_cond then codes "signal" else codes "wakeup_one") name (say.WakeOne on_cond name)
wake_one_word true name = record { first = record { bytes = refl; meaning = refl; short = omega arith }; says = refl }
wake_one_word false name = record { first = record { bytes = refl; meaning = refl; short = omega arith }; says = refl }

wake_all_word : (on_cond : Bool) (name : List ℕ)
    → IsWordFor (if on_cond then codes "broadcast" else codes "wakeup") name (say.WakeAll on_cond name)
wake_all_word true name = record { first = record { bytes = refl; meaning = refl; short = omega arith }; says = refl }
wake_all_word false name = record { first = record { bytes = refl; meaning = refl; short = omega arith }; says = refl }

pub get_within : {A : Type 0} (xs : List A) (i : ℕ) → i < length xs → (x : A) × (slice_get xs i ≡ Some x)
get_within [] i h = absurd (omega (arith, h))
get_within (x ∷ xs) zero h = (x, refl)
get_within (x ∷ xs) (suc i) h = get_within xs i (omega (arith, h))

same_mode : (mode : Mode) → not (is_other mode (Holds mode)) ≡ true
same_mode mode = grind arith

same_truth : (b : Bool) → is_same_truth b b ≡ true
same_truth true = refl
same_truth false = refl

is_its_kind : (kind : Kind) → is_kind kind (Some kind) ≡ true
is_its_kind Mtx = refl
is_its_kind Rw = refl
is_its_kind Sx = refl

-- 3. What words can say

-- what an operation's words keep to
abbrev pub IsReadable : OpenThread → Op → Type 0
IsReadable t (Take l mode) = Unit {0}
IsReadable t (Try l mode past) = (past ≡ 0) × (nat_lt (length t.blocks) most_open_tries ≡ true)
IsReadable t EndTry = ⊥
IsReadable t (Release l) = Unit {0}
IsReadable t (Set l key value) = (key ≤ greatest_number) × (value ≤ greatest_number)
IsReadable t (Add l key amount) = (key ≤ greatest_number) × (amount ≤ greatest_number)
IsReadable t (Get l key) = key ≤ greatest_number
IsReadable t (Base prio) = prio.0 ≤ greatest_priority
IsReadable t Show = Unit {0}
IsReadable t (Sleep c) = Unit {0}
IsReadable t (WakeOne c) = Unit {0}
IsReadable t (WakeAll c) = Unit {0}

-- the thread behind an operation
abbrev pub behind : OpenThread → Op → OpenThread
behind t op = record t { ops = t.ops ++ op ∷ []; held = held_behind op t.held; blocks = blocks_behind t op }

-- 4. Where locks and channels are known

-- names stand for the locks and channels that have them
pub record Knows (locks : List LockDecl) (chans : List ChanDecl) (names : List (List ℕ × Declared)) : Type 0 where
  pub lock : (l : LockNo) (n : List ℕ) → slice_get (map (λ d. d.name) locks) l.0 ≡ Some n
      → (is_name n ≡ true) × (stands_for names n ≡ Some (Lock l))
  pub chan : (c : ChanNo) (n : List ℕ) → slice_get (map (λ d. d.name) chans) c.0 ≡ Some n
      → (is_name n ≡ true) × (stands_for names n ≡ Some (Chan c))

-- the plan, and what a text has made known in a thread
module _ (locks : List LockDecl) (chans : List ChanDecl) (classes : List (List ℕ)) (declared : List ThreadDecl)
    (schedule : List ThreadNo) (names : List (List ℕ × Declared)) (threads : List ThreadDecl)
    (knows : Knows locks chans names) where
  abbrev pub the_plan : Plan
  the_plan = record { classes = classes; locks = locks; chans = chans; threads = declared; schedule = schedule }

  abbrev pub inside : ℕ → OpenThread → Known
  inside m t = record {
    names = names;
    classes = classes;
    locks = locks;
    chans = chans;
    threads = threads;
    schedule = [];
    open_thread = Some t;
    operations = m;
    is_done = false;
  }

  module _ (l : LockNo) (within : l.0 < length locks) where
    abbrev its_name : List ℕ
    its_name = lock_name the_plan l.0

    lock_known : (is_name its_name ≡ true) × (stands_for names its_name ≡ Some (Lock l))
    lock_known =
        let g = get_within (map (λ (d : LockDecl). d.name) locks) l.0
        (omega (arith, within, length-map locks (λ (d : LockDecl). d.name))) in
        rw g.1 (knows.lock l g.0 g.1)

    lock_is : (m : ℕ) (t : OpenThread) → lock_named (inside m t) its_name ≡ Some l
    lock_is m t = rw (lock_known.0, lock_known.1) refl

    kind_is : is_of_kind locks (lock_kind the_plan l.0) l ≡ true
    kind_is =
        let g = get_within locks l.0 within in
        rw (slice_get-map (λ (d : LockDecl). d.kind) locks l.0, g.1) (is_its_kind g.0.kind)

  module _ (c : ChanNo) (within : c.0 < length chans) where
    abbrev chan_its_name : List ℕ
    chan_its_name = chan_name the_plan c.0

    chan_known : (is_name chan_its_name ≡ true) × (stands_for names chan_its_name ≡ Some (Chan c))
    chan_known =
        let g = get_within (map (λ (d : ChanDecl). d.name) chans) c.0
        (omega (arith, within, length-map chans (λ (d : ChanDecl). d.name))) in
        rw g.1 (knows.chan c g.0 g.1)

    chan_is : (m : ℕ) (t : OpenThread) → chan_named (inside m t) chan_its_name ≡ Some c
    chan_is m t = rw (chan_known.0, chan_known.1) refl

    sort_is : is_same_truth (is_cond the_plan c.0)
        (unwrap_or (slice_get (map (λ (d : ChanDecl). d.cond) chans) c.0) (is_cond the_plan c.0)) ≡ true
    sort_is =
        let g = get_within (map (λ (d : ChanDecl). d.cond) chans) c.0
        (omega (arith, within, length-map chans (λ (d : ChanDecl). d.cond))) in
        rw g.1 (same_truth g.0)

  -- a lock that may be held in a mode is declared, and its kind has the mode
  may_mode : (l : LockNo) (mode : Mode) → may_be_held locks mode l ≡ true
      → (l.0 < length locks) × IsMode (lock_kind the_plan l.0) mode
  may_mode l Excl e = (ltb-true l.0 (length locks) e, tt)
  may_mode l Shared e = go (slice_get locks l.0) refl e
    where
      shared : (kind : Kind) → (is_kind Rw (Some kind) || is_kind Sx (Some kind)) ≡ true → IsMode kind Shared
      shared Mtx e = absurd (false≢true e)
      shared Rw e = tt
      shared Sx e = tt

      go : (o : Option LockDecl) → slice_get locks l.0 ≡ o
          → (is_kind Rw (option_map (λ d. d.kind) o) || is_kind Sx (option_map (λ d. d.kind) o)) ≡ true
          → (l.0 < length locks) × IsMode (lock_kind the_plan l.0) Shared
      go None q e = absurd (false≢true e)
      go (Some d) q e =
          (slice_get_within locks l.0 d q, rw (slice_get-map (λ (d : LockDecl). d.kind) locks l.0, q) (shared d.kind e))

  hold_may : (held : List Held) (l : LockNo) (mode : Mode) → All (λ h. may_be_held locks h.mode h.l ≡ true) held
      → hold_in held l.0 ≡ Holds mode → may_be_held locks mode l ≡ true
  hold_may [] l mode h e = absurd cc
  hold_may (x ∷ held) l mode h e =
      go (x.l.0 == l.0) refl (hold_may held l mode (All-tail (λ h. may_be_held locks h.mode h.l ≡ true) x held h)) e
    where
      go : (b : Bool) → (x.l.0 == l.0) ≡ b → (hold_in held l.0 ≡ Holds mode → may_be_held locks mode l ≡ true)
          → cond b (Holds x.mode) (hold_in held l.0) ≡ Holds mode → may_be_held locks mode l ≡ true
      go true q more e =
          let same : x.l.0 ≡ l.0 = eqb-true x.l.0 l.0 q in
          let mode_is : x.mode ≡ mode = cc e in
          let it : may_be_held locks x.mode x.l ≡ true = All-head (λ h. may_be_held locks h.mode h.l ≡ true) x held h in
          subst (λ (m : Mode). may_be_held locks m l ≡ true) mode_is
          (subst (λ (i : ℕ). may_be_held locks x.mode (record { 0 = i }) ≡ true) same it)
      go false q more e = more e

  -- a lock that a test finds held
  found_held : (held : List Held) (l : LockNo) → not (is_unheld (hold_in held l.0)) ≡ true
      → (mode : Mode) × (hold_in held l.0 ≡ Holds mode)
  found_held held l e = grind arith

  -- 5. Operations

  module _ (m : ℕ) (t : OpenThread) (few : m < most_operations) where
    said_so : (o : Operation) (op : Op) → op_of (inside m t) o ≡ Some op → Passes (operation_words (inside m t) t o)
        → Passes (operation_tests locks chans op t.held) → Passes (tests_in_thread (inside m t) o t)
    said_so o op e words fits =
        passes_both _ _ words (passes_more (has_room most_operations m) _ (lt-ltb m most_operations few) (rw e fits))

    op_leads : (first : List ℕ) (others : List (List ℕ)) (o : Operation) (op : Op) → IsLine first others
        → said_by (first ∷ others) ≡ Some (Operates o) → op_of (inside m t) o ≡ Some op
        → Passes (operation_words (inside m t) t o) → Passes (operation_tests locks chans op t.held)
        → Leads (inside m t) (line_of first others) (inside (suc m) (behind t op))
    op_leads first others o op line says e words fits =
        subst (λ (x : Option Op). Leads (inside m t) (line_of first others) (with_operation (inside m t) (Some t) x)) e
        (line_leads (inside m t) first others (Operates o) line says refl
        (passes_more (test 15 true) [] refl passes_none) (said_so o op e words fits))

    -- a word and the name of a lock or a channel
    on_lock_leads : (word : List ℕ) (o : Operation) (op : Op) (l : LockNo) → l.0 < length locks
        → IsWordFor word (lock_name the_plan l.0) o → op_of (inside m t) o ≡ Some op
        → Passes (operation_words (inside m t) t o) → Passes (operation_tests locks chans op t.held)
        → Leads (inside m t) (line_of word (lock_name the_plan l.0 ∷ [])) (inside (suc m) (behind t op))
    on_lock_leads word o op l within its = op_leads word (lock_name the_plan l.0 ∷ []) o op
        (line_one word _ its.first (name_word _ (lock_known l within).0).0) its.says

    on_chan_leads : (word : List ℕ) (o : Operation) (op : Op) (c : ChanNo) → c.0 < length chans
        → IsWordFor word (chan_name the_plan c.0) o → op_of (inside m t) o ≡ Some op
        → Passes (operation_words (inside m t) t o) → Passes (operation_tests locks chans op t.held)
        → Leads (inside m t) (line_of word (chan_name the_plan c.0 ∷ [])) (inside (suc m) (behind t op))
    on_chan_leads word o op c within its = op_leads word (chan_name the_plan c.0 ∷ []) o op
        (line_one word _ its.first (name_word _ (chan_known c within).0).0) its.says

    -- the tests of words that name a lock or a channel
    lock_words : (l : LockNo) (within : l.0 < length locks) (more : List Test) → Passes more
        → Passes (spelled (lock_name the_plan l.0) ∷ names_lock (inside m t) (lock_name the_plan l.0) ∷ more)
    lock_words l within more h =
        let n = lock_name the_plan l.0 in
        passes_more (spelled n) _ (lock_known l within).0
        (passes_more (names_lock (inside m t) n) more (ap is_some (lock_is l within m t)) h)

    chan_words : (c : ChanNo) (within : c.0 < length chans) (more : List Test) → Passes more
        → Passes (spelled (chan_name the_plan c.0) ∷ names_chan (inside m t) (chan_name the_plan c.0) ∷ more)
    chan_words c within more h =
        let n = chan_name the_plan c.0 in
        passes_more (spelled n) _ (chan_known c within).0
        (passes_more (names_chan (inside m t) n) more (ap is_some (chan_is c within m t)) h)

    gaining : (l : LockNo) (within : l.0 < length locks)
        → Passes (gaining_words (inside m t) (lock_kind the_plan l.0) (lock_name the_plan l.0))
    gaining l within = lock_words l within _ (rw (lock_is l within m t)
        (passes_more (of_kind (inside m t) (lock_kind the_plan l.0) l) [] (kind_is l within) passes_none))

    sleeping : (c : ChanNo) (within : c.0 < length chans)
        → Passes (sleeping_words (inside m t) (is_cond the_plan c.0) (chan_name the_plan c.0))
    sleeping c within = chan_words c within _ (rw (chan_is c within m t)
        (passes_more (of_sort (inside m t) (is_cond the_plan c.0) c) [] (sort_is c within) passes_none))

    -- a number of a table
    number_word : (n : ℕ) → n ≤ greatest_number → IsWord (decimal n) × (number_of (decimal n) ≡ Some n)
    number_word n h =
        let small : n < 2 ^ 64 = omega (arith, h) in
        (decimal_word n small, decimal_number n small greatest_number h)

    reads : (n : ℕ) (more : List Test) → n ≤ greatest_number → Passes more → Passes (reads_number (decimal n) ∷ more)
    reads n more h g = passes_more (reads_number (decimal n)) more (ap is_some (number_word n h).1) g

    -- a lock is released in the mode in which it is held
    release_leads : (l : LockNo) (mode : Mode) → hold_in t.held l.0 ≡ Holds mode → All
        (λ h. may_be_held locks h.mode h.l ≡ true) t.held → Passes (operation_tests locks chans (Release l) t.held)
        → Leads (inside m t) (operation_line the_plan t.held (Release l)) (inside (suc m) (behind t (Release l)))
    release_leads l mode found may fits =
        let can = may_mode l mode (hold_may t.held l mode may found) in
        let kind = lock_kind the_plan l.0 in
        let name = lock_name the_plan l.0 in
        let other : not (is_other mode (hold_in t.held l.0)) ≡ true = rw found (same_mode mode) in
        let words : Passes (operation_words (inside m t) t (say.Release kind mode name)) =
        lock_words l can.0 _ (rw (lock_is l can.0 m t) (passes_more (of_kind (inside m t) kind l) _ (kind_is l can.0)
        (passes_more (held_so t mode l) [] other passes_none))) in
        subst (λ (h : Hold). Leads (inside m t) (line_of (releasing kind (held_mode h)) (name ∷ []))
        (inside (suc m) (behind t (Release l)))) (sym found)
        (on_lock_leads _ (say.Release kind mode name) (Release l) l can.0 (release_word kind mode name can.1)
        (ap (option_map (λ l. Release l)) (lock_is l can.0 m t)) words fits)

    -- each operation's line
    pub operation_leads : (op : Op) → All (λ h. may_be_held locks h.mode h.l ≡ true) t.held → IsReadable t op
        → Passes (operation_tests locks chans op t.held)
        → Leads (inside m t) (operation_line the_plan t.held op) (inside (suc m) (behind t op))
    operation_leads (Take l mode) may r fits =
        let can = may_mode l mode (passed _ _ (passed _ _ fits).1).0 in
        let name = lock_name the_plan l.0 in
        on_lock_leads _ (say.Take (lock_kind the_plan l.0) mode name) (Take l mode) l can.0
        (take_word (lock_kind the_plan l.0) mode name can.1) (ap (option_map (λ l. Take l mode)) (lock_is l can.0 m t))
        (gaining l can.0) fits
    operation_leads (Try l mode past) may r fits =
        let can = may_mode l mode (passed _ _ (passed _ _ fits).1).0 in
        let name = lock_name the_plan l.0 in
        on_lock_leads _ (say.Try (lock_kind the_plan l.0) mode name) (Try l mode past) l can.0
        (try_word (lock_kind the_plan l.0) mode name can.1)
        (ap (option_map (λ l. Try l mode 0)) (lock_is l can.0 m t) ∙ ap (λ (n : ℕ). Some (Try l mode n)) (sym r.0))
        (passes_more (has_room most_open_tries (length t.blocks)) _ r.1 (gaining l can.0)) fits
    operation_leads EndTry may r fits = absurd r
    operation_leads (Release l) may r fits =
        let found = found_held t.held l (passed _ _ fits).0 in
        release_leads l found.0 found.1 may fits
    operation_leads (Set l key value) may r fits =
        let found = found_held t.held l (passed _ _ fits).0 in
        let within = (may_mode l found.0 (hold_may t.held l found.0 may found.1)).0 in
        let k = number_word key r.0 in
        let v = number_word value r.1 in
        op_leads (codes "set") _ (say.Set (lock_name the_plan l.0) (decimal key) (decimal value)) (Set l key value)
        (line_three (codes "set") _ _ _ (record { bytes = refl; meaning = refl; short = omega arith })
        (name_word _ (lock_known l within).0).0 k.0 v.0) refl
        (rw (lock_is l within m t, k.1, v.1) refl)
        (lock_words l within _ (reads key _ r.0 (reads value [] r.1 passes_none))) fits
    operation_leads (Add l key amount) may r fits =
        let found = found_held t.held l (passed _ _ fits).0 in
        let within = (may_mode l found.0 (hold_may t.held l found.0 may found.1)).0 in
        let k = number_word key r.0 in
        let v = number_word amount r.1 in
        op_leads (codes "add") _ (say.Add (lock_name the_plan l.0) (decimal key) (decimal amount)) (Add l key amount)
        (line_three (codes "add") _ _ _ (record { bytes = refl; meaning = refl; short = omega arith })
        (name_word _ (lock_known l within).0).0 k.0 v.0) refl
        (rw (lock_is l within m t, k.1, v.1) refl)
        (lock_words l within _ (reads key _ r.0 (reads amount [] r.1 passes_none))) fits
    operation_leads (Get l key) may r fits =
        let found = found_held t.held l (passed _ _ fits).0 in
        let within = (may_mode l found.0 (hold_may t.held l found.0 may found.1)).0 in
        let k = number_word key r in
        op_leads (codes "get") _ (say.Get (lock_name the_plan l.0) (decimal key)) (Get l key) (line_two (codes "get") _ _
        (record { bytes = refl; meaning = refl; short = omega arith }) (name_word _ (lock_known l within).0).0 k.0) refl
        (rw (lock_is l within m t, k.1) refl) (lock_words l within _ (reads key [] r passes_none)) fits
    operation_leads (Base prio) may r fits =
        let small : prio.0 < 2 ^ 64 = omega (arith, r) in
        let number = decimal_number prio.0 small greatest_priority r in
        op_leads (codes "prio") _ (say.Prio (decimal prio.0)) (Base prio) (line_one (codes "prio") _
        (record { bytes = refl; meaning = refl; short = omega arith }) (decimal_word prio.0 small)) refl
        (rw number refl) (passes_more (reads_priority (decimal prio.0)) [] (ap is_some number) passes_none) fits
    operation_leads Show may r fits = op_leads (codes "show") [] say.Show Show
        (line_alone (codes "show") (record { bytes = refl; meaning = refl; short = omega arith })) refl refl passes_none fits
    operation_leads (Sleep c) may r fits =
        let within = ltb-true c.0 (length chans) (passed _ _ fits).0 in
        on_chan_leads _ (say.Wait (is_cond the_plan c.0) (chan_name the_plan c.0)) (Sleep c) c within
        (wait_word (is_cond the_plan c.0) (chan_name the_plan c.0))
        (ap (option_map (λ c. Sleep c)) (chan_is c within m t)) (sleeping c within) fits
    operation_leads (WakeOne c) may r fits =
        let within = ltb-true c.0 (length chans) (passed _ _ fits).0 in
        on_chan_leads _ (say.WakeOne (is_cond the_plan c.0) (chan_name the_plan c.0)) (WakeOne c) c within
        (wake_one_word (is_cond the_plan c.0) (chan_name the_plan c.0))
        (ap (option_map (λ c. WakeOne c)) (chan_is c within m t)) (sleeping c within) fits
    operation_leads (WakeAll c) may r fits =
        let within = ltb-true c.0 (length chans) (passed _ _ fits).0 in
        on_chan_leads _ (say.WakeAll (is_cond the_plan c.0) (chan_name the_plan c.0)) (WakeAll c) c within
        (wake_all_word (is_cond the_plan c.0) (chan_name the_plan c.0))
        (ap (option_map (λ c. WakeAll c)) (chan_is c within m t)) (sleeping c within) fits

    -- an endtry's line, where the thread holds what it held before the innermost block's try
    pub endtry_leads : (b : Block) (bs : List Block) → t.blocks ≡ b ∷ bs → pointwise is_same_held t.held b.before ≡ true
        → Leads (inside m t) (line_of (codes "endtry") []) (inside (suc m) (without_block t (b ∷ bs)))
    endtry_leads b bs e same =
        subst (λ (x : List Block). Leads (inside m t) (line_of (codes "endtry") []) (inside (suc m) (without_block t x))) e
        (line_leads (inside m t) (codes "endtry") [] EndsTry
        (line_alone (codes "endtry") (record { bytes = refl; meaning = refl; short = omega arith })) refl refl
        (passes_more (test 15 (is_in_block (Some t))) [] (rw e refl) passes_none)
        (rw e (passes_more (has_room most_operations m) _ (lt-ltb m most_operations few)
        (passes_more (test 14 (pointwise is_same_held t.held b.before)) [] same passes_none))))
