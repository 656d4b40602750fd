-- The lines of threads and of the schedule, and the whole canonical text: reading it gives the plan.
use Rattle.script_laws.proofs.Names
use Names.{ℕ, zero, suc, true, not, nat_le, List, [], length, length-drop, take, drop, Option, Some, decimal, refl, sym}
use Names.{ap, subst, arith, length-append, append_assoc, append-nil, map, sum, codes, flat_map, is_none, is_some}
use Names.{unwrap_or, All, list_all, lt-ltb, le-leb, and_from, length-map, length-take, map-append, take-append-drop}
use Names.{sum_by-append, All-head, All-tail, All-take, All-drop, is_empty, most_threads, most_operations}
use Names.{most_scheduled, greatest_priority, is_name, IsProper, test, spaced, line_of, thread_name, Reads, plan_of}
use Names.{reading_from, reading_of_lines, reading_of, IsAccepted, canonical, lock_line, chan_line, operation_lines}
use Names.{thread_lines, schedule_line, lines_of_ten, schedule_lines, lines_of, priority_of, Begins, Ends, Schedules}
use Names.{IsDone, Known, OpenThread, nothing_known, thread_named, threads_named, with_thread, learned, spelled}
use Names.{reads_priority, has_room, is_in_block, Declared, Lock, Chan, Thread, LockDecl, ChanDecl, ThreadDecl, Plan}
use Names.{ThreadNo}
use Rattle.std.proofs.Common.{◌≡◌, ◌+◌, ◌*◌, ◌/◌, ◌<◌, ◌≤◌, ◌^◌, ◌∷◌, ◌++◌, ◌∙◌}
use Rattle.script_laws.proofs.Accepted.{accepted_proper}
use Rattle.script_laws.proofs.AcceptedLists.{none_is}
use Rattle.script_laws.proofs.CanonicalWords.{AreWords, name_word, decimal_word, decimal_number}
use Rattle.script_laws.proofs.CanonicalReading.{Leads, leads_nowhere, leads_on, line_leads}
use Rattle.script_laws.proofs.CanonicalNames.{name_in, stands_for, AreNamed, get_still}
use Rattle.script_laws.proofs.CanonicalOperations.{Knows, inside, line_alone, line_two, passes_none, passes_more, get_within}
use Rattle.script_laws.proofs.CanonicalThreads.{begun, IsReplayed, IsEnded}
use Rattle.script_laws.proofs.CanonicalKept.{IsKept, names_of_locks, names_of_chans, names_of_threads, none_named, thread_named_more, accepted_written}
use Rattle.script_laws.proofs.CanonicalDeclarations.{outside, Written, then_written, next_name, no_name_yet, part_name, part_next, part_length, part_all, plan, all_names, still_free, locks_lead, chans_lead}

-- 1. Threads

abbrev operations_in : List ThreadDecl → ℕ
operations_in ds = sum (map (λ d. length d.ops) ds)

operations_more : (d : ThreadDecl) (ds : List ThreadDecl) → operations_in (d ∷ ds) ≡ length d.ops + operations_in ds
operations_more d ds =
    omega (arith, sum_by-append (λ (n : ℕ). n) (length d.ops ∷ []) (map (λ (d : ThreadDecl). length d.ops) ds))

-- the thread that has ended
abbrev done : OpenThread → ThreadDecl
done t = record { name = t.name; base = record { 0 = t.base }; ops = t.ops }

knows_them : (locks : List LockDecl) (chans : List ChanDecl) (ts : List (List ℕ)) (names : List (List ℕ × Declared))
    → AreNamed names (name_in (names_of_locks locks) (names_of_chans chans) ts) → Knows locks chans names
knows_them locks chans ts names g = record {
  lock = λ l n e. (g.spelled (Lock l) n e, g.stands (Lock l) n e);
  chan = λ c n e. (g.spelled (Chan c) n e, g.stands (Chan c) n e);
}

module _ (k : Known) (h : IsKept k) (proper : IsProper (plan_of k)) where
  abbrev at : List ThreadDecl → Declared → Option (List ℕ)
  at ts = name_in (names_of_locks k.locks) (names_of_chans k.chans) (names_of_threads ts)

  abbrev between : List (List ℕ × Declared) → List ThreadDecl → ℕ → Known
  between names ts m = outside names k.classes k.locks k.chans ts [] m

  -- one thread
  module _ (ts : List ThreadDecl) (t : OpenThread) (names : List (List ℕ × Declared)) (m : ℕ)
      (g : AreNamed names (at ts)) (replayed : IsReplayed k.locks k.chans t) (name : is_name t.name ≡ true)
      (free : is_none (stands_for names t.name) ≡ true) (few : length ts < most_threads)
      (room : m + length t.ops ≤ most_operations) (closed : t.blocks ≡ []) (released : t.held ≡ []) where
    abbrev more : List (List ℕ × Declared)
    more = names ++ (t.name, Thread (record { 0 = length ts })) ∷ []

    named_more_threads : AreNamed more
        (name_in (names_of_locks k.locks) (names_of_chans k.chans) (names_of_threads ts ++ t.name ∷ []))
    named_more_threads =
        thread_named_more names (names_of_locks k.locks) (names_of_chans k.chans) ts t.name g (none_is _ free) name

    knows : Knows k.locks k.chans more
    knows = knows_them k.locks k.chans (names_of_threads ts ++ t.name ∷ []) more named_more_threads

    abbrev here : ℕ → OpenThread → Known
    here = inside k.locks k.chans k.classes k.threads k.schedule more ts knows

    small : t.base < 2 ^ 64
    small = omega (arith, replayed.base)

    number : priority_of (decimal t.base) ≡ Some t.base
    number = decimal_number t.base small greatest_priority replayed.base

    begins : Leads (between names ts m) (line_of (codes "thread") (t.name ∷ decimal t.base ∷ [])) (here m (begun t))
    begins =
        let first =
        line_leads (between names ts m) (codes "thread") (t.name ∷ decimal t.base ∷ []) (Begins t.name (decimal t.base))
        (line_two (codes "thread") t.name (decimal t.base) (record { bytes = refl; meaning = refl; short = omega arith })
        (name_word t.name name).0 (decimal_word t.base small)) refl refl
        (passes_more (test 17 true) [] refl passes_none)
        (passes_more (spelled t.name) _ name (passes_more (test 4 (is_none (stands_for names t.name))) _ free
        (passes_more (reads_priority (decimal t.base)) _ (ap is_some number)
        (passes_more (has_room most_threads (length ts)) [] (lt-ltb (length ts) most_threads few) passes_none)))) in
        subst (λ (o : Option ℕ). Leads (between names ts m) (line_of (codes "thread") (t.name ∷ decimal t.base ∷ []))
        (with_thread (between names ts m) t.name (unwrap_or o 0))) number first

    ends : Leads (here (m + length t.ops) t) (line_of (codes "end") [])
        (between more (ts ++ done t ∷ []) (m + length t.ops))
    ends = line_leads (here (m + length t.ops) t) (codes "end") [] Ends
        (line_alone (codes "end") (record { bytes = refl; meaning = refl; short = omega arith })) refl refl
        (passes_more (test 15 true) _ refl
        (passes_more (test 17 (not (is_in_block (Some t)))) [] (rw closed refl) passes_none))
        (passes_more (test 14 (is_empty t.held)) [] (rw released refl) passes_none)

    thread_leads : Leads (between names ts m) (thread_lines (plan k h proper) (done t))
        (between more (ts ++ done t ∷ []) (m + length t.ops))
    thread_leads =
        let lines = operation_lines (plan k h proper) [] t.ops in
        leads_on (between names ts m) (here m (begun t)) (between more (ts ++ done t ∷ []) (m + length t.ops))
        (line_of (codes "thread") (t.name ∷ decimal t.base ∷ [])) (lines ++ line_of (codes "end") []) begins
        (leads_on (here m (begun t)) (here (m + length t.ops) t)
        (between more (ts ++ done t ∷ []) (m + length t.ops)) lines (line_of (codes "end") [])
        (replayed.leads k.classes k.threads k.schedule more ts knows m room) ends)

    thread_names : AreNamed more (at (ts ++ done t ∷ []))
    thread_names =
        subst (λ (ns : List (List ℕ)). AreNamed more (name_in (names_of_locks k.locks) (names_of_chans k.chans) ns))
        (sym (map-append (λ (d : ThreadDecl). d.name) ts (done t ∷ []))) named_more_threads

  abbrev name_it : ThreadDecl → List ℕ
  name_it d = d.name

  -- a part of the threads has names that stand for the same
  threads_within : (ts : List ThreadDecl) (d : ThreadDecl) (ds : List ThreadDecl) → ts ++ d ∷ ds ≡ k.threads
      → (x : Declared) (n : List ℕ) → at ts x ≡ Some n → all_names k h proper x ≡ Some n
  threads_within ts d ds e (Lock l) n q = q
  threads_within ts d ds e (Chan c) n q = q
  threads_within ts d ds e (Thread t) n q =
      get_still (names_of_threads k.threads) _ t.0 n (part_name name_it ts d ds k.threads e t.0 n q)

  threads_lead : (ts ds : List ThreadDecl) (names : List (List ℕ × Declared)) (m : ℕ) → ts ++ ds ≡ k.threads
      → All (IsEnded k.locks k.chans) ds → m + operations_in ds ≤ most_operations → AreNamed names (at ts)
      → (n : ℕ) × Written (λ names. between names k.threads n) (at k.threads) (between names ts m)
      (flat_map (thread_lines (plan k h proper)) ds)
  threads_lead ts [] names m e a room g =
      let all = part_all ts k.threads e in (
        m,
        record {
          declared = names;
          named = subst (λ (xs : List ThreadDecl). AreNamed names (at xs)) all g;
          leads = subst (λ (xs : List ThreadDecl). Leads (between names ts m) [] (between names xs m)) all
              (leads_nowhere (between names ts m));
        },
      )
  threads_lead ts (d ∷ ds) names m e a room g =
      let its = All-head (IsEnded k.locks k.chans) d ds a in
      let t = its.last in
      let e = (subst (λ (x : ThreadDecl). ts ++ x ∷ ds ≡ k.threads) its.its e) in
      let room : m + (length t.ops + operations_in ds)
      ≤ most_operations = subst (λ (x : ThreadDecl). m + (length x.ops + operations_in ds) ≤ most_operations) its.its
      (omega (arith, room, operations_more d ds)) in
      let it : Declared = Thread (record { 0 = length ts }) in
      let named_it : all_names k h proper it ≡ Some t.name = get_still (names_of_threads k.threads) _ (length ts) t.name
      (next_name name_it ts (done t) ds k.threads e) in
      let name = h.named.spelled it t.name named_it in
      let free = still_free k h proper names (at ts) g (threads_within ts (done t) ds e) it t.name named_it
      (no_name_yet name_it ts (done t) ds k.threads e) in
      let few : length ts
      < most_threads = omega (arith, part_length name_it ts (done t) ds k.threads e, proper.threads) in
      let fits : m + length t.ops ≤ most_operations = omega (arith, room) in
      let rest = threads_lead (ts ++ done t ∷ []) ds
      (more ts t names m g its.replayed name free few fits its.closed its.released) (m + length t.ops)
      (part_next name_it ts (done t) ds k.threads e) (All-tail (IsEnded k.locks k.chans) d ds a) (omega (arith, room))
      (thread_names ts t names m g its.replayed name free few fits its.closed its.released) in (
        rest.0,
        subst (λ (x : ThreadDecl). Written (λ names. between names k.threads rest.0) (at k.threads) (between names ts m)
            (thread_lines (plan k h proper) x ++ flat_map (thread_lines (plan k h proper)) ds)) (sym its.its)
            (then_written (λ names. between names k.threads rest.0) (at k.threads) (between names ts m)
            (between (more ts t names m g its.replayed name free few fits its.closed its.released) (ts ++ done t ∷ [])
            (m + length t.ops))
            (thread_lines (plan k h proper) (done t)) (flat_map (thread_lines (plan k h proper)) ds)
            (thread_leads ts t names m g its.replayed name free few fits its.closed its.released) rest.1),
      )

  -- 2. The schedule

  module _ (names : List (List ℕ × Declared)) (g : AreNamed names (at k.threads)) (m : ℕ) where
    abbrev scheduled : List ThreadNo → Known
    scheduled sc = outside names k.classes k.locks k.chans k.threads sc m

    abbrev called : ThreadNo → List ℕ
    called t = thread_name (plan k h proper) t.0

    thread_is : (t : ThreadNo) (sc : List ThreadNo) → t.0 < length k.threads
        → (is_name (called t) ≡ true) × (thread_named (scheduled sc) (called t) ≡ Some t)
    thread_is t sc below =
        let n = get_within (names_of_threads k.threads) t.0
        (omega (arith, below, length-map k.threads (λ (d : ThreadDecl). d.name))) in
        let its : at k.threads (Thread t) ≡ Some (called t) = rw n.1 refl in
        let name = g.spelled (Thread t) (called t) its in
        (name, rw (name, g.stands (Thread t) (called t) its) refl)

    abbrev AreThreads : List ThreadNo → Type 0
    AreThreads ts = All (λ t. t.0 < length k.threads) ts

    -- what a line of names needs
    record AreCalled (sc ts : List ThreadNo) : Type 0 where
      words : AreWords (map called ts)
      short : length (spaced (map called ts)) ≤ 17 * length ts
      spelled_so : list_all is_name (map called ts) ≡ true
      known : list_all (λ n. is_some (thread_named (scheduled sc) n)) (map called ts) ≡ true
      meant : threads_named (scheduled sc) (map called ts) ≡ ts

    are_called : (sc ts : List ThreadNo) → AreThreads ts → AreCalled sc ts
    are_called sc [] a = record { words = tt; short = omega arith; spelled_so = refl; known = refl; meant = refl }
    are_called sc (t ∷ ts) a =
        let its = thread_is t sc (All-head (λ (t : ThreadNo). t.0 < length k.threads) t ts a) in
        let rest = are_called sc ts (All-tail (λ (t : ThreadNo). t.0 < length k.threads) t ts a) in
        let word = name_word (called t) its.0 in
        record {
          words = (word.0, rest.words);
          short = omega (arith, length-append (called t) (spaced (map called ts)), word.1, rest.short);
          spelled_so = and_from _ _ its.0 rest.spelled_so;
          known = and_from _ _ (ap is_some its.1) rest.known;
          meant = rw (its.1, rest.meant) refl;
        }

    -- a line of ten names at most, and one at least
    names_lead : (sc : List ThreadNo) (t : ThreadNo) (ts : List ThreadNo) → AreThreads (t ∷ ts) → length (t ∷ ts) ≤ 10
        → length sc + length (t ∷ ts) ≤ most_scheduled
        → Leads (scheduled sc) (schedule_line (plan k h proper) (t ∷ ts)) (scheduled (sc ++ t ∷ ts))
    names_lead sc t ts a ten room =
        let c = are_called sc (t ∷ ts) a in
        let ns = map called (t ∷ ts) in
        let size : length ns ≡ length (t ∷ ts) = length-map (t ∷ ts) called in
        let first = line_leads (scheduled sc) (codes "schedule") ns (Schedules ns)
        (record {
          bytes = refl;
          meaning = refl;
          words = c.words;
          short = omega (arith, length-append (codes "schedule") (spaced ns), c.short, ten);
        }) refl refl
        (passes_more (test 17 true) [] refl passes_none)
        (passes_more (test 3 (list_all is_name ns)) _ c.spelled_so
        (passes_more (test 5 (list_all (λ n. is_some (thread_named (scheduled sc) n)) ns)) _ c.known
        (passes_more (test 7 (nat_le (length sc + length ns) most_scheduled)) []
        (le-leb (length sc + length ns) most_scheduled (omega (arith, size, room))) passes_none))) in
        subst
        (λ (x : List ThreadNo). Leads (scheduled sc) (schedule_line (plan k h proper) (t ∷ ts)) (scheduled (sc ++ x)))
        c.meant first

    some_lead : (sc ts : List ThreadNo) → 0 < length ts → AreThreads ts → length ts ≤ 10 → length sc + length ts
        ≤ most_scheduled → Leads (scheduled sc) (schedule_line (plan k h proper) ts) (scheduled (sc ++ ts))
    some_lead sc [] some a ten room = absurd (omega (arith, some))
    some_lead sc (t ∷ ts) some a ten room = names_lead sc t ts a ten room

    schedule_leads : (n : ℕ) (sc ts : List ThreadNo) → n ≡ (length ts + 9) / 10 → AreThreads ts → length sc + length ts
        ≤ most_scheduled → Leads (scheduled sc) (lines_of_ten (plan k h proper) n ts) (scheduled (sc ++ ts))
    schedule_leads zero sc [] e a room = subst (λ (x : List ThreadNo). Leads (scheduled sc) [] (scheduled x))
        (sym (append-nil sc)) (leads_nowhere (scheduled sc))
    schedule_leads zero sc (t ∷ ts) e a room = absurd (omega (arith, e))
    schedule_leads (suc n) sc ts e a room =
        let front = take 10 ts in
        let back = drop 10 ts in
        let whole : front ++ back ≡ ts = take-append-drop 10 ts in
        let ten = length-take 10 ts in
        let others = length-drop 10 ts in
        let first = some_lead sc front (omega (arith, ten, e))
        (All-take (λ (t : ThreadNo). t.0 < length k.threads) 10 ts a) (omega (arith, ten)) (omega (arith, ten, room)) in
        let more = length-append sc front in
        let rest = schedule_leads n (sc ++ front) back (omega (arith, others, e))
        (All-drop (λ (t : ThreadNo). t.0 < length k.threads) 10 ts a) (omega (arith, more, ten, others, room)) in
        let same : (sc ++ front) ++ back ≡ sc ++ ts = append_assoc sc front back
        ∙ ap (λ (x : List ThreadNo). sc ++ x) whole in
        subst
        (λ (x : List ThreadNo). Leads (scheduled sc) (lines_of_ten (plan k h proper) (suc n) ts) (scheduled x)) same
        (leads_on (scheduled sc) (scheduled (sc ++ front)) (scheduled ((sc ++ front) ++ back))
        (schedule_line (plan k h proper) front) (lines_of_ten (plan k h proper) n back) first rest)

  -- 3. The whole text

  abbrev before_done : List (List ℕ × Declared) → ℕ → Known
  before_done names m = outside names k.classes k.locks k.chans k.threads k.schedule m

  done_leads : (names : List (List ℕ × Declared)) (m : ℕ)
      → Leads (before_done names m) (line_of (codes "done") []) (learned (before_done names m) IsDone)
  done_leads names m = line_leads (before_done names m) (codes "done") [] IsDone
      (line_alone (codes "done") (record { bytes = refl; meaning = refl; short = omega arith })) refl refl
      (passes_more (test 17 true) [] refl passes_none) passes_none

  abbrev locks_text : List ℕ
  locks_text = flat_map (lock_line (plan k h proper)) k.locks

  abbrev chans_text : List ℕ
  chans_text = flat_map (chan_line (plan k h proper)) k.chans

  abbrev threads_text : List ℕ
  threads_text = flat_map (thread_lines (plan k h proper)) k.threads

  abbrev schedule_text : List ℕ
  schedule_text = schedule_lines (plan k h proper) k.schedule

  abbrev done_text : List ℕ
  done_text = line_of (codes "done") []

  -- what stands behind the header leads to the plan
  abbrev body : List ℕ
  body = locks_text ++ (chans_text ++ (threads_text ++ (schedule_text ++ done_text)))

  body_leads : (names : List (List ℕ × Declared)) × (m : ℕ)
      × Leads nothing_known body (learned (before_done names m) IsDone)
  body_leads =
      let locks = locks_lead k h proper [] k.locks [] [] refl h.classes none_named in
      let chans = chans_lead k h proper [] k.chans locks.declared refl proper.chan_locks locks.named in
      let threads = threads_lead [] k.threads chans.declared 0 refl h.threads
      (omega (arith, proper.operations)) chans.named in
      let m = threads.0 in
      let names = threads.1.declared in
      let schedule = schedule_leads names threads.1.named m
      ((length k.schedule + 9) / 10) [] k.schedule refl proper.schedule (omega (arith, proper.scheduled)) in
      let end = learned (before_done names m) IsDone in
      let a = outside locks.declared k.classes k.locks [] [] [] 0 in
      let b = outside chans.declared k.classes k.locks k.chans [] [] 0 in
      let c = between names k.threads m in
      let d = before_done names m in (
        names,
        m,
        leads_on nothing_known a end locks_text
            (chans_text ++ (threads_text ++ (schedule_text ++ done_text))) locks.leads
            (leads_on a b end chans_text (threads_text ++ (schedule_text ++ done_text)) chans.leads
            (leads_on b c end threads_text (schedule_text ++ done_text) threads.1.leads
            (leads_on c d end schedule_text done_text schedule (done_leads names m)))),
      )

  body_reads : (text : List ℕ) (names : List (List ℕ × Declared)) (m : ℕ) → Leads nothing_known text
      (learned (before_done names m) IsDone) → reading_from 2 nothing_known (lines_of text) ≡ Reads (plan_of k)
  unfolding reading_from
  body_reads text names m leads =
      let all = leads 2 [] in
      ap (λ (x : List ℕ). reading_from 2 nothing_known (lines_of x)) (sym (append-nil text)) ∙ all.1

  text_reads : IsAccepted (canonical (plan_of k)) (plan_of k)
  unfolding IsAccepted reading_of reading_of_lines canonical
  text_reads = let b = body_leads in body_reads body b.0 b.1 b.2

-- reading the canonical text of a script's plan with another schedule of its threads gives that plan,
pub read_rescheduled : (bytes : List ℕ) (read : Plan) (ts : List ThreadNo) → IsAccepted bytes read
    → All (λ t. t.0 < length read.threads) ts → length ts ≤ most_scheduled
    → IsAccepted (canonical (record read { schedule = ts })) (record read { schedule = ts })
read_rescheduled bytes read ts e within few =
    let w = accepted_written bytes read e in
    let k : Known = record w.last { schedule = ts } in
    let kept : IsKept k =
    record {
      named = w.kept.named;
      classes = w.kept.classes;
      threads = w.kept.threads;
      open_thread = w.kept.open_thread;
    } in
    let its : plan_of k ≡ record read { schedule = ts } = ap (λ (p : Plan). record p { schedule = ts }) w.its in
    let old = accepted_proper bytes read e in
    let proper : IsProper (record read { schedule = ts }) = record {
      threads = old.threads;
      locks = old.locks;
      chans = old.chans;
      classes = old.classes;
      operations = old.operations;
      scheduled = few;
      schedule = within;
      lock_classes = old.lock_classes;
      chan_locks = old.chan_locks;
      fits = old.fits;
    } in
    subst (λ (x : Plan). IsAccepted (canonical x) x) its (text_reads k kept (subst IsProper (sym its) proper))

-- and so with its own
pub read_again : (bytes : List ℕ) (plan : Plan) → IsAccepted bytes plan → IsAccepted (canonical plan) plan
read_again bytes plan e =
    let proper = accepted_proper bytes plan e in
    read_rescheduled bytes plan plan.schedule e proper.schedule proper.scheduled
