-- The lines of locks and of channels lead to what a script has made known of them.
use Rattle.script_laws.proofs.Names
use Names.{ℕ, one-add, Bool, true, false, not, cond, List, [], length, slice_get, Option, Some, None, refl, sym, ap}
use Names.{subst, arith, length-append, append_assoc, append-nil, map, codes, flat_map, is_none, is_some, unwrap_or}
use Names.{All, list_any, prefix_len, lt-ltb, none-some, slice_get_past, length-map, map-append, All-head, All-tail}
use Names.{most_locks, most_channels, most_classes, IsProper, test, line_of, lock_name, class_name, plan_of, kind_word}
use Names.{lock_line, chan_line, is_same, Declares, DeclaresChan, said_by, Known, lock_named, class_number, with_class}
use Names.{with_chan, spelled, names_lock, has_room, Declared, Lock, Chan, Thread, Kind, Mtx, Rw, Sx, LockDecl}
use Names.{ChanDecl, ThreadDecl, Plan, LockNo, ThreadNo}
use Rattle.std.proofs.Common.{◌≡◌, ◌+◌, ◌<◌, ◌||◌, ◌∷◌, ◌++◌, ◌∙◌}
use Rattle.std.specs.Prelude.{if◌then◌else◌}
use Rattle.script_laws.proofs.AcceptedLists.{none_is}
use Rattle.script_laws.proofs.CanonicalWords.{name_word}
use Rattle.script_laws.proofs.CanonicalReading.{Leads, leads_nowhere, leads_on, line_leads}
use Rattle.script_laws.proofs.CanonicalNames.{name_in, stands_for, AreNamed, undeclared_there, same_word, get_here, get_still}
use Rattle.script_laws.proofs.CanonicalOperations.{IsFirst, line_two, passes_none, passes_more, get_within}
use Rattle.script_laws.proofs.CanonicalKept.{IsKept, DeclareClasses, names_of_locks, names_of_chans, begun_names, lock_named_more, chan_named_more}

-- 1. Parts of a list

module _ {A : Type 0} (f : A → List ℕ) (xs : List A) (y : A) (ys all : List A) (e : xs ++ y ∷ ys ≡ all) where
  pub part_names : map f all ≡ map f xs ++ f y ∷ map f ys
  part_names = ap (map f) (sym e) ∙ map-append f xs (y ∷ ys)

  pub next_name : slice_get (map f all) (length xs) ≡ Some (f y)
  next_name =
      ap (λ (ns : List (List ℕ)). slice_get ns (length xs)) part_names
      ∙ subst (λ (n : ℕ). slice_get (map f xs ++ f y ∷ map f ys) n ≡ Some (f y)) (length-map xs f)
      (get_here (map f xs) (f y) (map f ys))

  pub no_name_yet : slice_get (map f xs) (length xs) ≡ None
  no_name_yet = slice_get_past (map f xs) (length xs) (omega (arith, length-map xs f))

  pub part_name : (i : ℕ) (n : List ℕ) → slice_get (map f xs) i ≡ Some n → slice_get (map f all) i ≡ Some n
  part_name i n q = ap (λ (ns : List (List ℕ)). slice_get ns i) part_names ∙ get_still (map f xs) (f y ∷ map f ys) i n q

  pub part_next : (xs ++ y ∷ []) ++ ys ≡ all
  part_next = append_assoc xs (y ∷ []) ys ∙ e

  pub part_length : length xs < length all
  part_length = omega (arith, ap length e, length-append xs (y ∷ ys))

pub part_all : {A : Type 0} (xs all : List A) → xs ++ [] ≡ all → xs ≡ all
part_all xs all e = sym (append-nil xs) ∙ e

-- 2. Classes

class_here : (so : List (List ℕ)) (class : List ℕ)
    → slice_get (with_class so class) (class_number so class) ≡ Some class
class_here [] class = refl
class_here (x ∷ xs) class = go (is_same class x) refl (class_here xs class)
  where
    later : (b : Bool) (n : ℕ) → slice_get (if b then xs else xs ++ class ∷ []) n ≡ Some class
        → slice_get (if b then x ∷ xs else x ∷ (xs ++ class ∷ [])) (1 + n) ≡ Some class
    later true n e = rw one-add e
    later false n e = rw one-add e

    go : (b : Bool) → is_same class x ≡ b → slice_get (with_class xs class) (class_number xs class) ≡ Some class
        → slice_get (if b || list_any (is_same class) xs then x ∷ xs else x ∷ (xs ++ class ∷ []))
        (cond (not b) (1 + prefix_len (λ y. not (is_same class y)) xs) 0) ≡ Some class
    go true q e = ap (λ (n : List ℕ). Some n) (sym (same_word class x q))
    go false q e = later (list_any (is_same class) xs) (prefix_len (λ y. not (is_same class y)) xs) e

-- classes that are known stay in their places
class_still : (so all : List (List ℕ)) (ds : List LockDecl) (i : ℕ) (class : List ℕ) → DeclareClasses so ds all
    → slice_get so i ≡ Some class → slice_get all i ≡ Some class
class_still so all [] i class h e = ap (λ (ns : List (List ℕ)). slice_get ns i) (sym h) ∙ e
class_still so all (d ∷ ds) i class h e =
    class_still (with_class so h.0) all ds i class h.1.1 (go (list_any (is_same h.0) so))
  where
    go : (b : Bool) → slice_get (if b then so else so ++ h.0 ∷ []) i ≡ Some class
    go true = e
    go false = get_still so (h.0 ∷ []) i class e

-- 3. Where no thread is open

abbrev pub outside : List (List ℕ × Declared) → List (List ℕ) → List LockDecl → List ChanDecl → List ThreadDecl
    → List ThreadNo → ℕ → Known
outside names classes locks chans threads schedule operations = record {
  names = names;
  classes = classes;
  locks = locks;
  chans = chans;
  threads = threads;
  schedule = schedule;
  open_thread = None;
  operations = operations;
  is_done = false;
}

-- bytes that lead to what is known with some list of names, which stand for the right things
pub record Written (names : List (List ℕ × Declared) → Known) (at : Declared → Option (List ℕ)) (k : Known)
    (bytes : List ℕ) : Type 0 where
  pub declared : List (List ℕ × Declared)
  pub named : AreNamed declared at
  pub leads : Leads k bytes (names declared)

pub then_written : (names : List (List ℕ × Declared) → Known) (at : Declared → Option (List ℕ)) (k l : Known)
    (bs cs : List ℕ) → Leads k bs l → Written names at l cs → Written names at k (bs ++ cs)
then_written names at k l bs cs first h =
    record { declared = h.declared; named = h.named; leads = leads_on k l (names h.declared) bs cs first h.leads }

kind_first : (kind : Kind) → IsFirst (kind_word kind)
kind_first Mtx = record { bytes = refl; meaning = refl; short = omega arith }
kind_first Rw = record { bytes = refl; meaning = refl; short = omega arith }
kind_first Sx = record { bytes = refl; meaning = refl; short = omega arith }

kind_says : (kind : Kind) (name class : List ℕ)
    → said_by (kind_word kind ∷ name ∷ class ∷ []) ≡ Some (Declares kind name class)
kind_says Mtx name class = refl
kind_says Rw name class = refl
kind_says Sx name class = refl

sort_first : (on_cond : Bool) → IsFirst (if on_cond then codes "cond" else codes "chan")
sort_first true = record { bytes = refl; meaning = refl; short = omega arith }
sort_first false = record { bytes = refl; meaning = refl; short = omega arith }

sort_says : (on_cond : Bool) (name lock : List ℕ)
    → said_by ((if on_cond then codes "cond" else codes "chan") ∷ name ∷ lock ∷ []) ≡ Some (DeclaresChan on_cond name lock)
sort_says true name lock = refl
sort_says false name lock = refl

module _ (k : Known) (h : IsKept k) (proper : IsProper (plan_of k)) where
  abbrev pub plan : Plan
  plan = plan_of k

  abbrev pub all_names : Declared → Option (List ℕ)
  all_names = name_in (names_of_locks k.locks) (names_of_chans k.chans) (begun_names k.threads k.open_thread)

  -- what is named next isn't declared yet
  pub still_free : (part : List (List ℕ × Declared)) (at : Declared → Option (List ℕ)) → AreNamed part at
      → ((x : Declared) (n : List ℕ) → at x ≡ Some n → all_names x ≡ Some n) → (x : Declared) (n : List ℕ)
      → all_names x ≡ Some n → at x ≡ None
      → is_none (stands_for part n) ≡ true
  still_free part at g within x n e none =
      rw (undeclared_there k.names part all_names at h.named g within x n e none) refl

  -- 4. Locks

  abbrev after_locks : List (List ℕ × Declared) → Known
  after_locks names = outside names k.classes k.locks [] [] [] 0

  pub locks_lead : (ls ds : List LockDecl) (so : List (List ℕ)) (names : List (List ℕ × Declared)) → ls ++ ds ≡ k.locks
      → DeclareClasses so ds k.classes → AreNamed names (name_in (names_of_locks ls) [] [])
      → Written after_locks (name_in (names_of_locks k.locks) [] []) (outside names so ls [] [] [] 0)
      (flat_map (lock_line plan) ds)
  locks_lead ls [] so names e c g =
      let all = part_all ls k.locks e in
      record {
        declared = names;
        named = subst (λ (xs : List LockDecl). AreNamed names (name_in (names_of_locks xs) [] [])) all g;
        leads = subst (λ (x : List LockDecl × List (List ℕ)). Leads (outside names so ls [] [] [] 0) []
            (outside names x.1 x.0 [] [] [] 0)) (cc (all, c)) (leads_nowhere (outside names so ls [] [] [] 0));
      }
  locks_lead ls (d ∷ ds) so names e c g =
      let name_of : LockDecl → List ℕ = λ d. d.name in
      let class = c.0 in
      let here : all_names (Lock (record { 0 = length ls })) ≡ Some d.name = next_name name_of ls d ds k.locks e in
      let free = still_free names (name_in (names_of_locks ls) [] []) g (within ls d ds e)
      (Lock (record { 0 = length ls })) d.name here (no_name_yet name_of ls d ds k.locks e) in
      let spelled_name = h.named.spelled (Lock (record { 0 = length ls })) d.name here in
      let its_class : class_name plan d.class.0 ≡ class =
      ap (λ (n : ℕ). class_name plan n) c.1.0.number ∙ ap (λ (o : Option (List ℕ)). unwrap_or o [])
      (class_still (with_class so class) k.classes ds (class_number so class) class c.1.1 (class_here so class)) in
      let few : length ls < most_locks = omega (arith, part_length name_of ls d ds k.locks e, proper.locks) in
      let first = line_leads (outside names so ls [] [] [] 0) (kind_word d.kind) (d.name ∷ class ∷ [])
      (Declares d.kind d.name class)
      (line_two (kind_word d.kind) d.name class (kind_first d.kind) (name_word d.name spelled_name).0
      (name_word class c.1.0.named).0) (kind_says d.kind d.name class) refl
      (passes_more (test 16 true) [] refl passes_none)
      (passes_more (spelled d.name) _ spelled_name
      (passes_more (spelled class) _ c.1.0.named (passes_more (test 4 (is_none (stands_for names d.name))) _ free
      (passes_more (has_room most_locks (length ls)) _ (lt-ltb (length ls) most_locks few)
      (passes_more (has_room most_classes (class_number so class)) [] c.1.0.few passes_none))))) in
      let more : List (List ℕ × Declared) = names ++ (d.name, Lock (record { 0 = length ls })) ∷ [] in
      let made : ℕ → LockDecl = λ n. record { name = d.name; kind = d.kind; class = record { 0 = n } } in
      let same : made (class_number so class) ≡ d = ap made (sym c.1.0.number) in
      let line : line_of (kind_word d.kind) (d.name ∷ class ∷ [])
      ≡ lock_line plan d = ap (λ (z : List ℕ). line_of (kind_word d.kind) (d.name ∷ z ∷ [])) (sym its_class) in
      then_written after_locks _ (outside names so ls [] [] [] 0)
      (outside more (with_class so class) (ls ++ d ∷ []) [] [] [] 0) (lock_line plan d) (flat_map (lock_line plan) ds)
      (subst (λ (bs : List ℕ). Leads (outside names so ls [] [] [] 0) bs
      (outside more (with_class so class) (ls ++ d ∷ []) [] [] [] 0)) line
      (subst
      (λ (x : LockDecl). Leads (outside names so ls [] [] [] 0) (line_of (kind_word d.kind) (d.name ∷ class ∷ []))
      (outside more (with_class so class) (ls ++ x ∷ []) [] [] [] 0)) same first))
      (locks_lead (ls ++ d ∷ []) ds (with_class so class) more (part_next name_of ls d ds k.locks e) c.1.1
      (lock_named_more names ls [] [] d g (none_is _ free) spelled_name))
    where
      within : (ls : List LockDecl) (d : LockDecl) (ds : List LockDecl) → ls ++ d ∷ ds ≡ k.locks
          → (x : Declared) (n : List ℕ) → name_in (names_of_locks ls) [] [] x ≡ Some n → all_names x ≡ Some n
      within ls d ds e (Lock l) n q = part_name (λ (d : LockDecl). d.name) ls d ds k.locks e l.0 n q
      within ls d ds e (Chan c) n q = absurd (none-some n q)
      within ls d ds e (Thread t) n q = absurd (none-some n q)

  -- 5. Condition variables and channels

  abbrev after_chans : List (List ℕ × Declared) → Known
  after_chans names = outside names k.classes k.locks k.chans [] [] 0

  pub chans_lead : (cs ds : List ChanDecl) (names : List (List ℕ × Declared)) → cs ++ ds ≡ k.chans → All
      (λ d. d.lock.0 < length k.locks) ds → AreNamed names (name_in (names_of_locks k.locks) (names_of_chans cs) [])
      → Written after_chans (name_in (names_of_locks k.locks) (names_of_chans k.chans) [])
      (outside names k.classes k.locks cs [] [] 0) (flat_map (chan_line plan) ds)
  chans_lead cs [] names e a g =
      let all = part_all cs k.chans e in
      record {
        declared = names;
        named = subst
            (λ (xs : List ChanDecl). AreNamed names (name_in (names_of_locks k.locks) (names_of_chans xs) [])) all g;
        leads = subst (λ (xs : List ChanDecl). Leads (outside names k.classes k.locks cs [] [] 0) []
            (outside names k.classes k.locks xs [] [] 0)) all
            (leads_nowhere (outside names k.classes k.locks cs [] [] 0));
      }
  chans_lead cs (d ∷ ds) names e a g =
      let name_of : ChanDecl → List ℕ = λ d. d.name in
      let at = name_in (names_of_locks k.locks) (names_of_chans cs) [] in
      let here : all_names (Chan (record { 0 = length cs })) ≡ Some d.name = next_name name_of cs d ds k.chans e in
      let free = still_free names at g (within cs d ds e) (Chan (record { 0 = length cs })) d.name here
      (no_name_yet name_of cs d ds k.chans e) in
      let spelled_name = h.named.spelled (Chan (record { 0 = length cs })) d.name here in
      let lock = lock_name plan d.lock.0 in
      let below : d.lock.0 < length k.locks = All-head (λ (d : ChanDecl). d.lock.0 < length k.locks) d ds a in
      let l = get_within (names_of_locks k.locks) d.lock.0
      (omega (arith, below, length-map k.locks (λ (d : LockDecl). d.name))) in
      let its_lock : at (Lock d.lock) ≡ Some lock = rw l.1 refl in
      let spelled_lock = g.spelled (Lock d.lock) lock its_lock in
      let known : lock_named (outside names k.classes k.locks cs [] [] 0) lock
      ≡ Some d.lock = rw (spelled_lock, g.stands (Lock d.lock) lock its_lock) refl in
      let few : length cs < most_channels = omega (arith, part_length name_of cs d ds k.chans e, proper.chans) in
      let more : List (List ℕ × Declared) = names ++ (d.name, Chan (record { 0 = length cs })) ∷ [] in
      let before = outside names k.classes k.locks cs [] [] 0 in
      let word = if d.cond then codes "cond" else codes "chan" in
      let first = line_leads before word (d.name ∷ lock ∷ []) (DeclaresChan d.cond d.name lock)
      (line_two word d.name lock (sort_first d.cond) (name_word d.name spelled_name).0 (name_word lock spelled_lock).0)
      (sort_says d.cond d.name lock) refl
      (passes_more (test 16 true) [] refl passes_none)
      (passes_more (spelled d.name) _ spelled_name (passes_more (spelled lock) _ spelled_lock (passes_more
      (test 4 (is_none (stands_for names d.name))) _ free (passes_more (names_lock before lock) _ (ap is_some known)
      (passes_more (has_room most_channels (length cs)) [] (lt-ltb (length cs) most_channels few) passes_none))))) in
      then_written after_chans _ before (outside more k.classes k.locks (cs ++ d ∷ []) [] [] 0) (chan_line plan d)
      (flat_map (chan_line plan) ds)
      (subst (λ (o : Option LockNo). Leads before (chan_line plan d)
      (with_chan before d.cond d.name (unwrap_or o (record { 0 = 0 })))) known first)
      (chans_lead (cs ++ d ∷ []) ds more (part_next name_of cs d ds k.chans e)
      (All-tail (λ (d : ChanDecl). d.lock.0 < length k.locks) d ds a)
      (chan_named_more names (names_of_locks k.locks) cs [] d g (none_is _ free) spelled_name))
    where
      within : (cs : List ChanDecl) (d : ChanDecl) (ds : List ChanDecl) → cs ++ d ∷ ds ≡ k.chans → (x : Declared)
          (n : List ℕ) → name_in (names_of_locks k.locks) (names_of_chans cs) [] x ≡ Some n → all_names x ≡ Some n
      within cs d ds e (Lock l) n q = q
      within cs d ds e (Chan c) n q = part_name (λ (d : ChanDecl). d.name) cs d ds k.chans e c.0 n q
      within cs d ds e (Thread t) n q = absurd (none-some n q)
