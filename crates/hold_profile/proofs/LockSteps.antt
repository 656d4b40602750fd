-- What an entry more makes of a lock's line and of its sections that are open.
use Rattle.std.proofs.Common.{◌≡◌, ℕ, ◌+◌, ◌-◌, ◌*◌, ◌<◌, ◌≤◌, Bool, true, false, not, ◌&&◌, cond, eqb, leb, ltb, max, Option, Some, None, List, [], ◌∷◌, ◌++◌, length, map, take, get_or, refl, sym, ap, ◌∙◌, arith, length-append, add-zero, eq-eqb}
use Rattle.std.specs.Prelude.{IfSome, is_none}
use Rattle.std.specs.Option.{option_or}
use Rattle.std.specs.List.{filter, sum_by, count_by, All}
use Rattle.std.proofs.lemmas.Bool.{lt-ltb, le-ltb, lt-leb, le-leb}
use Rattle.std.proofs.lemmas.List.{map-append, length_push, append-nil, length-map, take_more}
use Rattle.std.proofs.lemmas.List.Sums.{sum_by-append, sum_by_push, sum_by_more, sum_by-le, length-filter, count_by-le-length}
use Rattle.std.proofs.lemmas.Nat.{mul-le}
use Rattle.std.proofs.lemmas.List.Elements.{All-weaker, All-push, All-map, filter-append}
use Rattle.lock_model.specs.Config.{Config}
use Rattle.lock_model.specs.History.{ends, sleeps_with}
use Rattle.lock_model.specs.Plans.{config_of}
use Rattle.lock_model.specs.declared.numbers.LockNo.{LockNo}
use Rattle.lock_model.specs.declared.event.Entry.{Entry}
use Rattle.lock_model.specs.declared.plan.Plan.{Plan}
use Rattle.hold_profile.specs.AtLocks.{at_lock}
use Rattle.hold_profile.specs.Sections.{Section, sections_of, sections_at, begins, ticket_of_end, length_of, is_open_behind}
use Rattle.hold_profile.specs.Profiles.{greatest_by, lock_line, finds_busy, is_halted_at}
use Rattle.hold_profile.specs.Counting.{is_open, length_so_far, line_so_far, open_seen, open_at, lasted, is_by, with_lengths, line_after, open_after, IsTally, Fits}
use Rattle.hold_profile.specs.declared.events.AtLock.{AtLock}
use Rattle.hold_profile.specs.declared.events.AtLock.TheVariants.{Begins, Ends, Leaves, FindsBusy, IsHalted}
use Rattle.hold_profile.specs.declared.lines.LockLine.{LockLine}
use Rattle.hold_profile.specs.declared.tally.OpenSection.{OpenSection}
use Rattle.hold_profile.proofs.Sums.{sum_by-map, sum_by-same, sum_by-both, sum_by-filter, sum_by-none, greatest_by-append, greatest_by-map, greatest_by-same, greatest_by-both, greatest_by-filter, greatest_by-none, filter-map, filter_all, All-each, All-filtered, length-filter_most}
use Rattle.hold_profile.proofs.Saying.{hits, it_begins, it_ends, it_leaves, it_is_busy, it_is_halted, Says, says_of}
use Rattle.hold_profile.proofs.OpenLists.{section_from, closed_for, is_at, sections_at-push, open-close, IsBelow, sections_below, sections-few}

-- 1. Sections of one lock, with an entry more

-- 1 where a test says so
abbrev pub one_if : Bool → ℕ
one_if v = cond v 1 0

-- how long an open section has lasted that the entry ends
abbrev pub gone : Bool → Entry → OpenSection → ℕ
gone b e o = cond (b && is_by e.thread.0 o) (lasted e.ticket o) 0

module _ (b begun : Bool) (l n : ℕ) (e : Entry) (at_end : e.ticket ≡ n) (xs : List Section) where
  abbrev fresh : List Section
  fresh = cond begun (section_from l e None ∷ []) []

  abbrev next : List Section
  next = map (closed_for b e) xs ++ fresh

  abbrev opens : List OpenSection
  opens = map open_seen (filter is_open xs)

  next_length : length next ≡ length xs + cond begun 1 0
  next_length =
      length-append (map (closed_for b e) xs) fresh ∙ ap (λ k. k + length fresh) (length-map xs (closed_for b e))
      ∙ ap (λ k. length xs + k) (go begun)
    where
      go : (v : Bool) → length (cond v (section_from l e None ∷ []) []) ≡ cond v 1 0
      go true = refl
      go false = refl

  -- lengths
  longer : (s : Section)
      → length_so_far (closed_for b e s) ≡ length_so_far s + cond (is_open s) (gone b e (open_seen s)) 0
  longer s = go s.end (b && eqb e.thread.0 s.begin.thread.0)
    where
      m : ℕ
      m = s.begin.ticket

      go : (o : Option Entry) (hit : Bool)
          → ticket_of_end m (option_or o (cond hit (Some e) None)) - m ≡ (ticket_of_end m o - m) + cond (is_none o)
          (cond hit (e.ticket - m) 0) 0
      go (Some x) hit = omega arith
      go None true = omega arith
      go None false = omega arith

  longest : (s : Section)
      → length_so_far (closed_for b e s) ≡ max (length_so_far s) (cond (is_open s) (gone b e (open_seen s)) 0)
  longest s = go s.end (b && eqb e.thread.0 s.begin.thread.0)
    where
      m : ℕ
      m = s.begin.ticket

      go : (o : Option Entry) (hit : Bool)
          → ticket_of_end m (option_or o (cond hit (Some e) None)) - m ≡ max (ticket_of_end m o - m)
          (cond (is_none o) (cond hit (e.ticket - m) 0) 0)
      go (Some x) hit = omega arith
      go None true = omega arith
      go None false = omega arith

  fresh_total : sum_by length_so_far fresh ≡ 0
  fresh_total = go begun
    where
      go : (v : Bool) → sum_by length_so_far (cond v (section_from l e None ∷ []) []) ≡ 0
      go true = omega arith
      go false = refl

  fresh_longest : greatest_by length_so_far fresh ≡ 0
  fresh_longest = go begun
    where
      go : (v : Bool) → greatest_by length_so_far (cond v (section_from l e None ∷ []) []) ≡ 0
      go true = omega arith
      go false = refl

  next_total : sum_by length_so_far next ≡ sum_by length_so_far xs + sum_by (gone b e) opens
  next_total =
      let here = sum_by-append length_so_far (map (closed_for b e) xs) fresh in
      let mapped = sum_by-map length_so_far (closed_for b e) xs in
      let both = sum_by-both (λ s. length_so_far (closed_for b e s)) length_so_far
      (λ s. cond (is_open s) (gone b e (open_seen s)) 0) xs longer in
      let seen =
      sum_by-map (gone b e) open_seen (filter is_open xs)
      ∙ sum_by-filter (λ s. gone b e (open_seen s)) is_open xs in
      omega (arith, here, mapped, both, seen, fresh_total)

  next_longest : greatest_by length_so_far next ≡ max (greatest_by length_so_far xs) (greatest_by (gone b e) opens)
  next_longest =
      let here = greatest_by-append length_so_far (map (closed_for b e) xs) fresh in
      let mapped = greatest_by-map length_so_far (closed_for b e) xs in
      let both = greatest_by-both (λ s. length_so_far (closed_for b e s)) length_so_far
      (λ s. cond (is_open s) (gone b e (open_seen s)) 0) xs longest in
      let seen =
      greatest_by-map (gone b e) open_seen (filter is_open xs)
      ∙ greatest_by-filter (λ s. gone b e (open_seen s)) is_open xs in
      omega (arith, here, mapped, both, seen, fresh_longest)

  -- those that are open
  next_opens : map open_seen (filter is_open next)
      ≡ filter (λ o. not (b && is_by e.thread.0 o)) opens ++ cond begun (open_seen (section_from l e None) ∷ []) []
  next_opens =
      ap (map open_seen) (filter-append is_open (map (closed_for b e) xs) fresh
      ∙ ap (λ ys. ys ++ filter is_open fresh) (open-close hit e xs))
      ∙ map-append open_seen (filter (λ s. not (hit s.lock s.begin)) (filter is_open xs)) (filter is_open fresh)
      ∙ ap (λ ys. ys ++ map open_seen (filter is_open fresh))
      (sym (filter-map (λ (o : OpenSection). not (b && is_by e.thread.0 o)) open_seen (filter is_open xs)))
      ∙ ap (λ ys. filter (λ o. not (b && is_by e.thread.0 o)) opens ++ ys) (go begun)
    where
      hit : ℕ → Entry → Bool
      hit k x = b && eqb e.thread.0 x.thread.0

      go : (v : Bool)
          → map open_seen (filter is_open (cond v (section_from l e None ∷ []) [])) ≡ cond v
          (open_seen (section_from l e None) ∷ []) []
      go true = refl
      go false = refl

  -- behind an entry before it as many are open as were,
  open_before : (k : ℕ) → k < n → count_by (is_open_behind (n + 1) k) next ≡ count_by (is_open_behind n k) xs
  open_before k lt =
      sum_by-append one_of (map (closed_for b e) xs) fresh
      ∙ ap (λ m. m + sum_by one_of fresh)
      (sum_by-map one_of (closed_for b e) xs
      ∙ sum_by-same (λ s. one_of (closed_for b e s)) (λ s. cond (is_open_behind n k s) 1 0) xs (All-each _ same xs))
      ∙ ap (λ m. count_by (is_open_behind n k) xs + m) (none begun)
      ∙ add-zero (count_by (is_open_behind n k) xs)
    where
      one_of : Section → ℕ
      one_of s = cond (is_open_behind (n + 1) k s) 1 0

      later : (o : Option Entry) (hit : Bool)
          → ltb k (ticket_of_end (n + 1) (option_or o (cond hit (Some e) None))) ≡ ltb k (ticket_of_end n o)
      later (Some x) hit = refl
      later None true = ap (ltb k) at_end
      later None false = lt-ltb k (n + 1) (omega arith) ∙ sym (lt-ltb k n lt)

      same : (s : Section) → one_of (closed_for b e s) ≡ cond (is_open_behind n k s) 1 0
      same s = ap (λ v. cond (leb s.begin.ticket k && v) 1 0) (later s.end (b && eqb e.thread.0 s.begin.thread.0))

      none : (v : Bool) → sum_by one_of (cond v (section_from l e None ∷ []) []) ≡ 0
      none true =
          let past : k < e.ticket = omega arith in ap (λ v. 0 + cond (v && ltb k (n + 1)) 1 0) (lt-leb e.ticket k past)
      none false = refl

-- and behind the last one all those that haven't ended
open_behind_last : (n : ℕ) (e : Entry) → e.ticket ≡ n → (ys : List Section) → All (IsBelow (n + 1)) ys
    → count_by (is_open_behind (n + 1) e.ticket) ys ≡ length (filter is_open ys)
open_behind_last n e at_end ys below =
    sum_by-same (λ s. one_if (is_open_behind (n + 1) e.ticket s)) (λ s. one_if (is_open s)) ys
    (All-weaker (IsBelow (n + 1)) (λ s. one_if (is_open_behind (n + 1) e.ticket s) ≡ one_if (is_open s)) same ys below)
    ∙ sym (length-filter is_open ys)
  where
    later : (o : Option Entry) → IfSome o (λ (x : Entry). x.ticket < n + 1)
        → ltb e.ticket (ticket_of_end (n + 1) o) ≡ is_none o
    later None h = lt-ltb e.ticket (n + 1) (omega arith)
    later (Some x) h = le-ltb e.ticket x.ticket (omega arith)

    same : (s : Section) → IsBelow (n + 1) s → one_if (is_open_behind (n + 1) e.ticket s) ≡ one_if (is_open s)
    same s h =
        let begun : s.begin.ticket ≤ e.ticket = omega (arith, h.begin) in
        ap (λ v. one_if (v && ltb e.ticket (ticket_of_end (n + 1) s.end))) (le-leb s.begin.ticket e.ticket begun)
        ∙ ap one_if (later s.end h.end)

-- 2. Lines

abbrev pub line : ℕ → ℕ → ℕ → ℕ → ℕ → ℕ → ℕ → LockLine
line a b c d f g h = record { holds = a; total = b; longest = c; together = d; busy = f; waits = g; halted = h }

pub same_line : {a a' b b' c c' d d' f f' g g' h h' : ℕ} → a ≡ a' → b ≡ b' → c ≡ c' → d ≡ d' → f ≡ f' → g ≡ g'
    → h ≡ h' → line a b c d f g h ≡ line a' b' c' d' f' g' h'
same_line p q r s t u v = cc

-- a line and its open sections behind an entry, by what the entry says of the lock
line_with : Entry → Bool → Bool → Bool → Bool → Bool → LockLine → List OpenSection → ℕ → LockLine
line_with e b begun left busy halted x os together = line
    (x.holds + cond begun 1 0)
    (x.total + sum_by (gone b e) os)
    (max x.longest (greatest_by (gone b e) os))
    (max x.together together)
    (x.busy + cond busy 1 0)
    (x.waits + cond left 1 0)
    (x.halted + cond halted 1 0)

opens_with : Entry → Bool → Bool → List OpenSection → List OpenSection
opens_with e b begun os =
    filter (λ o. not (b && is_by e.thread.0 o)) os ++ cond begun (record { thread = e.thread; since = e.ticket } ∷ [])
    []

together_with : (e : Entry) (b begun left busy halted : Bool) (x : LockLine) (os : List OpenSection) (m : ℕ)
    → (line_with e b begun left busy halted x os m).together ≡ max x.together m
unfolding line_with
together_with e b begun left busy halted x os m = refl

-- those of a lock behind an entry more
module _ (c : Config) (es : List Entry) (e : Entry) (l : ℕ) (at_end : e.ticket ≡ length es)
    (before : All (λ (x : Entry). x.ticket < length es) es) where
  abbrev n : ℕ
  n = length es

  abbrev more : List Entry
  more = es ++ e ∷ []

  abbrev ss : List Section
  ss = sections_at l (sections_of c es)

  -- what it ends and begins
  abbrev b : Bool
  b = ends c e.event l

  abbrev begun : Bool
  begun = is_at (begins c e.event) l

  pushed : sections_at l (sections_of c more) ≡ next b begun l n e at_end ss
  pushed = sections_at-push c es e l

  count : length more ≡ n + 1
  count = length_push es e

  below : All (λ (x : Entry). x.ticket < n + 1) more
  below =
      All-push (λ (x : Entry). x.ticket < n + 1) es e
      (All-weaker (λ (x : Entry). x.ticket < n) (λ (x : Entry). x.ticket < n + 1) (λ x h. omega arith) es before)
      (omega arith)

  sections_are_below : All (IsBelow (n + 1)) (sections_at l (sections_of c more))
  sections_are_below =
      All-filtered (IsBelow (n + 1)) (λ s. eqb s.lock l) (sections_of c more) (sections_below c (n + 1) more below)

  opens_more : open_at c more l
      ≡ filter (λ o. not (b && is_by e.thread.0 o)) (open_at c es l) ++ cond begun
      (open_seen (section_from l e None) ∷ []) []
  opens_more = ap (λ ys. map open_seen (filter is_open ys)) pushed ∙ next_opens b begun l n e at_end ss

  together_more : (lock_line c more l).together ≡ max (lock_line c es l).together (length (open_at c more l))
  unfolding lock_line
  together_more =
      ap (λ k. greatest_by (λ (x : Entry). count_by (is_open_behind k x.ticket) ys) more) count
      ∙ greatest_by-append f es (e ∷ [])
      ∙ ap (λ k. max k (max (f e) 0))
      (greatest_by-same f (λ (x : Entry). count_by (is_open_behind n x.ticket) ss) es
      (All-weaker (λ (x : Entry). x.ticket < n) (λ x. f x ≡ count_by (is_open_behind n x.ticket) ss) same es
      before))
      ∙ ap (max (greatest_by (λ (x : Entry). count_by (is_open_behind n x.ticket) ss) es)) last
    where
      ys : List Section
      ys = sections_at l (sections_of c more)

      f : Entry → ℕ
      f x = count_by (is_open_behind (n + 1) x.ticket) ys

      same : (x : Entry) → x.ticket < n → f x ≡ count_by (is_open_behind n x.ticket) ss
      same x h =
          ap (count_by (is_open_behind (n + 1) x.ticket)) pushed ∙ open_before b begun l n e at_end ss x.ticket h

      last : max (f e) 0 ≡ length (open_at c more l)
      last =
          omega (arith, open_behind_last n e at_end ys sections_are_below, length-map (filter is_open ys) open_seen)

  opens_step : open_at c more l ≡ opens_with e b begun (open_at c es l)
  unfolding opens_with
  opens_step = opens_more

  line_step : line_so_far c more l
      ≡ line_with e b begun (sleeps_with c e.event l) (finds_busy e.event l) (is_halted_at e.event l)
      (line_so_far c es l) (open_at c es l) (length (open_at c more l))
  unfolding lock_line line_with
  line_step = same_line
      (ap length pushed ∙ next_length b begun l n e at_end ss)
      (ap (sum_by length_so_far) pushed ∙ next_total b begun l n e at_end ss)
      (ap (greatest_by length_so_far) pushed ∙ next_longest b begun l n e at_end ss)
      together_more
      (sum_by_push (λ (x : Entry). cond (finds_busy x.event l) 1 0) es e)
      (sum_by_push (λ (x : Entry). cond (sleeps_with c x.event l) 1 0) es e)
      (sum_by_push (λ (x : Entry). cond (is_halted_at x.event l) 1 0) es e)

-- the lengths of one section more
pub add_more : (f : OpenSection → ℕ) (xs : List OpenSection) (i : ℕ) (d : OpenSection) (x now new : LockLine) (n : ℕ)
    → i < length xs
    → now ≡ with_lengths f (take i xs) x → new ≡ record now { total = now.total + n; longest = max now.longest n }
    → n ≡ f (get_or xs i d)
    → new ≡ with_lengths f (take (i + 1) xs) x
add_more f xs i d x now new n lt before more is =
    more ∙ same_line (ap (λ (z : LockLine). z.holds) before)
    (omega (arith, ap (λ (z : LockLine). z.total) before, sum_by_more f xs i d lt, is))
    (omega (
      arith,
      ap (λ (z : LockLine). z.longest) before,
      ap (greatest_by f) (take_more xs i d lt),
      greatest_by-append
          f (take i xs) (get_or xs i d ∷ []),
      is,
    ))
    (ap (λ (z : LockLine). z.together) before) (ap (λ (z : LockLine). z.busy) before)
    (ap (λ (z : LockLine). z.waits) before) (ap (λ (z : LockLine). z.halted) before)

-- 3. Tallies

module _ (plan : Plan) (es : List Entry) (e : Entry) (at_end : e.ticket ≡ length es)
    (before : All (λ (x : Entry). x.ticket < length es) es) where
  abbrev c : Config
  c = config_of plan

  abbrev es' : List Entry
  es' = es ++ e ∷ []

  -- a tally behind an entry, by what that says of the lock
  by : (l : ℕ) (b begun left busy halted : Bool) (x y : LockLine) (xs ys : List OpenSection)
      → ends c e.event l ≡ b → is_at (begins c e.event) l ≡ begun → sleeps_with c e.event l ≡ left
      → finds_busy e.event l ≡ busy → is_halted_at e.event l ≡ halted
      → IsTally c es l x xs → ys ≡ opens_with e b begun xs → y ≡ line_with e b begun left busy halted x xs (length ys)
      → IsTally c es' l y ys
  by l b begun left busy halted x y xs ys ended begins_it leaves busy_it halted_it k opens lines = record {
    its_line = lines ∙ same ∙ sym (line_step c es e l at_end before);
    its_sections = sections_same;
    within =
        omega (
          arith,
          ap (λ (z : LockLine). z.together) lines,
          together_with e b begun left busy halted x xs
              (length ys),
        );
  }
    where
      sections_same : ys ≡ open_at c es' l
      sections_same =
          opens ∙ ap (opens_with e b begun) k.its_sections
          ∙ ap (λ v. opens_with e v begun (open_at c es l)) (sym ended)
          ∙ ap (λ v. opens_with e (ends c e.event l) v (open_at c es l)) (sym begins_it)
          ∙ sym (opens_step c es e l at_end before)

      same : line_with e b begun left busy halted x xs (length ys)
          ≡ line_with e (ends c e.event l) (is_at (begins c e.event) l) (sleeps_with c e.event l) (finds_busy e.event l)
          (is_halted_at e.event l) (line_so_far c es l) (open_at c es l) (length (open_at c es' l))
      same =
          ap (λ m. line_with e b begun left busy halted x xs m) (ap length sections_same)
          ∙ ap (λ os. line_with e b begun left busy halted x os (length (open_at c es' l))) k.its_sections
          ∙ ap (λ z. line_with e b begun left busy halted z (open_at c es l) (length (open_at c es' l))) k.its_line
          ∙ ap (λ v. line_with e v begun left busy halted (line_so_far c es l) (open_at c es l)
          (length (open_at c es' l))) (sym ended)
          ∙ ap (λ v. line_with e (ends c e.event l) v left busy halted (line_so_far c es l) (open_at c es l)
          (length (open_at c es' l))) (sym begins_it)
          ∙ ap (λ v. line_with e (ends c e.event l) (is_at (begins c e.event) l) v busy halted (line_so_far c es l)
          (open_at c es l) (length (open_at c es' l))) (sym leaves)
          ∙ ap (λ v. line_with e (ends c e.event l) (is_at (begins c e.event) l) (sleeps_with c e.event l) v halted
          (line_so_far c es l) (open_at c es l) (length (open_at c es' l))) (sym busy_it)
          ∙ ap (λ v. line_with e (ends c e.event l) (is_at (begins c e.event) l) (sleeps_with c e.event l)
          (finds_busy e.event l) v (line_so_far c es l) (open_at c es l) (length (open_at c es' l))) (sym halted_it)

  -- where nothing is counted of the lock it stays,
  pub tally_stays : (l : ℕ) (x : LockLine) (xs : List OpenSection)
      → ((f : AtLock → Bool) → hits f (at_lock plan e.event) l ≡ false) → IsTally c es l x xs → IsTally c es' l x xs
  unfolding opens_with line_with
  tally_stays l x xs none k =
      let s = says_of plan e.event l in
      by l false false false false false x x xs xs (s.ended ∙ none it_ends) (s.begun ∙ none it_begins)
      (s.left ∙ none it_leaves) (s.busy ∙ none it_is_busy) (s.halted ∙ none it_is_halted) k
      (sym (append-nil _ ∙ filter_all xs))
      (same_line (sym (add-zero _)) (omega (arith, sum_by-none xs)) (omega (arith, greatest_by-none xs))
      (omega (arith, k.within)) (sym (add-zero _)) (sym (add-zero _)) (sym (add-zero _)))

  -- and else it is as it was noted
  pub tally_noted : (l : LockNo) (what : AtLock) (x y : LockLine) (xs ys : List OpenSection)
      → at_lock plan e.event ≡ Some (l, what) → IsTally c es l.0 x xs
      → y ≡ line_after what e.thread.0 e.ticket xs x → ys ≡ open_after what e.thread.0 e.ticket xs
      → IsTally c es' l.0 y ys
  unfolding opens_with line_with
  tally_noted l what x y xs ys is k lines opens = go what own lines opens
    where
      s : Says plan e.event (at_lock plan e.event) l.0
      s = says_of plan e.event l.0

      itself : (v : Bool) → (v && eqb l.0 l.0) ≡ v
      itself true = eq-eqb l.0 l.0 refl
      itself false = refl

      own : (f : AtLock → Bool) → hits f (at_lock plan e.event) l.0 ≡ f what
      own f = ap (λ o. hits f o l.0) is ∙ itself (f what)

      go : (w : AtLock) → ((f : AtLock → Bool) → hits f (at_lock plan e.event) l.0 ≡ f w)
          → y ≡ line_after w e.thread.0 e.ticket xs x → ys ≡ open_after w e.thread.0 e.ticket xs
          → IsTally c es' l.0 y ys
      go Begins o u v =
          by l.0 false true false false false x y xs ys (s.ended ∙ o it_ends) (s.begun ∙ o it_begins)
          (s.left ∙ o it_leaves) (s.busy ∙ o it_is_busy) (s.halted ∙ o it_is_halted) k
          (v ∙ ap (λ zs. zs ++ open_seen (section_from l.0 e None) ∷ []) (sym (filter_all xs)))
          (u ∙ same_line refl (omega (arith, sum_by-none xs)) (omega (arith, greatest_by-none xs))
          (omega (arith, ap length v, length-append xs (open_seen (section_from l.0 e None) ∷ [])))
          (sym (add-zero _)) (sym (add-zero _)) (sym (add-zero _)))
      go Ends o u v =
          by l.0 true false false false false x y xs ys (s.ended ∙ o it_ends) (s.begun ∙ o it_begins)
          (s.left ∙ o it_leaves) (s.busy ∙ o it_is_busy) (s.halted ∙ o it_is_halted) k
          (v ∙ sym (append-nil _))
          (u ∙ same_line (sym (add-zero _)) refl refl
          (omega (arith, ap length v, k.within, length-filter_most (λ o. not (is_by e.thread.0 o)) xs))
          (sym (add-zero _)) (sym (add-zero _)) (sym (add-zero _)))
      go Leaves o u v =
          by l.0 true false true false false x y xs ys (s.ended ∙ o it_ends) (s.begun ∙ o it_begins)
          (s.left ∙ o it_leaves) (s.busy ∙ o it_is_busy) (s.halted ∙ o it_is_halted) k
          (v ∙ sym (append-nil _))
          (u ∙ same_line (sym (add-zero _)) refl refl
          (omega (arith, ap length v, k.within, length-filter_most (λ o. not (is_by e.thread.0 o)) xs))
          (sym (add-zero _)) refl (sym (add-zero _)))
      go FindsBusy o u v =
          by l.0 false false false true false x y xs ys (s.ended ∙ o it_ends) (s.begun ∙ o it_begins)
          (s.left ∙ o it_leaves) (s.busy ∙ o it_is_busy) (s.halted ∙ o it_is_halted) k
          (v ∙ sym (append-nil _ ∙ filter_all xs))
          (u ∙ same_line (sym (add-zero _)) (omega (arith, sum_by-none xs)) (omega (arith, greatest_by-none xs))
          (omega (arith, ap length v, k.within)) refl (sym (add-zero _)) (sym (add-zero _)))
      go IsHalted o u v =
          by l.0 false false false false true x y xs ys (s.ended ∙ o it_ends) (s.begun ∙ o it_begins)
          (s.left ∙ o it_leaves) (s.busy ∙ o it_is_busy) (s.halted ∙ o it_is_halted) k
          (v ∙ sym (append-nil _ ∙ filter_all xs))
          (u ∙ same_line (sym (add-zero _)) (omega (arith, sum_by-none xs)) (omega (arith, greatest_by-none xs))
          (omega (arith, ap length v, k.within)) (sym (add-zero _)) (sym (add-zero _)) refl)

-- 4. In the end

-- a lock's whole line is that of the sections that have ended, and the lengths of the others
pub line_in_end_is : (c : Config) (es : List Entry) (l : ℕ)
    → with_lengths (lasted (length es)) (open_at c es l) (line_so_far c es l) ≡ lock_line c es l
unfolding lock_line
line_in_end_is c es l = same_line refl (sym total) (sym longest) refl refl refl refl
  where
    n : ℕ
    n = length es

    ss : List Section
    ss = sections_at l (sections_of c es)

    rest : Section → ℕ
    rest s = cond (is_open s) (n - s.begin.ticket) 0

    longer : (s : Section) → length_of n s ≡ length_so_far s + rest s
    longer s = go s.end
      where
        m : ℕ
        m = s.begin.ticket

        go : (o : Option Entry) → ticket_of_end n o - m ≡ (ticket_of_end m o - m) + cond (is_none o) (n - m) 0
        go None = omega arith
        go (Some x) = omega arith

    greater : (s : Section) → length_of n s ≡ max (length_so_far s) (rest s)
    greater s = go s.end
      where
        m : ℕ
        m = s.begin.ticket

        go : (o : Option Entry) → ticket_of_end n o - m ≡ max (ticket_of_end m o - m) (cond (is_none o) (n - m) 0)
        go None = omega arith
        go (Some x) = omega arith

    total : sum_by (length_of n) ss ≡ sum_by length_so_far ss + sum_by (lasted n) (open_at c es l)
    total =
        let seen =
        sum_by-map (lasted n) open_seen (filter is_open ss)
        ∙ sum_by-filter (λ s. lasted n (open_seen s)) is_open ss in
        omega (arith, sum_by-both (length_of n) length_so_far rest ss longer, seen)

    longest : greatest_by (length_of n) ss
        ≡ max (greatest_by length_so_far ss) (greatest_by (lasted n) (open_at c es l))
    longest =
        let seen =
        greatest_by-map (lasted n) open_seen (filter is_open ss)
        ∙ greatest_by-filter (λ s. lasted n (open_seen s)) is_open ss in
        omega (arith, greatest_by-both (length_of n) length_so_far rest ss greater, seen)

-- 5. Limits

-- open sections have begun below the number of entries
pub opens_since : (c : Config) (es : List Entry) (l : ℕ) → All (λ (x : Entry). x.ticket < length es) es
    → All (λ (o : OpenSection). o.since < length es) (open_at c es l)
opens_since c es l before =
    All-map (λ (o : OpenSection). o.since < length es) open_seen (filter is_open ss)
    (All-weaker (IsBelow (length es)) (λ s. s.begin.ticket < length es) (λ s h. h.begin) (filter is_open ss)
    (All-filtered (IsBelow (length es)) is_open ss
    (All-filtered (IsBelow (length es)) (λ s. eqb s.lock l) (sections_of c es)
    (sections_below c (length es) es before))))
  where
    ss : List Section
    ss = sections_at l (sections_of c es)

-- there are no more of them than entries
pub opens_few : (c : Config) (es : List Entry) (l : ℕ) → length (open_at c es l) ≤ length es
opens_few c es l =
    let ss = sections_at l (sections_of c es) in
    omega (
      arith,
      length-map (filter is_open ss) open_seen,
      length-filter_most is_open ss,
      length-filter_most
          (λ (s : Section). eqb s.lock l) (sections_of c es),
      sections-few c es,
    )

-- the sum of lengths that are at most n, each of a section
sum_few : (c : Config) (es : List Entry) (l : ℕ) (f : Section → ℕ)
    → All (λ (s : Section). f s ≤ length es) (sections_at l (sections_of c es))
    → sum_by f (sections_at l (sections_of c es)) ≤ length es * length es
sum_few c es l f h =
    let ss = sections_at l (sections_of c es) in
    let few : length ss ≤ length es =
    omega (arith, length-filter_most (λ (s : Section). eqb s.lock l) (sections_of c es), sections-few c es) in
    omega (
      arith,
      sum_by-le f (length es) ss h,
      mul-le (length ss) (length es) (length es) (length es) few
          (omega arith),
    )

pub total_few : (c : Config) (es : List Entry) (l : ℕ) → All (λ (x : Entry). x.ticket < length es) es
    → (lock_line c es l).total ≤ length es * length es
unfolding lock_line
total_few c es l before =
    sum_few c es l (length_of (length es))
    (All-weaker (IsBelow (length es)) (λ s. length_of (length es) s ≤ length es) few ss below)
  where
    ss : List Section
    ss = sections_at l (sections_of c es)

    below : All (IsBelow (length es)) ss
    below =
        All-filtered (IsBelow (length es)) (λ s. eqb s.lock l) (sections_of c es)
        (sections_below c (length es) es before)

    few : (s : Section) → IsBelow (length es) s → length_of (length es) s ≤ length es
    few s h = go s.end h.end
      where
        go : (o : Option Entry) → IfSome o (λ (x : Entry). x.ticket < length es)
            → ticket_of_end (length es) o - s.begin.ticket ≤ length es
        go None k = omega arith
        go (Some x) k = omega arith

-- the counts of a line fit
pub line_fits : (c : Config) (es : List Entry) (l : ℕ) → All (λ (x : Entry). x.ticket < length es) es
    → length es ≤ 40000 → Fits (line_so_far c es l)
unfolding lock_line
line_fits c es l before few = record {
  holds = omega (arith, length-filter_most (λ (s : Section). eqb s.lock l) (sections_of c es), sections-few c es);
  total =
      omega (
        arith,
        ap (λ (x : LockLine). x.total) (line_in_end_is c es l),
        total_few c es l before,
        mul-le (length es)
            (length es) 40000 40000 few few,
      );
  busy = omega (arith, count_by-le-length (λ (x : Entry). finds_busy x.event l) es);
  waits = omega (arith, count_by-le-length (λ (x : Entry). sleeps_with c x.event l) es);
  halted = omega (arith, count_by-le-length (λ (x : Entry). is_halted_at x.event l) es);
}
