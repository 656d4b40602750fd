-- The sections of a history with an entry more: the entry ends those of its thread that it may, and begins one or none.
use Rattle.std.proofs.Common.{◌≡◌, ℕ, suc, ◌<◌, ◌≤◌, Bool, true, false, not, ◌&&◌, cond, eqb, Option, Some, None, List, [], ◌∷◌, ◌++◌, length, map, refl, sym, ap, ◌∙◌, inl, inr, arith}
use Rattle.std.specs.Prelude.{IfSome}
use Rattle.std.specs.Option.{option_or}
use Rattle.std.specs.List.{filter, find, All}
use Rattle.std.proofs.lemmas.Bool.{cases_eq, ne_eqb, eqb-true}
use Rattle.std.proofs.lemmas.List.Folds.{find-append}
use Rattle.std.proofs.lemmas.List.Elements.{All-head, All-tail, All-cons, All-nil, All-weaker, filter-append, filter_passes}
use Rattle.lock_model.specs.Config.{Config}
use Rattle.lock_model.specs.History.{ends}
use Rattle.lock_model.specs.declared.event.Entry.{Entry}
use Rattle.hold_profile.specs.Sections.{Section, sections_of, sections_at, section_before, ends_section, begins}
use Rattle.hold_profile.specs.Counting.{is_open, sections_by}
use Rattle.hold_profile.proofs.Sums.{map-same, filter-map}

-- 1. An entry more

abbrev pub section_from : ℕ → Entry → Option Entry → Section
section_from l e o = record { lock = l; begin = e; end = o }

-- an entry ends a section, where a test says so and it is open
abbrev pub close : Bool → Entry → Section → Section
close b e s = record s { end = option_or s.end (cond b (Some e) None) }

-- a section as an entry leaves it
abbrev pub with_entry : Config → Entry → Section → Section
with_entry c e s = close (ends_section c s.begin.thread.0 s.lock e) e s

-- the section that an entry begins
abbrev pub begun_by : Entry → Option ℕ → List Section
begun_by e None = []
begun_by e (Some l) = section_from l e None ∷ []

pub sections-push : (c : Config) (es : List Entry) (e : Entry)
    → sections_of c (es ++ e ∷ []) ≡ map (with_entry c e) (sections_of c es) ++ begun_by e (begins c e.event)
unfolding sections_of
sections-push c [] e = go (begins c e.event)
  where
    go : (o : Option ℕ) → section_before c e [] o [] ≡ begun_by e o
    go None = refl
    go (Some l) = refl
sections-push c (x ∷ es) e = go (sections-push c es e) (begins c x.event)
  where
    go : sections_of c (es ++ e ∷ []) ≡ map (with_entry c e) (sections_of c es) ++ begun_by e (begins c e.event)
        → (o : Option ℕ) → section_before c x (es ++ e ∷ []) o (sections_of c (es ++ e ∷ []))
        ≡ map (with_entry c e) (section_before c x es o (sections_of c es)) ++ begun_by e (begins c e.event)
    go h None = h
    go h (Some l) =
        ap (λ (o : Option Entry). section_from l x o ∷ sections_of c (es ++ e ∷ []))
        (find-append (ends_section c x.thread.0 l) es (e ∷ []))
        ∙ ap (λ (ss : List Section). with_entry c e (section_from l x (find (ends_section c x.thread.0 l) es)) ∷ ss) h

-- there are no more sections than entries
pub sections-few : (c : Config) (es : List Entry) → length (sections_of c es) ≤ length es
unfolding sections_of
sections-few c [] = omega arith
sections-few c (e ∷ es) = go (begins c e.event) (sections-few c es)
  where
    go : (o : Option ℕ) → length (sections_of c es) ≤ length es
        → length (section_before c e es o (sections_of c es)) ≤ suc (length es)
    go None h = omega arith
    go (Some l) h = omega arith

-- 2. Tickets

-- a section's entries have tickets below n
pub record IsBelow (n : ℕ) (s : Section) : Type 0 where
  pub begin : s.begin.ticket < n
  pub end : IfSome s.end (λ (e : Entry). e.ticket < n)

find_in : (P : Entry → Type 0) (q : Entry → Bool) (es : List Entry) → All P es → IfSome (find q es) P
find_in P q [] h = tt
find_in P q (e ∷ es) h = go (q e) (find_in P q es (All-tail P e es h))
  where
    go : (b : Bool) → IfSome (find q es) P → IfSome (cond b (Some e) (find q es)) P
    go true k = All-head P e es h
    go false k = k

pub sections_below : (c : Config) (n : ℕ) (es : List Entry) → All (λ (e : Entry). e.ticket < n) es
    → All (IsBelow n) (sections_of c es)
unfolding sections_of
sections_below c n [] h = All-nil (IsBelow n)
sections_below c n (e ∷ es) h = go (begins c e.event) (sections_below c n es rest)
  where
    P : Entry → Type 0
    P x = x.ticket < n

    rest : All P es
    rest = All-tail P e es h

    go : (o : Option ℕ) → All (IsBelow n) (sections_of c es)
        → All (IsBelow n) (section_before c e es o (sections_of c es))
    go None k = k
    go (Some l) k =
        All-cons (IsBelow n) _ (sections_of c es)
        (record { begin = All-head P e es h; end = find_in P (ends_section c e.thread.0 l) es rest }) k

-- 3. The sections of a lock

-- whether an event begins a section of the lock
abbrev pub is_at : Option ℕ → ℕ → Bool
is_at None l = false
is_at (Some k) l = eqb k l

-- those that an entry ends are of its thread
abbrev pub closed_for : Bool → Entry → Section → Section
closed_for b e s = close (b && eqb e.thread.0 s.begin.thread.0) e s

begun_at : (e : Entry) (o : Option ℕ) (l : ℕ)
    → sections_at l (begun_by e o) ≡ cond (is_at o l) (section_from l e None ∷ []) []
begun_at e None l = refl
begun_at e (Some k) l =
    elim (cases_eq k l) [
      | inl x ↦ ap (λ j. cond (eqb k l) (section_from j e None ∷ []) []) x
      | inr n ↦ ap (λ b. cond b (section_from k e None ∷ []) []) (ne_eqb k l n)
          ∙ sym (ap (λ b. cond b (section_from l e None ∷ []) []) (ne_eqb k l n))
    ]

pub sections_at-push : (c : Config) (es : List Entry) (e : Entry) (l : ℕ)
    → sections_at l (sections_of c (es ++ e ∷ [])) ≡ map (closed_for (ends c e.event l) e)
    (sections_at l (sections_of c es)) ++ cond (is_at (begins c e.event) l) (section_from l e None ∷ []) []
sections_at-push c es e l =
    ap (sections_at l) (sections-push c es e)
    ∙ filter-append at (map (with_entry c e) (sections_of c es)) (begun_by e (begins c e.event))
    ∙ ap (λ ss. ss ++ sections_at l (begun_by e (begins c e.event)))
    (filter-map at (with_entry c e) (sections_of c es) ∙ same)
    ∙ ap (λ ss. map (closed_for (ends c e.event l) e) (sections_at l (sections_of c es)) ++ ss)
    (begun_at e (begins c e.event) l)
  where
    at : Section → Bool
    at s = eqb s.lock l

    same : map (with_entry c e) (sections_at l (sections_of c es))
        ≡ map (closed_for (ends c e.event l) e) (sections_at l (sections_of c es))
    same = map-same (with_entry c e) (closed_for (ends c e.event l) e) (sections_at l (sections_of c es))
        (All-weaker (λ s. at s ≡ true) (λ s. with_entry c e s ≡ closed_for (ends c e.event l) e s)
        (λ s h. ap (λ k. close (ends c e.event k && eqb e.thread.0 s.begin.thread.0) e s) (eqb-true s.lock l h))
        (sections_at l (sections_of c es)) (filter_passes at (sections_of c es)))

-- 4. The sections of a thread

pub sections_by-push : (c : Config) (es : List Entry) (e : Entry) (t : ℕ)
    → sections_by t (sections_of c (es ++ e ∷ [])) ≡ map (with_entry c e) (sections_by t (sections_of c es)) ++ cond
    (eqb e.thread.0 t) (begun_by e (begins c e.event)) []
sections_by-push c es e t =
    ap (sections_by t) (sections-push c es e)
    ∙ filter-append by (map (with_entry c e) (sections_of c es)) (begun_by e (begins c e.event))
    ∙ ap (λ ss. ss ++ sections_by t (begun_by e (begins c e.event))) (filter-map by (with_entry c e) (sections_of c es))
    ∙ ap (λ ss. map (with_entry c e) (sections_by t (sections_of c es)) ++ ss) (go (begins c e.event))
  where
    by : Section → Bool
    by s = eqb s.begin.thread.0 t

    go : (o : Option ℕ) → sections_by t (begun_by e o) ≡ cond (eqb e.thread.0 t) (begun_by e o) []
    go None = elim (eqb e.thread.0 t) as (λ b. sections_by t [] ≡ cond b [] []) [ true ↦ refl | false ↦ refl ]
    go (Some l) = refl

-- 5. Those that are open

-- those of a list that stay open
pub open-close : (hit : ℕ → Entry → Bool) (e : Entry) (ss : List Section)
    → filter is_open (map (λ s. close (hit s.lock s.begin) e s) ss) ≡ filter (λ s. not (hit s.lock s.begin))
    (filter is_open ss)
open-close hit e [] = refl
open-close hit e (s ∷ ss) = go s.lock s.begin s.end (hit s.lock s.begin) refl (open-close hit e ss)
  where
    left : List Section
    left = filter is_open (map (λ x. close (hit x.lock x.begin) e x) ss)

    stay : Section → Bool
    stay x = not (hit x.lock x.begin)

    go : (l : ℕ) (b : Entry) (o : Option Entry) (v : Bool) → hit l b ≡ v → left ≡ filter stay (filter is_open ss)
        → cond (is_open (close (hit l b) e (section_from l b o))) (close (hit l b) e (section_from l b o) ∷ left) left
        ≡ filter stay (cond (is_open (section_from l b o)) (section_from l b o ∷ filter is_open ss) (filter is_open ss))
    go l b (Some x) v z h = h
    go l b None true z h = rw z h
    go l b None false z h = rw z (ap (λ (xs : List Section). section_from l b None ∷ xs) h)
