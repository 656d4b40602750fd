-- What an entry more makes of the locks that a thread holds, and of the pairs of classes.
use Rattle.std.proofs.Common.{◌≡◌, ◌≢◌, ℕ, ◌+◌, ◌*◌, ◌<◌, ◌≤◌, Bool, true, false, not, ◌&&◌, cond, eqb, leb, ltb, Option, Some, None, List, [], ◌∷◌, ◌++◌, length, map, refl, sym, ap, ◌∙◌, arith, add-zero, eq-eqb}
use Rattle.std.specs.Prelude.{IfSome, is_none}
use Rattle.std.specs.Option.{option_or}
use Rattle.std.specs.List.{filter, sum_by, count_by, All}
use Rattle.std.proofs.lemmas.Bool.{lt-ltb, le-ltb, lt-leb, le-leb, ne_eqb, eqb-true, and_right}
use Rattle.std.proofs.lemmas.List.{map-append, length_push, append-nil, length-map}
use Rattle.std.proofs.lemmas.List.Sums.{sum_by-append, sum_by-le, count_by-le-length}
use Rattle.std.proofs.lemmas.List.Elements.{All-weaker, filter-append, filter_passes}
use Rattle.std.proofs.lemmas.Nat.{mul-le}
use Rattle.lock_model.specs.Config.{Config}
use Rattle.lock_model.specs.History.{ends}
use Rattle.lock_model.specs.Plans.{config_of}
use Rattle.lock_model.specs.declared.numbers.LockNo.{LockNo}
use Rattle.lock_model.specs.declared.event.Entry.{Entry}
use Rattle.lock_model.specs.declared.plan.Plan.{Plan}
use Rattle.hold_profile.specs.AtLocks.{at_lock}
use Rattle.hold_profile.specs.Sections.{Section, sections_of, begins, ends_section, ticket_of_end}
use Rattle.hold_profile.specs.Profiles.{is_pair, pairs_of}
use Rattle.hold_profile.specs.Counting.{is_open, lock_seen, sections_by, held_by, held_after, pairs_by}
use Rattle.hold_profile.specs.declared.events.AtLock.{AtLock}
use Rattle.hold_profile.specs.declared.events.AtLock.TheVariants.{Begins, Ends, Leaves, FindsBusy, IsHalted}
use Rattle.hold_profile.proofs.Sums.{sum_by-map, sum_by-same, sum_by-filter, sum_by-none, filter-map, filter-same, filter_all, All-each, All-filtered, length-filter_most}
use Rattle.hold_profile.proofs.OpenLists.{section_from, with_entry, begun_by, sections-push, sections_by-push, sections-few, open-close, IsBelow, sections_below}
use Rattle.hold_profile.proofs.LockSteps.{one_if}
use Rattle.hold_profile.proofs.Saying.{hits, it_ends, says_of, begun_of, begun_in, begins_is}

-- 1. Locks that a thread holds

abbrev locks_of : Option ℕ → List LockNo
locks_of None = []
locks_of (Some l) = record { 0 = l } ∷ []

module _ (c : Config) (es : List Entry) (e : Entry) (t : ℕ) where
  abbrev its : List Section
  its = filter is_open (sections_by t (sections_of c es))

  held_more : held_by c (es ++ e ∷ []) t
      ≡ filter (λ (k : LockNo). not (ends c e.event k.0 && eqb e.thread.0 t)) (held_by c es t) ++ cond
      (eqb e.thread.0 t) (locks_of (begins c e.event)) []
  held_more =
      ap (λ (ss : List Section). map lock_seen (filter is_open ss)) (sections_by-push c es e t)
      ∙ ap (map lock_seen) (filter-append is_open (map (with_entry c e) (sections_by t (sections_of c es))) fresh
      ∙ ap (λ ss. ss ++ filter is_open fresh) (open-close hit e (sections_by t (sections_of c es)) ∙ same))
      ∙ map-append lock_seen (filter (λ s. stays (lock_seen s)) its) (filter is_open fresh)
      ∙ ap (λ ks. ks ++ map lock_seen (filter is_open fresh)) (sym (filter-map stays lock_seen its))
      ∙ ap (λ ks. filter stays (held_by c es t) ++ ks) (go (eqb e.thread.0 t) (begins c e.event))
    where
      fresh : List Section
      fresh = cond (eqb e.thread.0 t) (begun_by e (begins c e.event)) []

      hit : ℕ → Entry → Bool
      hit l x = ends_section c x.thread.0 l e

      stays : LockNo → Bool
      stays k = not (ends c e.event k.0 && eqb e.thread.0 t)

      same : filter (λ s. not (hit s.lock s.begin)) its ≡ filter (λ s. stays (lock_seen s)) its
      same = filter-same (λ s. not (hit s.lock s.begin)) (λ s. stays (lock_seen s)) its
          (All-filtered (λ s. not (hit s.lock s.begin) ≡ stays (lock_seen s)) is_open (sections_by t (sections_of c es))
          (All-weaker (λ s. eqb s.begin.thread.0 t ≡ true) (λ s. not (hit s.lock s.begin) ≡ stays (lock_seen s))
          (λ s h. ap (λ u. not (ends c e.event s.lock && eqb e.thread.0 u)) (eqb-true s.begin.thread.0 t h))
          (sections_by t (sections_of c es))
          (filter_passes (λ (s : Section). eqb s.begin.thread.0 t) (sections_of c es))))

      go : (v : Bool) (o : Option ℕ)
          → map lock_seen (filter is_open (cond v (begun_by e o) [])) ≡ cond v (locks_of o) []
      go true None = refl
      go true (Some l) = refl
      go false o = refl

-- an entry leaves what other threads hold,
pub held_stays : (c : Config) (es : List Entry) (e : Entry) (t : ℕ) → t ≢ e.thread.0
    → held_by c (es ++ e ∷ []) t ≡ held_by c es t
held_stays c es e t n =
    held_more c es e t
    ∙ ap (λ v. filter (λ (k : LockNo). not (ends c e.event k.0 && v)) (held_by c es t) ++ cond v
    (locks_of (begins c e.event)) []) (ne_eqb e.thread.0 t (λ x. n (sym x)))
    ∙ append-nil _
    ∙ filter-same (λ (k : LockNo). not (ends c e.event k.0 && false)) (λ k. true) (held_by c es t)
    (All-each _ (λ k. ap not (and_right (ends c e.event k.0) false refl)) (held_by c es t))
    ∙ filter_all (held_by c es t)

-- and one at which nothing is counted of a lock what all hold
and_true : (v : Bool) → (v && true) ≡ v
and_true true = refl
and_true false = refl

held_own : (c : Config) (es : List Entry) (e : Entry)
    → held_by c (es ++ e ∷ []) e.thread.0 ≡ filter (λ (k : LockNo). not (ends c e.event k.0)) (held_by c es e.thread.0)
    ++ locks_of (begins c e.event)
held_own c es e =
    held_more c es e e.thread.0
    ∙ ap (λ v. filter (λ (k : LockNo). not (ends c e.event k.0 && v)) (held_by c es e.thread.0) ++ cond v
    (locks_of (begins c e.event)) []) (eq-eqb e.thread.0 e.thread.0 refl)
    ∙ ap (λ ks. ks ++ locks_of (begins c e.event))
    (filter-same (λ (k : LockNo). not (ends c e.event k.0 && true)) (λ k. not (ends c e.event k.0))
    (held_by c es e.thread.0) (All-each _ (λ k. ap not (and_true (ends c e.event k.0))) (held_by c es e.thread.0)))

-- a thread's open sections are no more than the entries
pub held_few : (c : Config) (es : List Entry) (t : ℕ) → length (held_by c es t) ≤ length es
held_few c es t =
    omega (
      arith,
      length-map (filter is_open (sections_by t (sections_of c es))) lock_seen,
      length-filter_most is_open
          (sections_by t (sections_of c es)),
      length-filter_most (λ (s : Section). eqb s.begin.thread.0 t)
          (sections_of c es),
      sections-few c es,
    )

module _ (plan : Plan) (es : List Entry) (e : Entry) where
  abbrev c : Config
  c = config_of plan

  ended : (o : Option (LockNo × AtLock)) → at_lock plan e.event ≡ o → (k : ℕ) → ends c e.event k ≡ hits it_ends o k
  ended o is k = (says_of plan e.event k).ended ∙ ap (λ p. hits it_ends p k) is

  begun : (o : Option (LockNo × AtLock)) → at_lock plan e.event ≡ o → begins c e.event ≡ begun_of o
  begun o is = begins_is plan e.event ∙ ap begun_of is

  abbrev own : List LockNo
  own = held_by c es e.thread.0

  -- by what is counted
  by : (o : Option (LockNo × AtLock)) → at_lock plan e.event ≡ o
      → held_by c (es ++ e ∷ []) e.thread.0 ≡ filter (λ (k : LockNo). not (hits it_ends o k.0)) own ++ locks_of
      (begun_of o)
  by o is =
      held_own c es e
      ∙ ap (λ ks. ks ++ locks_of (begins c e.event))
      (filter-same (λ (k : LockNo). not (ends c e.event k.0)) (λ (k : LockNo). not (hits it_ends o k.0)) own
      (All-each _ (λ k. ap not (ended o is k.0)) own))
      ∙ ap (λ b. filter (λ (k : LockNo). not (hits it_ends o k.0)) own ++ locks_of b) (begun o is)

  pub held_unnoted : at_lock plan e.event ≡ None → (t : ℕ) → held_by c (es ++ e ∷ []) t ≡ held_by c es t
  held_unnoted is t =
      held_more c es e t
      ∙ ap (λ b. filter (λ (k : LockNo). not (ends c e.event k.0 && eqb e.thread.0 t)) (held_by c es t) ++ cond
      (eqb e.thread.0 t) (locks_of b) []) (begun None is)
      ∙ ap (λ ks. filter (λ (k : LockNo). not (ends c e.event k.0 && eqb e.thread.0 t)) (held_by c es t) ++ ks)
      (nil (eqb e.thread.0 t))
      ∙ append-nil _
      ∙ filter-same (λ (k : LockNo). not (ends c e.event k.0 && eqb e.thread.0 t)) (λ k. true) (held_by c es t)
      (All-each _ (λ k. ap (λ v. not (v && eqb e.thread.0 t)) (ended None is k.0)) (held_by c es t))
      ∙ filter_all (held_by c es t)
    where
      nil : (v : Bool) → cond v (locks_of None) [] ≡ []
      nil true = refl
      nil false = refl

  pub held_noted : (l : LockNo) (what : AtLock) → at_lock plan e.event ≡ Some (l, what)
      → held_by c (es ++ e ∷ []) e.thread.0 ≡ held_after what l own
  held_noted l Begins is = by (Some (l, Begins)) is ∙ ap (λ ks. ks ++ l ∷ []) (filter_all own)
  held_noted l Ends is = by (Some (l, Ends)) is ∙ append-nil _
  held_noted l Leaves is = by (Some (l, Leaves)) is ∙ append-nil _
  held_noted l FindsBusy is = by (Some (l, FindsBusy)) is ∙ append-nil _ ∙ filter_all own
  held_noted l IsHalted is = by (Some (l, IsHalted)) is ∙ append-nil _ ∙ filter_all own

-- 2. Pairs

none_of_four : (x y z w : Bool) → (x && (y && (z && (false && w)))) ≡ false
none_of_four true true true w = refl
none_of_four true true false w = refl
none_of_four true false z w = refl
none_of_four false y z w = refl

module _ (c : Config) (es : List Entry) (e : Entry) (at_end : e.ticket ≡ length es)
    (before : All (λ (x : Entry). x.ticket < length es) es) (a b : ℕ) where
  abbrev n : ℕ
  n = length es

  abbrev ss : List Section
  ss = sections_of c es

  abbrev next : List Section
  next = map (with_entry c e) ss ++ begun_by e (begins c e.event)

  below : All (IsBelow n) ss
  below = sections_below c n es before

  abbrev one_of : Section → Section → ℕ
  one_of second first = one_if (is_pair c (n + 1) a b second first)

  -- pairs whose second section was there are as many as before
  as_before : (second : Section) → second.begin.ticket < n
      → sum_by (one_of second) next ≡ count_by (is_pair c n a b second) ss
  as_before second h =
      sum_by-append (one_of second) (map (with_entry c e) ss) (begun_by e (begins c e.event))
      ∙ ap (λ m. m + sum_by (one_of second) (begun_by e (begins c e.event)))
      (sum_by-map (one_of second) (with_entry c e) ss
      ∙ sum_by-same (λ s. one_of second (with_entry c e s)) (λ s. one_if (is_pair c n a b second s)) ss
      (All-each (λ s. one_of second (with_entry c e s) ≡ one_if (is_pair c n a b second s)) same ss))
      ∙ ap (λ m. count_by (is_pair c n a b second) ss + m) (none (begins c e.event))
      ∙ add-zero _
    where
      m : ℕ
      m = second.begin.ticket

      later : (o : Option Entry) (hit : Bool)
          → leb m (ticket_of_end (n + 1) (option_or o (cond hit (Some e) None))) ≡ leb m (ticket_of_end n o)
      later (Some x) hit = refl
      later None true = ap (leb m) at_end
      later None false = le-leb m (n + 1) (omega arith) ∙ sym (le-leb m n (omega arith))

      same : (s : Section) → one_of second (with_entry c e s) ≡ one_if (is_pair c n a b second s)
      same s =
          ap (λ v. one_if (eqb (c.class s.lock) a &&
          (eqb (c.class second.lock) b &&
          (eqb s.begin.thread.0 second.begin.thread.0 && (ltb s.begin.ticket m && v)))))
          (later s.end (ends_section c s.begin.thread.0 s.lock e))

      none : (o : Option ℕ) → sum_by (one_of second) (begun_by e o) ≡ 0
      none None = refl
      none (Some l) =
          ap (λ v. 0 + one_if (eqb (c.class l) a &&
          (eqb (c.class second.lock) b && (eqb e.thread.0 second.begin.thread.0 && (v && leb m (n + 1))))))
          (le-ltb e.ticket m (omega arith))
          ∙ ap (λ v. 0 + one_if v)
          (none_of_four (eqb (c.class l) a) (eqb (c.class second.lock) b) (eqb e.thread.0 second.begin.thread.0)
          (leb m (n + 1)))

  -- and a new one has its thread's open sections before it
  abbrev brings : ℕ → ℕ
  brings l = cond (eqb (c.class l) b) (count_by (λ (k : LockNo). eqb (c.class k.0) a) (held_by c es e.thread.0)) 0

  brings_new : (l : ℕ) → begins c e.event ≡ Some l → ((k : ℕ) → ends c e.event k ≡ false)
      → sum_by (one_of (section_from l e None)) next ≡ brings l
  brings_new l is unended =
      sum_by-append one (map (with_entry c e) ss) (begun_by e (begins c e.event))
      ∙ ap (λ m. m + sum_by one (begun_by e (begins c e.event)))
      (sum_by-map one (with_entry c e) ss
      ∙ sum_by-same (λ s. one (with_entry c e s)) opens ss
      (All-weaker (IsBelow n) (λ s. one (with_entry c e s) ≡ opens s) same ss below))
      ∙ ap (λ m. sum_by opens ss + m) (ap (λ o. sum_by one (begun_by e o)) is ∙ itself)
      ∙ add-zero _
      ∙ go (eqb (c.class l) b)
    where
      one : Section → ℕ
      one = one_of (section_from l e None)

      opens : Section → ℕ
      opens s =
          one_if (eqb (c.class s.lock) a && (eqb (c.class l) b && (eqb s.begin.thread.0 e.thread.0 && is_open s)))

      later : (o : Option Entry) → IfSome o (λ (x : Entry). x.ticket < n)
          → leb e.ticket (ticket_of_end (n + 1) (option_or o None)) ≡ is_none o
      later None h = le-leb e.ticket (n + 1) (omega arith)
      later (Some x) h = lt-leb e.ticket x.ticket (omega arith)

      same : (s : Section) → IsBelow n s → one (with_entry c e s) ≡ opens s
      same s h =
          ap (λ v. one_if (eqb (c.class s.lock) a &&
          (eqb (c.class l) b &&
          (eqb s.begin.thread.0 e.thread.0 &&
          (ltb s.begin.ticket e.ticket && leb e.ticket
          (ticket_of_end (n + 1) (option_or s.end (cond (v && eqb e.thread.0 s.begin.thread.0) (Some e) None))))))))
          (unended s.lock)
          ∙ ap (λ v. one_if (eqb (c.class s.lock) a &&
          (eqb (c.class l) b &&
          (eqb s.begin.thread.0 e.thread.0 && (v && leb e.ticket (ticket_of_end (n + 1) (option_or s.end None)))))))
          (lt-ltb s.begin.ticket e.ticket (omega (arith, h.begin)))
          ∙ ap (λ v. one_if (eqb (c.class s.lock) a && (eqb (c.class l) b && (eqb s.begin.thread.0 e.thread.0 && v))))
          (later s.end h.end)

      itself : sum_by one (begun_by e (Some l)) ≡ 0
      itself =
          ap (λ v. 0 + one_if (eqb (c.class l) a &&
          (eqb (c.class l) b && (eqb e.thread.0 e.thread.0 && (v && leb e.ticket (n + 1))))))
          (le-ltb e.ticket e.ticket (omega arith))
          ∙ ap (λ v. 0 + one_if v)
          (none_of_four (eqb (c.class l) a) (eqb (c.class l) b) (eqb e.thread.0 e.thread.0) (leb e.ticket (n + 1)))

      its_class : Section → ℕ
      its_class s = cond (eqb s.begin.thread.0 e.thread.0) (cond (is_open s) (one_if (eqb (c.class s.lock) a)) 0) 0

      counted : count_by (λ (k : LockNo). eqb (c.class k.0) a) (held_by c es e.thread.0) ≡ sum_by its_class ss
      counted =
          sum_by-map (λ (k : LockNo). one_if (eqb (c.class k.0) a)) lock_seen
          (filter is_open (sections_by e.thread.0 ss))
          ∙ sum_by-filter (λ (s : Section). one_if (eqb (c.class s.lock) a)) is_open (sections_by e.thread.0 ss)
          ∙ sum_by-filter (λ (s : Section). cond (is_open s) (one_if (eqb (c.class s.lock) a)) 0)
          (λ (s : Section). eqb s.begin.thread.0 e.thread.0) ss

      where_second : Bool → Section → ℕ
      where_second v s = one_if (eqb (c.class s.lock) a && (v && (eqb s.begin.thread.0 e.thread.0 && is_open s)))

      nothing : Section → ℕ
      nothing s = 0

      all_three : (x y z : Bool) → one_if (x && (true && (y && z))) ≡ cond y (cond z (one_if x) 0) 0
      all_three true true true = refl
      all_three true true false = refl
      all_three true false z = refl
      all_three false true true = refl
      all_three false true false = refl
      all_three false false z = refl

      not_second : (x y : Bool) → one_if (x && (false && y)) ≡ 0
      not_second true y = refl
      not_second false y = refl

      go : (v : Bool)
          → sum_by (where_second v) ss ≡ cond v
          (count_by (λ (k : LockNo). eqb (c.class k.0) a) (held_by c es e.thread.0)) 0
      go true =
          sum_by-same (where_second true) its_class ss
          (All-each (λ s. where_second true s ≡ its_class s)
          (λ s. all_three (eqb (c.class s.lock) a) (eqb s.begin.thread.0 e.thread.0) (is_open s)) ss)
          ∙ sym counted
      go false =
          sum_by-same (where_second false) nothing ss
          (All-each (λ s. where_second false s ≡ nothing s)
          (λ s. not_second (eqb (c.class s.lock) a) (eqb s.begin.thread.0 e.thread.0 && is_open s)) ss)
          ∙ sum_by-none ss

  abbrev gained : Option ℕ → ℕ
  gained None = 0
  gained (Some l) = brings l

  pairs_more : ((l k : ℕ) → begins c e.event ≡ Some l → ends c e.event k ≡ false)
      → pairs_of c (es ++ e ∷ []) a b ≡ pairs_of c es a b + gained (begins c e.event)
  unfolding pairs_of
  pairs_more unended =
      ap (λ m. sum_by (λ second. count_by (is_pair c m a b second) (sections_of c (es ++ e ∷ [])))
      (sections_of c (es ++ e ∷ []))) (length_push es e)
      ∙ ap (λ xs. sum_by (λ second. sum_by (one_of second) xs) xs) (sections-push c es e)
      ∙ sum_by-append pairs_with (map (with_entry c e) ss) (begun_by e (begins c e.event))
      ∙ ap (λ m. m + sum_by pairs_with (begun_by e (begins c e.event)))
      (sum_by-map pairs_with (with_entry c e) ss
      ∙ sum_by-same (λ s. pairs_with (with_entry c e s)) (λ s. count_by (is_pair c n a b s) ss) ss
      (All-weaker (IsBelow n) (λ s. pairs_with (with_entry c e s) ≡ count_by (is_pair c n a b s) ss)
      (λ s h. as_before s h.begin) ss below))
      ∙ ap (λ m. pairs_of c es a b + m) (go (begins c e.event) refl)
    where
      pairs_with : Section → ℕ
      pairs_with second = sum_by (one_of second) next

      go : (o : Option ℕ) → begins c e.event ≡ o → sum_by pairs_with (begun_by e o) ≡ gained o
      go None is = refl
      go (Some l) is = omega (arith, brings_new l is (λ k. unended l k is))

-- there are no more than the square of the entries
pub pairs_few : (c : Config) (es : List Entry) (a b : ℕ) → pairs_of c es a b ≤ length es * length es
unfolding pairs_of
pairs_few c es a b =
    let few = sections-few c es in
    omega (
      arith,
      sum_by-le (λ second. count_by (is_pair c (length es) a b second) (sections_of c es))
          (length (sections_of c es)) (sections_of c es)
          (All-each _ (λ second. count_by-le-length (is_pair c (length es) a b second) (sections_of c es))
          (sections_of c es)),
      mul-le (length (sections_of c es)) (length (sections_of c es)) (length es) (length es) few
          few,
    )

module _ (plan : Plan) (es : List Entry) (e : Entry) (at_end : e.ticket ≡ length es)
    (before : All (λ (x : Entry). x.ticket < length es) es) (a b : ℕ) where
  abbrev c' : Config
  c' = config_of plan

  unended : (l k : ℕ) → begins c' e.event ≡ Some l → ends c' e.event k ≡ false
  unended l k is = go (at_lock plan e.event) refl
    where
      go : (o : Option (LockNo × AtLock)) → at_lock plan e.event ≡ o → ends c' e.event k ≡ false
      go None x = ended plan es e None x k
      go (Some p) x = what p.1 p.0 (ended plan es e (Some p) x k) (sym (begun plan es e (Some p) x) ∙ is)
        where
          what : (w : AtLock) (j : LockNo) → ends c' e.event k ≡ (it_ends w && eqb j.0 k) → begun_in j w ≡ Some l
              → ends c' e.event k ≡ false
          what Begins j h u = h
          what Ends j h u = absurd cc
          what Leaves j h u = absurd cc
          what FindsBusy j h u = h
          what IsHalted j h u = h

  more : (o : Option (LockNo × AtLock)) → at_lock plan e.event ≡ o
      → pairs_of c' (es ++ e ∷ []) a b ≡ pairs_of c' es a b + gained c' es e at_end before a b (begun_of o)
  more o is =
      pairs_more c' es e at_end before a b unended
      ∙ ap (λ v. pairs_of c' es a b + gained c' es e at_end before a b v) (begun plan es e o is)

  pub pairs_unnoted : at_lock plan e.event ≡ None → pairs_of c' (es ++ e ∷ []) a b ≡ pairs_of c' es a b
  pairs_unnoted is = more None is ∙ add-zero _

  pub pairs_noted : (l : LockNo) (what : AtLock) → at_lock plan e.event ≡ Some (l, what)
      → pairs_of c' (es ++ e ∷ []) a b ≡ pairs_of c' es a b + pairs_by plan what l (held_by c' es e.thread.0) a b
  pairs_noted l Begins is = more (Some (l, Begins)) is
  pairs_noted l Ends is = more (Some (l, Ends)) is
  pairs_noted l Leaves is = more (Some (l, Leaves)) is
  pairs_noted l FindsBusy is = more (Some (l, FindsBusy)) is
  pairs_noted l IsHalted is = more (Some (l, IsHalted)) is
