-- The rule when the keeper takes a pass in, and what it tells the keeper then.
use Rattle.lock_floor.proofs.Names
use Names.{ℕ, zero, suc, Bool, true, false, List, [], length, set, refl, sym, ap, subst, inl, inr, arith, length-set}
use Names.{length-append, get_or-set_same, get_or-set_other, cases_eq, ltb-true, ltb-false, set-get_or, All-push}
use Names.{list_any-append, nat_lt, slice_index, All, list_any, Me, Joins, Allows, keeps, stepped, State, Step}
use Names.{Description, Slot, IsSeen, IsSeenBy, AreSeen, spot, ticket_line, slots_for, latch_word, home_at, Share}
use Names.{Shelves, OfThread, Runs, OfNobody, Knowledge, nothing, Board, keeper_in, thread_in, spare, live, one_thread}
use Names.{IsSeatOf, IsTakenIn, IsPosed, RepresentsSeats, Represents, FloorHolds, inside, at_or, total_set}
use Names.{seen_further, longer, with_pass_taken}
use Rattle.std.proofs.Common.{◌≡◌, ◌≢◌, ◌<◌, ◌≤◌, ◌∷◌, ◌++◌, ◌∙◌}
use Rattle.std.proofs.lemmas.Bool.{eq-eqb}
use Rattle.std.specs.Prelude.{◌==◌, ◌||◌, if◌then◌else◌}
use mathlib.Core.Option.{some, some-injective}
use lib.ListN.{get_elem?}

-- 1. A pass fewer

module _ (floor : Description) (b : Board) (s : State) (r : Represents floor b s) (v w : Knowledge) (t : ℕ)
    (at : get_elem? b.views 0 ≡ some v) (there : get_elem? (set b.views 0 (with_pass_taken v w)) (suc t) ≡ some w)
    (was : w.role ≡ OfThread) (rest : w.out ≡ []) (runs : w.pose ≡ Runs) where
  abbrev vs : List Knowledge
  vs = b.views

  abbrev both : Knowledge
  both = with_pass_taken v w

  abbrev between : List Knowledge
  between = set vs 0 both

  abbrev new : List Knowledge
  new = set between (suc t) nothing

  old_keeper : keeper_in vs ≡ v
  old_keeper = at_or vs 0 v nothing at

  new_keeper : keeper_in new ≡ both
  new_keeper = get_or-set_other between (suc t) 0 nothing nothing (λ e. omega (arith, e))
      ∙ get_or-set_same vs 0 both nothing (inside vs 0 v at)

  old_thread : thread_in vs t ≡ w
  old_thread = sym (get_or-set_other vs 0 (suc t) both nothing (λ e. omega (arith, e)))
      ∙ at_or between (suc t) w nothing there

  new_thread : thread_in new t ≡ nothing
  new_thread = get_or-set_same between (suc t) nothing nothing (inside between (suc t) w there)

  others_stay : (u : ℕ) → u ≢ t → thread_in new u ≡ thread_in vs u
  others_stay u ne = get_or-set_other between (suc t) (suc u) nothing nothing (λ e. ne (omega (arith, e)))
      ∙ get_or-set_other vs 0 (suc u) both nothing (λ e. omega (arith, e))

  same_made : (keeper_in new).made ≡ (keeper_in vs).made
  same_made = ap (λ (k : Knowledge). k.made) new_keeper ∙ sym (ap (λ (k : Knowledge). k.made) old_keeper)

  more : (keeper_in new).gathered ≡ (keeper_in vs).gathered ++ (w.thread, w.share) ∷ []
  more = ap (λ (k : Knowledge). k.gathered) new_keeper
      ∙ ap (λ (k : Knowledge). k.gathered ++ (w.thread, w.share) ∷ []) (sym old_keeper)

  -- what nobody's seat has too, the seat of the pass had
  field_stays : {B : Type 0} (f : Knowledge → B) → f nothing ≡ f w → (u : ℕ) → f (thread_in new u) ≡ f (thread_in vs u)
  field_stays f same u =
      elim (cases_eq u t) [
        | inl e ↦ ap (λ j. f (thread_in new j)) e ∙ ap f new_thread ∙ same ∙ ap f (sym old_thread)
            ∙ ap (λ j. f (thread_in vs j)) (sym e)
        | inr ne ↦ ap f (others_stay u ne)
      ]

  its : IsSeatOf w s t
  its = subst (λ (k : Knowledge). IsSeatOf k s t) old_thread
      (r.seats.thread t (ap (λ (k : Knowledge). k.role) old_thread ∙ was))

  low : t < (keeper_in vs).made
  low = let p = inside between (suc t) w there in omega (arith, p, length-set vs 0 both, r.seats.made)

  gone : (u : ℕ) → u ≡ t → (thread_in new u).role ≢ OfThread
  gone u q e = absurd (let z : OfNobody ≡ OfThread = sym
      (ap (λ j. (thread_in new j).role) q ∙ ap (λ (k : Knowledge). k.role) new_thread) ∙ e in cc)

  -- so a seat that is a thread's now was it before
  was_thread : (u : ℕ) → (thread_in new u).role ≡ OfThread → (u ≢ t) × ((thread_in vs u).role ≡ OfThread)
  was_thread u e =
      let ne : u ≢ t = λ q. gone u q e in
      (ne, ap (λ (k : Knowledge). k.role) (sym (others_stay u ne)) ∙ e)

  taken_stays : (u : ℕ) (x : Share) → IsTakenIn vs s u x → IsTakenIn new s u x
  taken_stays u x h = record {
    made = subst (λ n. u < n) (sym same_made) h.made;
    gone = λ e. h.gone (was_thread u e).1;
    share = h.share;
  }

  taken_now : IsTakenIn new s w.thread w.share
  taken_now = subst (λ u. IsTakenIn new s u w.share) (sym its.thread) record {
    made = subst (λ n. t < n) (sym same_made) low;
    gone = gone t refl;
    share = its.share;
  }

  all_taken : All (λ g. IsTakenIn new s g.0 g.1) ((keeper_in vs).gathered ++ (w.thread, w.share) ∷ [])
  all_taken = All-push (λ (g : ℕ × Share). IsTakenIn new s g.0 g.1) (keeper_in vs).gathered (w.thread, w.share)
      (λ i d h. taken_stays _ _ (r.seats.taken_in i d h)) taken_now

  named : (u : ℕ) → u < (keeper_in new).made → (thread_in new u).role ≢ OfThread
      → list_any (λ g. g.0 == u) ((keeper_in vs).gathered ++ (w.thread, w.share) ∷ []) ≡ true
  named u h none =
      let parts = list_any-append (λ (g : ℕ × Share). g.0 == u) (keeper_in vs).gathered ((w.thread, w.share) ∷ []) in
      elim (cases_eq u t) [
        | inl e ↦ parts ∙ ap (λ x. list_any (λ (g : ℕ × Share). g.0 == u) (keeper_in vs).gathered || (x || false))
            (eq-eqb w.thread u (its.thread ∙ sym e))
            ∙ or_true (list_any (λ (g : ℕ × Share). g.0 == u) (keeper_in vs).gathered)
        | inr ne ↦ parts ∙ ap (λ x. x || ((w.thread == u) || false))
            (r.seats.each u (subst (λ n. u < n) same_made h)
            (λ e. none (ap (λ (k : Knowledge). k.role) (others_stay u ne) ∙ e)))
      ]
    where
      or_true : (x : Bool) → (x || true) ≡ true
      or_true true = refl
      or_true false = refl

  seats_joined : RepresentsSeats floor new s
  seats_joined = record {
    keeper = ap (λ (k : Knowledge). k.role) new_keeper ∙ sym (ap (λ (k : Knowledge). k.role) old_keeper)
        ∙ r.seats.keeper;
    made = length-set between (suc t) nothing ∙ length-set vs 0 both ∙ r.seats.made ∙ ap suc (sym same_made);
    few = subst (λ n. n ≤ length floor.threads) (sym same_made) r.seats.few;
    thread = λ u e. let p = was_thread u e in
        subst (λ (k : Knowledge). IsSeatOf k s u) (sym (others_stay u p.0)) (r.seats.thread u p.1);
    unmade = λ u past. r.seats.unmade u (subst (λ n. n ≤ u) same_made past);
    taken_in = subst (All (λ g. IsTakenIn new s g.0 g.1)) (sym more) all_taken;
    each = λ u h none. subst (λ gs. list_any (λ g. g.0 == u) gs ≡ true) (sym more) (named u h none);
    none_out = λ u none. elim (cases_eq u t) [
      | inl e ↦ ap (λ j. (thread_in new j).out) e ∙ ap (λ (k : Knowledge). k.out) new_thread
      | inr ne ↦ ap (λ (k : Knowledge). k.out) (others_stay u ne)
          ∙ r.seats.none_out u (λ e. none (ap (λ (k : Knowledge). k.role) (others_stay u ne) ∙ e))
    ];
    counted =
        let first = total_set live vs 0 v both at in
        let second = total_set live between (suc t) w nothing there in
        let one : live w ≡ 1 = ap one_thread was in
        let n = ap length more ∙ length-append (keeper_in vs).gathered ((w.thread, w.share) ∷ []) in
        omega (arith, first, second, one, n, same_made, r.seats.counted);
    poses = λ u. subst (λ p. IsPosed p (s.wait u) (s.blocked_on u))
        (sym (field_stays (λ (k : Knowledge). k.pose) (sym runs) u)) (r.seats.poses u);
    runs = λ u none. elim (cases_eq u t) [
      | inl e ↦ ap (λ j. (thread_in new j).pose) e ∙ ap (λ (k : Knowledge). k.pose) new_thread
      | inr ne ↦ ap (λ (k : Knowledge). k.pose) (others_stay u ne)
          ∙ r.seats.runs u (λ e. none (ap (λ (k : Knowledge). k.role) (others_stay u ne) ∙ e))
    ];
  }

  represents_joined : Represents floor (record { words = b.words; homes = b.homes; views = new }) s
  represents_joined = record {
    sizes = assumption r.sizes;
    words = r.words;
    room =
        let first = total_set spare vs 0 v both at in
        let second = total_set spare between (suc t) w nothing there in
        omega (arith, first, second, r.room);
    latches = r.latches;
    content = r.content;
    shelves = subst (λ o. Shelves (slots_for floor) (latch_word b.words) (home_at b.homes) o r.content)
        (λ i u. sym (field_stays (λ (k : Knowledge). k.out) (sym rest) u) i) r.shelves;
    objects = r.objects;
    seats = seats_joined;
  }

  -- what the two have seen is of the one list, and so is the longer
  the_longer : (xs ys past : List Step) → IsSeen xs past → IsSeen ys past → IsSeen (longer xs ys) past
  the_longer xs ys past h k = grind arith

  no_longer : (xs ys : List Step) → (length xs ≤ length (longer xs ys)) × (length ys ≤ length (longer xs ys))
  no_longer xs ys = grind arith

  seen_joined : (past : List Step) → AreSeen vs past → AreSeen new past
  seen_joined past h =
      let its_seen : IsSeenBy t w.seen past =
      subst (λ (k : Knowledge). IsSeenBy t k.seen past) old_thread
      (h.thread t (ap (λ (k : Knowledge). k.role) old_thread ∙ was)) in
      let first : IsSeen v.seen past = subst (λ (k : Knowledge). IsSeen k.seen past) old_keeper h.keeper in
      let all : IsSeen (longer v.seen w.seen) past =
      the_longer v.seen w.seen past first record { later = its_seen.later; is = its_seen.is } in
      let most = no_longer v.seen w.seen in
      let its_all : IsSeenBy t (longer v.seen w.seen) past =
      seen_further t w.seen (longer v.seen w.seen) past most.1 its_seen all in
      record {
        keeper = subst (λ (k : Knowledge). IsSeen k.seen past) (sym new_keeper) all;
        taken_in = λ u made none. subst (λ (k : Knowledge). IsSeenBy u k.seen past) (sym new_keeper)
            (elim (cases_eq u t) [
              | inl e ↦ subst (λ j. IsSeenBy j (longer v.seen w.seen) past) (sym e) its_all
              | inr ne ↦ seen_further u v.seen (longer v.seen w.seen) past most.0
                  (subst (λ (k : Knowledge). IsSeenBy u k.seen past) old_keeper
                  (h.taken_in u (subst (λ n. u < n) same_made made)
                  (λ e. none (ap (λ (k : Knowledge). k.role) (others_stay u ne) ∙ e)))) all
            ]);
        thread = λ u e. let p = was_thread u e in
            subst (λ (k : Knowledge). IsSeenBy u k.seen past) (sym (others_stay u p.0)) (h.thread u p.1);
        unmade = λ u after. h.unmade u (subst (λ n. n ≤ u) same_made after);
      }

pub joins : (floor : Description) (v : Knowledge) (i : ℕ) (w : Knowledge) → w.role ≡ OfThread → w.out ≡ []
    → w.pose ≡ Runs → Joins (FloorHolds floor) 0 v i w (with_pass_taken v w) nothing
joins floor v zero w was rest runs b holds at apart there = absurd (apart refl)
joins floor v (suc t) w was rest runs b holds at apart there = record {
  past = holds.past;
  state = holds.state;
  sound = holds.sound;
  represents = represents_joined floor b holds.state holds.represents v w t at there was rest runs;
  seen = seen_joined floor b holds.state holds.represents v w t at there was rest runs holds.past holds.seen;
}

-- 2. No more passes are taken in than the floor has threads

-- a step that changes no word and no view changes nothing
view_again : {A : Type 0} (xs : List A) (i : ℕ) (x : A) → get_elem? xs i ≡ some x → set xs i x ≡ xs
view_again [] i x e = refl
view_again (y ∷ ys) zero x e = ap (λ z. z ∷ ys) (sym (some-injective y x e))
view_again (y ∷ ys) (suc i) x e = ap (λ zs. y ∷ zs) (view_again ys i x e)

nothing_stepped : (b : Board) (i id : ℕ) (cs : List (ℕ × Slot)) (v : Knowledge) → get_elem? b.views id ≡ some v
    → stepped b i (slice_index b.words i) id cs v keeps ≡ b
nothing_stepped b i id cs v at =
    λ k. record { words = set-get_or b.words i 0 k; homes = b.homes; views = view_again b.views id v at k }

-- what a read tells
abbrev pub Asked : Description → Me Slot Knowledge → ℕ → Me Slot Knowledge → Type 0
Asked floor me found behind = (behind ≡ me) × (length me.0.gathered ≤ length floor.threads)

pub ask_allowed : (floor : Description) (slots : ℕ) (me : Me Slot Knowledge)
    → Allows (FloorHolds floor) slots 0 me (spot ticket_line) (λ n. n) (Asked floor me)
ask_allowed floor slots me b holds deep at small = (
  me.0,
  keeps,
  tt,
  subst (FloorHolds floor) (sym (nothing_stepped b (spot ticket_line) 0 me.1 me.0 at)) holds,
  (
    refl,
    let seats = holds.represents.seats in
        let n = ap (λ (k : Knowledge). length k.gathered) (at_or b.views 0 me.0 nothing at) in
        omega (arith, n, seats.counted, seats.few),
  ),
)
