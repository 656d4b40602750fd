-- The course of a run: when it is over, and how it goes on.
use Rattle.step_world.proofs.Names
use Names.{ℕ, suc, Bool, true, false, cond, not, eqb, ltb, List, [], length, map, filter, All, Option, Some, None}
use Names.{IfNone, IfSome, refl, sym, ap, ap₂, subst, inl, inr, arith, append-nil, and_parts, and_right, or_parts}
use Names.{lt-ltb, le-ltb, ltb-true, cases_eq, cases_lt, ne_eqb, list_all, range_with_len, is_none, All-head, All-tail}
use Names.{All-nil, All-weaker, list_all_at, length-range_with_len, get_or-range_with_len, has_bit, is_empty, IsProper}
use Names.{config_of, first_turn, start_run, start_course, Run, turn_of, is_stuck, is_over, is_idle, go_on}
use Names.{course_after, all_ended, has_ended, threads_of, round_of, with_turn, after_turn, Plan, ThreadNo, Turn, Idle}
use Names.{IsOnTrack, IsSleeping, idle_exactly, changes_nothing, one_more, Course, IsCourse, IsSound, is_going}
use Names.{turn_seen, members, Passes, World, Represents, ThreadSet}
use Rattle.std.proofs.Common.{◌≡◌, ◌⊎◌, ◌+◌, ◌-◌, ◌<◌, ◌≤◌, ◌&&◌, ◌||◌, ◌∷◌, ◌++◌, ◌∙◌}
use Rattle.std.proofs.lemmas.Bool.{eq-eqb}
use Rattle.lock_state.specs.Run as run
use Rattle.step_world.proofs.Sets.{keep_alike, keeps_none, apart, no_members, All-members, All-behind}

-- 1. Who has ended

-- one that hasn't ended settles it
pub one_runs : (plan : Plan) (r : Run) (t : ℕ) → t < length plan.threads → has_ended plan r t ≡ false
    → all_ended plan r ≡ false
one_runs plan r t l e =
    let n = length plan.threads in
    list_all_at (has_ended plan r) (threads_of plan) t 0 (omega (arith, l, length-range_with_len 0 n))
    (ap (has_ended plan r) (get_or-range_with_len 0 n t 0 l ∙ omega arith) ∙ e)

-- all have ended exactly where a round would have nobody
none_left : (p : ℕ → Bool) (ts : List ℕ) → is_empty (filter (λ t. not (p t)) ts) ≡ list_all p ts
none_left p [] = refl
none_left p (t ∷ ts) =
    elim (p t) as (λ b. is_empty (cond (not b) (t ∷ filter (λ u. not (p u)) ts) (filter (λ u. not (p u)) ts)) ≡
    (b && list_all p ts)) [
      | true ↦ none_left p ts
      | false ↦ refl
    ]

pub round_of_none : (plan : Plan) (r : Run) → is_empty (round_of plan r) ≡ all_ended plan r
round_of_none plan r = none_left (has_ended plan r) (threads_of plan)

-- 2. Rounds

-- a set that has who hasn't ended has a round's threads
pub round_is : (plan : Plan) (r : Run) (bits : ℕ) → length plan.threads ≤ 32
    → ((t : ℕ) → has_bit t bits ≡ is_going plan r t) → members bits ≡ round_of plan r
unfolding members
round_is plan r bits few same =
    let n = length plan.threads in
    let rest : ℕ = 32 - n in
    let p : ℕ → Bool = is_going plan r in
    let q : ℕ → Bool = λ t. not (has_ended plan r t) in
    keep_alike (λ t. has_bit t bits) p 0 32 (λ t i l. same t)
    ∙ apart p n rest 32 (let e : n + rest ≡ 32 = omega (arith, few) in e)
    ∙ ap₂ (λ (xs ys : List ℕ). xs ++ ys)
    (keep_alike p q 0 n (λ t i l. ap (λ (b : Bool). b && q t) (lt-ltb t n (omega (arith, l)))))
    (keeps_none p n rest (λ t i l. ap (λ (b : Bool). b && q t) (le-ltb t n i)))
    ∙ append-nil (filter q (range_with_len 0 n))

as_before : (t u : ℕ) → (t ≡ u → ⊥) → ltb u t ≡ ltb u (t + 1)
as_before t u ne = grind arith

-- one more thread is in the set of those who haven't ended, or not
pub goes_more : (ended : ℕ → Bool) (t u : ℕ) → ended t ≡ false
    → (eqb t u || (ltb u t && not (ended u))) ≡ (ltb u (t + 1) && not (ended u))
goes_more ended t u runs = grind arith

pub goes_no_more : (ended : ℕ → Bool) (t u : ℕ) → ended t ≡ true
    → (ltb u t && not (ended u)) ≡ (ltb u (t + 1) && not (ended u))
goes_no_more ended t u over = grind arith

-- 3. Who still comes

-- a round is stuck where nobody comes any more
pub stuck_as : {course : Course} {k : run.Course} (idle : Bool) → IsCourse course k → course.idle ≡ idle
    → (idle && is_empty course.coming) ≡ is_stuck k
stuck_as {course} {k} idle h e =
    turned idle (is_empty course.coming)
    ∙ ap₂ (λ (ts : List ℕ) (b : Bool). is_empty ts && b) (sym h.coming) (sym e ∙ sym h.idle)
  where
    turned : (a b : Bool) → (a && b) ≡ (b && a)
    turned true true = refl
    turned true false = refl
    turned false true = refl
    turned false false = refl

module _ {world : World} {schedule : List ThreadNo} {round going asleep : ℕ}
    (h : IsSound world schedule round going asleep) where
  -- those who haven't ended are a round's threads
  pub members_are : (r : Run) → Represents world r → members going ≡ round_of world.plan r
  members_are r shows = round_is world.plan r going h.proper.threads (λ t. h.going_are r t shows)

  -- so a round may begin
  pub sound_round : IsSound world [] going going asleep
  sound_round = record {
    proper = h.proper;
    run = h.run;
    going_are = h.going_are;
    sleep = h.sleep;
    scheduled = All-nil (λ (t : ThreadNo). t.0 < length world.plan.threads);
    threads = All-members (λ t. t < length world.plan.threads) going (λ t e.
        let there : is_going world.plan h.run.0 t ≡ true = sym (h.going_are h.run.0 t h.run.1) ∙ e in
        ltb-true t (length world.plan.threads)
        (and_parts (ltb t (length world.plan.threads)) (not (has_ended world.plan h.run.0 t)) there).0);
    in_turn = inr refl;
  }

  -- the first of the schedule doesn't come any more,
  pub sound_rest : {t : ThreadNo} {rest : List ThreadNo} → schedule ≡ t ∷ rest → IsSound world rest round going asleep
  sound_rest {t} {rest} e = record {
    proper = h.proper;
    run = h.run;
    going_are = h.going_are;
    sleep = h.sleep;
    scheduled = All-tail (λ (u : ThreadNo). u.0 < length world.plan.threads) t rest
        (subst (All (λ (u : ThreadNo). u.0 < length world.plan.threads)) e h.scheduled);
    threads = h.threads;
    in_turn = elim h.in_turn [ inl i ↦ inl i | inr i ↦ absurd (let z = sym i ∙ e in cc) ];
  }

  -- or some of the first of a round
  pub sound_left : (front : List ℕ) (new : ℕ) → members round ≡ front ++ members new
      → IsSound world schedule new going asleep
  sound_left front new e = record {
    proper = h.proper;
    run = h.run;
    going_are = h.going_are;
    sleep = h.sleep;
    scheduled = h.scheduled;
    threads = All-behind (λ t. t < length world.plan.threads) front (members new)
        (subst (All (λ t. t < length world.plan.threads)) e h.threads);
    in_turn = elim h.in_turn [ inl i ↦ inl (none_behind front (members new) (sym e ∙ i)) | inr i ↦ inr i ];
  }
    where
      none_behind : (xs ys : List ℕ) → xs ++ ys ≡ [] → ys ≡ []
      none_behind [] ys i = i
      none_behind (x ∷ xs) ys i = absurd cc

pub sound_taken : {world : World} {schedule : List ThreadNo} {old new : ThreadSet} {going asleep : ℕ}
    (o : Option ThreadNo) → IsSound world schedule old.bits going asleep
    → IfNone o ((members old.bits ≡ []) × (new ≡ old)) → IfSome o (λ t. members old.bits ≡ t.0 ∷ members new.bits)
    → IsSound world schedule new.bits going asleep
sound_taken {world} {schedule} {going = going} {asleep = asleep} None h none some =
    subst (λ (x : ThreadSet). IsSound world schedule x.bits going asleep) (sym none.1) h
sound_taken {new = new} (Some t) h none some = sound_left h (t.0 ∷ []) new.bits some

pub sound_passed : {world : World} {schedule : List ThreadNo} {old new going asleep number : ℕ}
    → IsSound world schedule old going asleep → Passes asleep old new number
    → IsSound world schedule new going asleep
sound_passed {new = new} h p = sound_left h p.front new p.are

-- the begin of a course
module _ {world : World} {schedule : List ThreadNo} (plan : Plan) (round : ℕ) where
  pub sound_start : {going asleep : ℕ} → IsProper plan → world.plan ≡ plan
      → Represents world (start_run (config_of plan)) → schedule ≡ plan.schedule
      → ((t : ℕ) → has_bit t round ≡ false) → ((t : ℕ) → has_bit t asleep ≡ false)
      → ((r : Run) (t : ℕ) → Represents world r → has_bit t going ≡ is_going world.plan r t)
      → IsSound world schedule round going asleep
  sound_start proper same begins scheduled nobody awake going_are = record {
    proper = subst IsProper (sym same) proper;
    run = (start_run (config_of plan), begins);
    going_are = going_are;
    sleep = λ t e. absurd (let z = sym e ∙ awake t in cc);
    scheduled = subst (λ (ts : List ThreadNo). All (λ t. t.0 < length world.plan.threads) ts) (sym scheduled)
        (subst (λ (p : Plan). All (λ t. t.0 < length p.threads) plan.schedule) (sym same) proper.schedule);
    threads = All-members (λ t. t < length world.plan.threads) round (λ t e. absurd (let z = sym e ∙ nobody t in cc));
    in_turn = inl (no_members round nobody);
  }

  pub course_start : Represents world (start_run (config_of plan)) → schedule ≡ plan.schedule
      → ((t : ℕ) → has_bit t round ≡ false)
      → IsCourse (record { world = world; coming = map (λ t. t.0) schedule ++ members round; idle = false })
      (start_course plan)
  course_start begins scheduled nobody = record {
    shows = begins;
    coming = sym (ap₂ (λ (s : List ThreadNo) (ts : List ℕ). map (λ t. t.0) s ++ ts) scheduled (no_members round nobody)
        ∙ append-nil (map (λ (t : ThreadNo). t.0) plan.schedule));
    idle = refl;
  }

-- 4. Turns

-- nobody comes any more
pub none_comes : (ts : List ℕ) → is_empty ts ≡ true → ts ≡ []
none_comes f e = grind arith

-- then the first of a round has its turn,
pub round_begins : (plan : Plan) (k : run.Course) → k.coming ≡ []
    → with_turn plan k.run (round_of plan k.run) true ≡ after_turn plan k k.coming
round_begins plan k e = ap (after_turn plan k) (sym e)

-- where not all have ended, somebody comes
pub somebody_comes : (plan : Plan) (k : run.Course) → is_over plan k ≡ false
    → is_empty (k.coming ++ round_of plan k.run) ≡ false
somebody_comes plan k e = go k.coming (round_of_none plan k.run ∙ (or_parts (all_ended plan k.run) (is_stuck k) e).0)
  where
    go : (ts : List ℕ) → is_empty (round_of plan k.run) ≡ false → is_empty (ts ++ round_of plan k.run) ≡ false
    go [] i = i
    go (t ∷ ts) i = refl

-- 5. The next turn

-- the course from which the next turn is made: this one, or that of a new round
pub record IsReady (plan : Plan) (course : Course) (k : run.Course) : Type 0 where
  pub from : run.Course
  pub is_course : IsCourse course from
  pub makes : with_turn course.world.plan from.run from.coming from.idle ≡ after_turn plan k k.coming
  pub first : first_turn course.world.plan from.run from.coming
      ≡ first_turn plan k.run (k.coming ++ round_of plan k.run)
  pub some : is_empty from.coming ≡ false

module _ (plan : Plan) (course : Course) (k : run.Course) (same : course.world.plan ≡ plan) where
  -- where nobody comes any more, a round begins
  pub round_ready : IsCourse course (record k { coming = round_of plan k.run; idle = true }) → k.coming ≡ []
      → is_over plan k ≡ false → IsReady plan course k
  round_ready h none going = record {
    from = record k { coming = round_of plan k.run; idle = true };
    is_course = h;
    makes = ap (λ (p : Plan). with_turn p k.run (round_of plan k.run) true) same ∙ round_begins plan k none;
    first = ap (λ (p : Plan). first_turn p k.run (round_of plan k.run)) same
        ∙ ap (λ (ts : List ℕ). first_turn plan k.run (ts ++ round_of plan k.run)) (sym none);
    some = rw none at (somebody_comes plan k going);
  }

  pub still_ready : IsCourse course k → is_empty k.coming ≡ false → IsReady plan course k
  still_ready h some = grind arith

-- somebody who comes has a turn
pub one_made : (plan : Plan) (r : Run) (ts : List ℕ) (made : Option (ThreadNo × Turn)) → is_empty ts ≡ false
    → turn_seen made ≡ first_turn plan r ts → is_none made ≡ false
one_made plan r f made some e = grind arith

-- 6. Turns of those who sleep

and_true : (b : Bool) → (b && true) ≡ b
and_true true = refl
and_true false = refl

module _ (plan : Plan) (proper : IsProper plan) where
  -- such a turn changes nothing but who comes
  idles : (k : run.Course) (t : ℕ) (ts : List ℕ) → IsOnTrack plan k.run → k.coming ≡ t ∷ ts → t < length plan.threads
      → IsSleeping plan k.run t → go_on plan k ≡ record k { coming = ts }
  idles k t ts track comes lt asleep =
      let answer : (turn_of plan k.run t).answer ≡ Idle = (idle_exactly plan k.run t proper track).1 asleep in
      let on : is_over plan k ≡ false =
      ap₂ (λ (a b : Bool). a || b) (one_runs plan k.run t lt asleep.going)
      (ap (λ (xs : List ℕ). is_empty xs && k.idle) comes) in
      ap (λ (b : Bool). cond b k (after_turn plan k k.coming)) on ∙ ap (after_turn plan k) comes
      ∙ ap₂ (λ (r : Run) (i : Bool). record { run = r; coming = ts; idle = i })
      (changes_nothing plan k.run t (inl answer)) (ap (λ (a : Turn). k.idle && is_idle a) answer ∙ and_true k.idle)

  -- so the turns of as many that stand in front leave those behind
  pub passed : (front rest : List ℕ) (n : ℕ) (k : run.Course) → course_after plan n ≡ k → IsOnTrack plan k.run
      → k.coming ≡ front ++ rest → All (λ t. (t < length plan.threads) × IsSleeping plan k.run t) front
      → course_after plan (n + length front) ≡ record k { coming = rest }
  passed [] rest n k e track comes each = ap (course_after plan) (let z : n + 0 ≡ n = omega arith in z) ∙ e
      ∙ ap (λ (ts : List ℕ). record k { coming = ts }) comes
  passed (t ∷ front) rest n k e track comes each =
      let P : ℕ → Type 0 = λ u. (u < length plan.threads) × IsSleeping plan k.run u in
      let first : P t = All-head P t front each in
      let one = one_more plan n ∙ ap (go_on plan) e ∙ idles k t (front ++ rest) track comes first.0 first.1 in
      ap (course_after plan) (let z : n + suc (length front) ≡ n + 1 + length front = omega arith in z)
      ∙ passed front rest (n + 1) (record k { coming = front ++ rest }) one track refl (All-tail P t front each)

-- Those who stand in front of a round come before the others: nobody of a schedule does then.
front_first : (scheduled old front new : List ℕ) → old ≡ front ++ new → (old ≡ []) ⊎ (scheduled ≡ [])
    → scheduled ++ old ≡ front ++ (scheduled ++ new)
front_first scheduled old front new e (inr none) =
    subst (λ (ts : List ℕ). ts ++ old ≡ front ++ (ts ++ new)) (sym none) e
front_first scheduled old [] new e (inl none) = ap (λ (ts : List ℕ). scheduled ++ ts) e
front_first scheduled old (t ∷ front) new e (inl none) = absurd (let z = sym none ∙ e in cc)

no_schedule : (schedule : List ThreadNo) → schedule ≡ [] → map {B = ℕ} (λ t. t.0) schedule ≡ []
no_schedule schedule e = ap (map (λ (t : ThreadNo). t.0)) e

-- so many at the front of a round who sleep have had their turns
pub course_passed : {world : World} {schedule : List ThreadNo} {old new going asleep number : ℕ}
    → IsSound world schedule old going asleep → Passes asleep old new number
    → (idle : Bool) (n : ℕ)
    → IsCourse (record { world = world; coming = map (λ t. t.0) schedule ++ members old; idle = idle })
    (course_after world.plan n)
    → IsCourse (record { world = world; coming = map (λ t. t.0) schedule ++ members new; idle = idle })
    (course_after world.plan (n + number))
course_passed {world} {schedule} {old} {new} {going} {asleep} {number} h p idle n shows =
    let k : run.Course = course_after world.plan n in
    let scheduled : List ℕ = map (λ (t : ThreadNo). t.0) schedule in
    let in_turn : (members old ≡ []) ⊎ (scheduled ≡ []) =
    elim h.in_turn [ inl i ↦ inl i | inr i ↦ inr (no_schedule schedule i) ] in
    let comes = shows.coming ∙ front_first scheduled (members old) p.front (members new) p.are in_turn in
    let each : All (λ t. (t < length world.plan.threads) × IsSleeping world.plan k.run t) p.front =
    All-weaker (λ t. has_bit t asleep ≡ true) (λ t. (t < length world.plan.threads) × IsSleeping world.plan k.run t)
    (λ t e. let it = h.sleep t e in (it.thread, it.sleeping k.run shows.shows)) p.front p.each in
    let behind = passed world.plan h.proper p.front (scheduled ++ members new) n k refl shows.shows.on_track comes each
    in
    let same : n + length p.front ≡ n + number = ap (λ (i : ℕ). n + i) p.number_is in
    subst (IsCourse (record { world = world; coming = scheduled ++ members new; idle = idle }))
    (sym behind ∙ ap (course_after world.plan) same)
    (assumption shows)
