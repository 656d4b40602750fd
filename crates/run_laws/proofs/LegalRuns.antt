-- Each run of a proper plan has a legal history, and a whole one where all threads have ended.
use Rattle.run_laws.proofs.Names
use Names.{ℕ, zero, suc, Bool, true, false, List, [], length, map, reverse, slice_get, All, Option, Some, None, refl}
use Names.{sym, ap, inl, inr, eq-eqb, arith, subst, unwrap_or, list_all, range_with_len, cases_eq, cases_lt, and_parts}
use Names.{or_cases, leb-true, true≢false, reverse-reverse, length-map, slice_get_past, Hold, NotHeld, Holds, is_unheld}
use Names.{IsProper, hold_in, config_of, operations_of, IsAtEnd, EntriesFollowOperations, IsLegal, Plan, ThreadDecl}
use Names.{Held, OnlyThreadsHold, OnlyLocksAreHeld, Run, Course, was_cut, waits_on, has_ended, owes, holds_none}
use Names.{all_ended, after_turns, course_after, ending_of, is_cut_short, HasLegalHistory, scheduled_run, held_now}
use Names.{IsOnTrack, point_by, point_in, nobody, legal_so_far, true-any_below, orders_legal}
use Rattle.std.proofs.Common.{◌≡◌, ◌+◌, ◌<◌, ◌≤◌, ◌∷◌, ◌∙◌}
use Rattle.std.specs.Prelude.{◌&&◌, ◌||◌, not, nat_le}
use Rattle.run_laws.proofs.Idle.{done_awake}
use Rattle.run_laws.proofs.Turning.{behind_turns, behind_course}
use Rattle.run_laws.proofs.Unhalted.{halts_honest}

-- 1. The end of a run: each thread has made all its operations or was cut, and holds and takes nothing

passes_at : (f : ℕ → Bool) (a n t : ℕ) → list_all f (range_with_len a n) ≡ true → a ≤ t → t < a + n → f t ≡ true
passes_at f a zero t e i l = absurd (omega arith)
passes_at f a (suc n) t e i l =
    let parts = and_parts (f a) (list_all f (range_with_len (a + 1) n)) e in
    elim (cases_eq a t) [
      | inl j ↦ subst (λ m. f m ≡ true) j parts.0
      | inr j ↦ passes_at f (a + 1) n t parts.1 (omega (arith, j)) (omega arith)
    ]

-- a number that is no thread's has no operations
no_operations : (plan : Plan) (t : ℕ) → length plan.threads ≤ t → length (operations_of plan t) ≡ 0
no_operations plan t i = ap (λ o. length (unwrap_or o []))
    (slice_get_past (map (λ (d : ThreadDecl). d.ops) plan.threads) t
    (omega (arith, i, length-map plan.threads (λ (d : ThreadDecl). d.ops))))

module _ (plan : Plan) (r : Run) (k : IsOnTrack plan r) (ended : all_ended plan r ≡ true) where
  -- each thread has made all its operations, unless it was cut,
  all_made : (t : ℕ) → was_cut r.state t ≡ false → length (operations_of plan t) ≤ r.next_op t
  unfolding has_ended
  all_made t uncut = elim (cases_lt t (length plan.threads)) [
    | inl i ↦
        let its : has_ended plan r t
        ≡ true = passes_at (has_ended plan r) 0 (length plan.threads) t ended (omega arith) (omega (arith, i)) in
        let over = nat_le (length (operations_of plan t)) (r.next_op t) || was_cut r.state t in
        let first = and_parts (over && not (owes (config_of plan) r.state t))
        (holds_none (config_of plan) r.state t) its in
        elim (or_cases (nat_le (length (operations_of plan t)) (r.next_op t)) (was_cut r.state t)
        (and_parts over (not (owes (config_of plan) r.state t)) first.0).0) [
          | inl x ↦ leb-true (length (operations_of plan t)) (r.next_op t) x
          | inr x ↦ absurd (true≢false (sym x ∙ uncut))
        ]
    | inr i ↦ omega (arith, no_operations plan t i)
  ]

  -- and holds nothing
  unheld : (t l : ℕ) → r.state.held t l ≡ NotHeld
  unfolding has_ended OnlyThreadsHold OnlyLocksAreHeld
  unheld t l = go (r.state.held t l) refl
    where
      go : (h : Hold) → r.state.held t l ≡ h → h ≡ NotHeld
      go NotHeld e = refl
      go (Holds mode) e =
          let i = k.lawful.lawful.words.only_threads_hold t l mode e in
          let its : has_ended plan r t
          ≡ true = passes_at (has_ended plan r) 0 (length plan.threads) t ended (omega arith) (omega (arith, i)) in
          let some = true-any_below (length plan.locks) (λ l. not (is_unheld (r.state.held t l))) l
          (k.taken.only_locks_are_held t l mode e) (ap (λ (x : Hold). not (is_unheld x)) e) in
          absurd (true≢false (sym (and_parts _ _ its).1 ∙ ap not some))

  -- so its entries have led it to the end
  nothing_now : (t : ℕ) → held_now plan r t ≡ []
  nothing_now t = go (held_now plan r t) refl
    where
      go : (hs : List Held) → held_now plan r t ≡ hs → hs ≡ []
      go [] e = refl
      go (h ∷ hs) e =
          let first : hold_in (h ∷ hs) h.l.0 ≡ Holds h.mode = rw (eq-eqb h.l.0 h.l.0 refl) refl in
          absurd (let z : NotHeld ≡ Holds h.mode = sym (unheld t h.l.0) ∙ k.holds t h.l.0
          ∙ ap (λ (xs : List Held). hold_in xs h.l.0) e ∙ first in cc)

  at_end : (t : ℕ) → IsAtEnd (operations_of plan t) (point_in plan r t)
  at_end t = go (was_cut r.state t) refl
    where
      go : (b : Bool) → was_cut r.state t ≡ b
          → IsAtEnd (operations_of plan t) (point_by b (held_now plan r t) (r.next_op t) (waits_on (r.state.log t)))
      go true e = ap (λ (hs : List Held). reverse hs) (nothing_now t)
      go false e = let made = all_made t e in rw (done_awake plan r t k made) (omega (arith, k.within t, made))

  -- and takes no lock
  takes_nothing : (t : ℕ) → r.state.taking t ≡ None
  takes_nothing t = k.taking t ∙ go (was_cut r.state t) refl
    where
      wants : was_cut r.state t ≡ false → (o : Option ℕ) → r.state.wanted t ≡ o → o ≡ None
      wants e None f = refl
      wants e (Some l) f =
          let made = all_made t e in
          let none : slice_get (operations_of plan t) (r.next_op t)
          ≡ None = slice_get_past (operations_of plan t) (r.next_op t) made in
          absurd (rw (done_awake plan r t k made, none) at (k.wants t l f))

      go : (b : Bool) → was_cut r.state t ≡ b → r.state.wanted t ≡ None
      go true e = k.cut_wants_nothing t e
      go false e = wants e (r.state.wanted t) refl

-- 2. The law

legal_on_track : (plan : Plan) (r : Run) (cut_short : Bool) → IsOnTrack plan r
    → (cut_short ≡ false → all_ended plan r ≡ true) → IsLegal plan false cut_short r.state.history
unfolding EntriesFollowOperations
legal_on_track plan r cut_short k whole = record {
  so_far = legal_so_far nobody (config_of plan) r.state false k.lawful.lawful k.sleepers k.no_halts;
  entries_follow_operations = λ t. record {
    point = point_in plan r t;
    leads = k.follows t;
    whole = λ e. at_end plan r k (whole e) t;
  };
  orders_are_legal = λ e. orders_legal (config_of plan) r.state k.ordered k.taken (takes_nothing plan r k (whole e));
  halts_are_honest = halts_honest plan r k;
  busies_are_explained = λ e. absurd cc;
}

pub runs_are_legal : (plan : Plan) (turns : List ℕ) → IsProper plan → All (λ t. t < length plan.threads) turns
    → IsLegal plan false true (after_turns plan turns).state.history
runs_are_legal plan turns p a =
    legal_on_track plan (after_turns plan turns) true (behind_turns plan turns p a) (λ e. absurd cc)

-- a run that wasn't cut short has come to the end of all its threads
pub not_cut : (plan : Plan) (k : Course) → is_cut_short (ending_of plan k) ≡ false → all_ended plan k.run ≡ true
not_cut plan k e = grind arith

pub courses_are_legal : (plan : Plan) (n : ℕ) → IsProper plan
    → IsLegal plan false (is_cut_short (ending_of plan (course_after plan n))) (course_after plan n).run.state.history
courses_are_legal plan n p =
    legal_on_track plan (course_after plan n).run (is_cut_short (ending_of plan (course_after plan n)))
    (behind_course plan n p) (not_cut plan (course_after plan n))

pub outcomes_are_legal : (plan : Plan) (chains turns : ℕ) → IsProper plan
    → HasLegalHistory plan (scheduled_run plan chains turns)
unfolding scheduled_run
outcomes_are_legal plan chains turns p =
    rw (reverse-reverse (course_after plan turns).run.state.history) (courses_are_legal plan turns p)
