-- How a run ends: stuck exactly where a whole round was idle, and cut short exactly where some thread hasn't ended.
use Rattle.run_laws.proofs.Names
use Names.{ℕ, zero, suc, Bool, true, false, cond, List, [], refl, sym, inl, subst, and_parts, is_empty, has_reversal}
use Names.{IsDone, IsStuck, IsReversed, Run, Course, turn_of, round_of, all_ended, with_turn, after_turn, go_on}
use Names.{is_idle, is_stuck, course_after, ending_of, is_cut_short, Plan, arith}
use Rattle.std.proofs.Common.{◌≡◌, ◌↔◌, ◌||◌, ◌∷◌}
use Rattle.run_laws.proofs.Idle.{changes_nothing, idle_is}
use Rattle.run_laws.proofs.LegalRuns.{not_cut}

-- 1. A round begins only where not all threads have ended, and idle turns change nothing

-- so it is in a round whose turns were all idle so far
abbrev SomeAreLeft : Plan → Course → Type 0
SomeAreLeft plan k = k.idle ≡ true → all_ended plan k.run ≡ false

with_turn_left : (plan : Plan) (r : Run) (ts : List ℕ) (idle : Bool) → all_ended plan r ≡ false
    → SomeAreLeft plan (with_turn plan r ts idle)
with_turn_left plan r [] idle left e = left
with_turn_left plan r (t ∷ ts) idle left e =
    let answer = idle_is (turn_of plan r t).answer (and_parts idle (is_idle (turn_of plan r t).answer) e).1 in
    subst (λ n. all_ended plan n ≡ false) (sym (changes_nothing plan r t (inl answer))) left

after_turn_left : (plan : Plan) (k : Course) (ts : List ℕ) → all_ended plan k.run ≡ false
    → SomeAreLeft plan (after_turn plan k ts)
after_turn_left plan k [] left = with_turn_left plan k.run (round_of plan k.run) true left
after_turn_left plan k (t ∷ ts) left = with_turn_left plan k.run (t ∷ ts) k.idle left

go_on_left : (plan : Plan) (k : Course) → SomeAreLeft plan k → SomeAreLeft plan (go_on plan k)
go_on_left plan k h = go (all_ended plan k.run) (is_stuck k) refl
  where
    go : (ended stuck : Bool) → all_ended plan k.run ≡ ended
        → SomeAreLeft plan (cond (ended || stuck) k (after_turn plan k k.coming))
    go true stuck e = h
    go false true e = h
    go false false e = after_turn_left plan k k.coming e

some_left : (plan : Plan) (n : ℕ) → SomeAreLeft plan (course_after plan n)
unfolding course_after
some_left plan zero = λ e. absurd cc
some_left plan (suc n) = go_on_left plan (course_after plan n) (some_left plan n)

-- 2. The endings

stuck_only : (plan : Plan) (k : Course) → ending_of plan k ≡ IsStuck → is_stuck k ≡ true
stuck_only plan k e = grind arith

pub stuck_exactly : (plan : Plan) (n : ℕ)
    → ending_of plan (course_after plan n) ≡ IsStuck ↔ is_stuck (course_after plan n) ≡ true
stuck_exactly plan n =
    (stuck_only plan k, λ e. rw (some_left plan n (and_parts (is_empty k.coming) k.idle e).1, e) refl)
  where
    k : Course
    k = course_after plan n

pub whole_exactly : (plan : Plan) (n : ℕ)
    → is_cut_short (ending_of plan (course_after plan n)) ≡ false ↔ all_ended plan (course_after plan n).run ≡ true
whole_exactly plan n = (not_cut plan k, λ e. rw e (go (has_reversal k.run.state.history)))
  where
    k : Course
    k = course_after plan n

    go : (reversed : Bool) → is_cut_short (cond reversed IsReversed IsDone) ≡ false
    go true = refl
    go false = refl
