-- A course after so many turns: one turn more, and a run that is over.
use Rattle.run_laws.proofs.Names.{ℕ, zero, suc, Bool, true, cond, add-one, refl, ap, arith, start_course, course_after}
use Rattle.run_laws.proofs.Names.{is_over, go_on, after_turn, Plan}
use Rattle.std.proofs.Common.{◌≡◌, ◌+◌, ◌-◌, ◌≤◌, ◌∙◌}

-- the course behind no turn is the begin,
pub none_made : (plan : Plan) → course_after plan 0 ≡ start_course plan
unfolding course_after
none_made plan = refl

-- and the one behind one turn more goes on
pub one_more : (plan : Plan) (n : ℕ) → course_after plan (n + 1) ≡ go_on plan (course_after plan n)
unfolding course_after
one_more plan n = rw add-one refl

-- a run that is over stays as it is
still : (plan : Plan) (n k : ℕ) → is_over plan (course_after plan n) ≡ true
    → course_after plan (n + k) ≡ course_after plan n
unfolding course_after
still plan n zero e = ap (course_after plan) (let i : n + 0 ≡ n = omega arith in i)
still plan n (suc k) e =
    ap (course_after plan) (let i : n + suc k ≡ suc (n + k) = omega arith in i)
    ∙ ap (go_on plan) (still plan n k e)
    ∙ ap
    (λ (b : Bool). cond b (course_after plan n) (after_turn plan (course_after plan n) (course_after plan n).coming)) e

pub stays_over : (plan : Plan) (n m : ℕ) → n ≤ m → is_over plan (course_after plan n) ≡ true
    → course_after plan m ≡ course_after plan n
stays_over plan n m l e = ap (course_after plan) (let i : m ≡ n + (m - n) = omega arith in i) ∙ still plan n (m - n) e
