-- The wheel shows the sleepers still, where one comes or goes.
use Rattle.std.proofs.Common.{◌≡◌, ℕ, ◌%◌, ◌<◌, Bool, true, false, cond, List, [], ◌∷◌, length, set, find, None, Some, refl, sym, ap, subst, arith}
use Rattle.std.proofs.lemmas.Bool.Decides.{nat_tests}
use Rattle.tick_sleep.specs.Limits.{round}
use Rattle.tick_sleep.specs.declared.plan.TickSleeper.{TickSleeper}
use Rattle.tick_sleep.specs.declared.wheel.Callout.{Callout}
use Rattle.tick_sleep.specs.Ticks.{is_of, without}
use Rattle.tick_sleep.specs.Wheels.{bucket_at, without_callout, ShowsSleepers}
use Rattle.tick_sleep.proofs.First.{found_passes}
use Rattle.tick_sleep.proofs.Buckets.{timed_goes, untimed_goes}

-- who is found by its thread has that one
pub its_thread : (t : ℕ) (ss : List TickSleeper) (s : TickSleeper) → find (is_of t) ss ≡ Some s → s.t.0 ≡ t
its_thread t ss s e = let p = found_passes (is_of t) ss s e in grind (arith, nat_tests, p)

pub found_own : (t : ℕ) (ss : List TickSleeper) (s : TickSleeper) → find (is_of t) ss ≡ Some s
    → find (is_of s.t.0) ss ≡ Some s
found_own t ss s e = subst (λ u. find (is_of u) ss ≡ Some s) (sym (its_thread t ss s e)) e

pub timed_left : (wheel : List (List Callout)) (t : ℕ) (ss : List TickSleeper) (s : TickSleeper) (due : ℕ)
    → find (is_of t) ss ≡ Some s → s.due ≡ Some due → length wheel ≡ round → ShowsSleepers wheel ss
    → ShowsSleepers (set wheel (due % round) (without_callout t (bucket_at due wheel))) (without t ss)
timed_left wheel t ss s due f e size h =
    let small : due % round < round = omega arith in
    subst (λ u. ShowsSleepers (set wheel (due % round) (without_callout u (bucket_at due wheel))) (without u ss))
    (its_thread t ss s f) (timed_goes wheel ss s due (found_own t ss s f) e size small h)

pub untimed_left : (wheel : List (List Callout)) (t : ℕ) (ss : List TickSleeper) (s : TickSleeper)
    → find (is_of t) ss ≡ Some s → s.due ≡ None → ShowsSleepers wheel ss → ShowsSleepers wheel (without t ss)
untimed_left wheel t ss s f e h =
    subst (λ u. ShowsSleepers wheel (without u ss)) (its_thread t ss s f)
    (untimed_goes wheel ss s (found_own t ss s f) e h)

-- nobody goes where nobody is found
pub none_left : (t : ℕ) (ss : List TickSleeper) → find (is_of t) ss ≡ None → without t ss ≡ ss
none_left t [] e = refl
none_left t (s ∷ ss) e = go (is_of t s) refl e (λ f. none_left t ss f)
  where
    go : (b : Bool) → is_of t s ≡ b → cond b (Some s) (find (is_of t) ss) ≡ None
        → (find (is_of t) ss ≡ None → without t ss ≡ ss) → cond b ss (s ∷ without t ss) ≡ s ∷ ss
    go true i f more = absurd cc
    go false i f more = ap (λ (rs : List TickSleeper). s ∷ rs) (more f)
