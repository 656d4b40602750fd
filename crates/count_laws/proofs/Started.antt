-- At the start all threads are awake, and nothing was counted.
use Rattle.std.proofs.Common.{◌≡◌, ℕ, refl, arith}
use Rattle.lock_model.specs.Config.{Config}
use Rattle.lock_model.specs.Counts.{sum_below}
use Rattle.lock_state.specs.State.{start_state}
use Rattle.lock_state.specs.Facts.{Counted, AwakeIsCounted, TermsFitParking, CountedInIsNextMarked, ParkedHasNoWalk, RestingHasNoMarks, ParkedHasNothingOut, RestingStands, SelfAbortedIsWoken, EndedRuns, EndedIsBare, EndedIsCounted, FinderIsAlone}
use Rattle.lock_state.specs.Facts.Counts.{times_counted_in, wakes_under_way}
use Rattle.lock_laws.proofs.Kit.{sum_below-zero}

nothing : (n : ℕ) → sum_below n (λ j. 0) ≡ 0
nothing n = sum_below-zero n (λ j. 0) (λ j l. refl)

pub counted : (c : Config) → Counted c (start_state c)
unfolding start_state AwakeIsCounted TermsFitParking CountedInIsNextMarked ParkedHasNoWalk RestingHasNoMarks
    ParkedHasNothingOut RestingStands SelfAbortedIsWoken EndedRuns EndedIsBare EndedIsCounted FinderIsAlone
    times_counted_in wakes_under_way
counted c = record {
  awake_is_counted = let a = nothing c.threads in let b =
      sum_below-zero c.threads (λ t. sum_below c.threads (λ u. 0)) (λ j l. nothing c.threads) in omega (arith, a, b);
  terms_fit_parking = λ t. let a = nothing c.threads in omega (arith, a);
  counted_in_is_next_marked = λ t u e. absurd cc;
  parked_has_no_walk = λ t e. refl;
  resting_has_no_marks = λ t e. refl;
  parked_has_nothing_out = λ t i e. absurd cc;
  resting_stands = λ t e. absurd cc;
  self_aborted_is_woken = λ t e. absurd cc;
  ended_runs = λ t e. refl;
  ended_is_bare = λ t e. absurd cc;
  ended_is_counted = let a = nothing c.threads in omega (arith, a);
  finder_is_alone = λ f u e. absurd cc;
}
