-- A schedule that a policy made is whole: behind it nobody is left to be chosen by any policy.
use Rattle.std.proofs.Common.{◌≡◌, ℕ, List, [], ◌∷◌, ◌++◌, refl, sym, ap, ◌∙◌, append-nil}
use Rattle.std.specs.Prelude.{map, reverse}
use Rattle.lock_model.specs.declared.numbers.ThreadNo.{ThreadNo}
use Rattle.lock_model.specs.declared.plan.Plan.{Plan}
use Rattle.lock_state.specs.Run.{Run, after_turns, has_ended, run_behind, turn_of}
use Rattle.turn_policy.specs.Policies.{runnable}
use Rattle.turn_policy.specs.Schedules.{IsPlanned, last_of, run_by, with_schedule}
use Rattle.turn_policy.specs.declared.policy.Policy.{Policy}
use Rattle.turn_policy.proofs.Chosen.{nobody_chosen}

module _ (plan : Plan) (ts : List ThreadNo) where
  -- no turn asks for the schedule
  same_behind : (r : Run) (t : ℕ) → run_behind (with_schedule plan ts) r t ≡ run_behind plan r t
  unfolding run_behind turn_of has_ended
  same_behind r t = refl

  same_after : (turns : List ℕ) → after_turns (with_schedule plan ts) turns ≡ after_turns plan turns
  unfolding after_turns
  same_after [] = refl
  same_after (t ∷ turns) = ap (λ (r : Run). run_behind (with_schedule plan ts) r t) (same_after turns)
      ∙ same_behind (after_turns plan turns) t

  same_runnable : (r : Run) → runnable (with_schedule plan ts) r ≡ runnable plan r
  unfolding turn_of has_ended
  same_runnable r = refl

  pub stays : (policy other : Policy) → IsPlanned policy plan ts → IsPlanned other (with_schedule plan ts) ts
  stays policy other h =
      let none = (nobody_chosen plan (run_by plan (plan.schedule ++ h.begun.chosen)) policy _ _).0 h.over in
      let turns = ap (λ (us : List ThreadNo). reverse (map (λ t. t.0) us)) (append-nil ts ∙ h.begun.behind) in
      let run = same_after (reverse (map (λ t. t.0) (ts ++ []))) ∙ ap (after_turns plan) turns in
      record {
        begun = record { chosen = []; behind = sym (append-nil ts); each = λ n t e. absurd cc };
        over = (nobody_chosen (with_schedule plan ts) (run_by (with_schedule plan ts) (ts ++ [])) other
            (last_of (ts ++ [])) 0).1 (same_runnable _ ∙ ap (runnable plan) run ∙ none);
      }
