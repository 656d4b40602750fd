-- A schedule that a policy makes, turn by turn.
use Rattle.std.proofs.Common.{◌≡◌, ℕ, suc, ◌+◌, ◌<◌, ◌≤◌, List, [], ◌∷◌, ◌++◌, length, get_or, map, take, All, Option, Some, None, option_map, refl, sym, ap, subst, ◌∙◌, arith, append_assoc, append-nil}
use Rattle.std.specs.Prelude.{reverse}
use Rattle.std.proofs.lemmas.List.{length_push, map-append, reverse-append, take_more}
use Rattle.std.proofs.lemmas.List.Elements.{All-push}
use Rattle.lock_model.specs.Limits.{most_scheduled}
use Rattle.lock_model.specs.Plans.{config_of}
use Rattle.lock_model.specs.declared.numbers.ThreadNo.{ThreadNo}
use Rattle.lock_model.specs.declared.plan.Plan.{Plan}
use Rattle.lock_state.specs.Run.{Run, after_turns, run_behind, start_run}
use Rattle.step_world.specs.Worlds.{World, Represents}
use Rattle.turn_policy.specs.Choosing.{IsBehindDraws}
use Rattle.turn_policy.specs.Policies.{choice}
use Rattle.turn_policy.specs.Schedules.{IsBegun, IsPlanned, IsTooLong, last_of, next_by, run_by}
use Rattle.turn_policy.specs.declared.policy.Policy.{Policy}
use Rattle.turn_policy.proofs.Lists.{pushed}

-- 1. The run behind turns

-- behind none it is at its begin,
pub none_made : (plan : Plan) → start_run (config_of plan) ≡ run_by plan []
unfolding after_turns
none_made plan = refl

-- and one turn more is made behind it
pub one_more : (plan : Plan) (ts : List ThreadNo) (t : ThreadNo)
    → run_behind plan (run_by plan ts) t.0 ≡ run_by plan (ts ++ t ∷ [])
unfolding after_turns
one_more plan ts t =
    sym (ap (λ (xs : List ℕ). after_turns plan (reverse xs)) (map-append (λ (u : ThreadNo). u.0) ts (t ∷ []))
    ∙ ap (after_turns plan) (reverse-append (map (λ (u : ThreadNo). u.0) ts) (t.0 ∷ [])))

-- so the next of some turns is made
pub next_made : (plan : Plan) (w : World) (ts : List ThreadNo) (i : ℕ) (d : ThreadNo) → i < length ts
    → Represents w (run_behind plan (run_by plan (take i ts)) (get_or ts i d).0)
    → Represents w (run_by plan (take (i + 1) ts))
next_made plan w ts i d lt h =
    subst (Represents w) (one_more plan (take i ts) (get_or ts i d) ∙ ap (run_by plan) (sym (take_more ts i d lt))) h

-- 2. A schedule under way

-- the turns have begun the schedule, the world has made them, and the generator has drawn for those that were chosen
pub record IsUnderWay (policy : Policy) (plan : Plan) (w : World) (ts : List ThreadNo) (state : ℕ) : Type 0 where
  pub plan_is : w.plan ≡ plan
  pub begun : IsBegun policy plan ts
  pub shows : Represents w (run_by plan ts)
  pub draws : IsBehindDraws policy (length begun.chosen) state
  pub threads : All (λ t. t.0 < length plan.threads) ts
  pub few : length ts ≤ most_scheduled

module _ (policy : Policy) (plan : Plan) where
  pub begins : (w : World) (state : ℕ) → w.plan ≡ plan → Represents w (run_by plan plan.schedule)
      → IsBehindDraws policy 0 state → All (λ t. t.0 < length plan.threads) plan.schedule
      → length plan.schedule ≤ most_scheduled
      → IsUnderWay policy plan w plan.schedule state
  begins w state same shows draws threads few = record {
    plan_is = same;
    begun = record { chosen = []; behind = sym (append-nil plan.schedule); each = λ n t e. absurd cc };
    shows = shows;
    draws = draws;
    threads = threads;
    few = few;
  }

  module _ (w : World) (ts : List ThreadNo) (state : ℕ) (u : IsUnderWay policy plan w ts state) where
    -- what the policy chooses
    pub next_is : (last o : Option ThreadNo) → option_map (λ t. t.0) last ≡ last_of ts
        → ((r : Run) (n : ℕ) → Represents w r → IsBehindDraws policy n state
        → option_map (λ t. t.0) o ≡ choice policy w.plan r (option_map (λ t. t.0) last) n)
        → option_map (λ t. t.0) o ≡ next_by policy plan u.begun.chosen
    next_is last o same chosen =
        let n = length u.begun.chosen in
        chosen (run_by plan ts) n u.shows u.draws
        ∙ ap (λ (p : Plan). choice policy p (run_by plan ts) (option_map (λ (t : ThreadNo). t.0) last) n) u.plan_is
        ∙ ap (λ (l : Option ℕ). choice policy plan (run_by plan ts) l n) same
        ∙ ap (λ (xs : List ThreadNo). choice policy plan (run_by plan xs) (last_of xs) n) u.begun.behind

    -- one more turn
    pub more_begun : (t : ThreadNo) → next_by policy plan u.begun.chosen ≡ Some t.0 → IsBegun policy plan (ts ++ t ∷ [])
    more_begun t e = record {
      chosen = u.begun.chosen ++ t ∷ [];
      behind = ap (λ (xs : List ThreadNo). xs ++ t ∷ []) u.begun.behind
          ∙ append_assoc plan.schedule u.begun.chosen (t ∷ []);
      each = pushed (λ xs x. next_by policy plan xs ≡ Some x.0) u.begun.chosen t u.begun.each e;
    }

    pub goes_on : (t : ThreadNo) (new : World) (drawn : ℕ) → next_by policy plan u.begun.chosen ≡ Some t.0
        → new.plan ≡ w.plan
        → ((r : Run) → Represents w r → Represents new (run_behind w.plan r t.0))
        → ((n : ℕ) → IsBehindDraws policy n state → IsBehindDraws policy (suc n) drawn)
        → t.0 < length plan.threads → length ts < most_scheduled → IsUnderWay policy plan new (ts ++ t ∷ []) drawn
    unfolding more_begun
    goes_on t new drawn e same turn draws lt few = record {
      plan_is = same ∙ u.plan_is;
      begun = more_begun t e;
      shows = subst (Represents new)
          (ap (λ (p : Plan). run_behind p (run_by plan ts) t.0) u.plan_is ∙ one_more plan ts t)
          (turn (run_by plan ts) u.shows);
      draws = subst (λ (n : ℕ). IsBehindDraws policy n drawn)
          (let i : suc (length u.begun.chosen) ≡ length (u.begun.chosen ++ t ∷ []) = omega
          (arith, length_push u.begun.chosen t) in i) (draws (length u.begun.chosen) u.draws);
      threads = All-push (λ (x : ThreadNo). x.0 < length plan.threads) ts t u.threads lt;
      few = omega (arith, length_push ts t);
    }

    -- nobody is chosen any more
    pub ends : next_by policy plan u.begun.chosen ≡ None → IsPlanned policy plan ts
    ends e = record { begun = u.begun; over = e }

    -- there is no room for one more
    pub too_long : (t : ThreadNo) → next_by policy plan u.begun.chosen ≡ Some t.0 → most_scheduled ≤ length ts
        → IsTooLong policy plan
    too_long t e full = (ts ++ t ∷ [], more_begun t e, omega (arith, length_push ts t))
