-- How far a choice has come: who may be chosen, each with the priority that the policy looks at, and the generator.
use Rattle.std.specs.Prelude.{◌≡◌, ◌<◌, ◌&&◌, ℕ, Bool, true, false, List, filter, length, map}
use Rattle.std.specs.List.{All}
use Rattle.lock_model.specs.Plans.{config_of}
use Rattle.lock_model.specs.declared.plan.Plan.{Plan}
use Rattle.lock_state.specs.Run.{Run, owes, threads_of, turn_of}
use Rattle.lock_state.specs.State.{Wait, Running, Queued, Woken}
use Rattle.turn_policy.specs.Chance.{state_behind}
use Rattle.turn_policy.specs.Policies.{acts, priority_of}
use Rattle.turn_policy.specs.declared.choosing.Candidate.{Candidate}
use Rattle.turn_policy.specs.declared.policy.Policy.{Policy}
use Rattle.turn_policy.specs.declared.policy.Policy.TheVariants.{Chance, Priority}

-- whether a thread is one of those that are gathered: all that do something in their turn, or of these only those that
-- owe something
abbrev pub is_gathered : Bool → Plan → Run → ℕ → Bool
is_gathered true plan r t = acts (turn_of plan r t).answer && owes (config_of plan) r.state t
is_gathered false plan r t = acts (turn_of plan r t).answer

abbrev pub gathered : Bool → Plan → Run → List ℕ
gathered owing_only plan r = filter (is_gathered owing_only plan r) (threads_of plan)

-- a wait word says Queued
abbrev pub is_queued : Wait → Bool
is_queued Running = false
is_queued Queued = true
is_queued (Woken q cause) = false

-- the threads of candidates
abbrev pub threads_in : List Candidate → List ℕ
threads_in cs = map (λ c. c.thread.0) cs

-- these threads, each with its priority in the run
pub record AreCandidates (heeds_loans : Bool) (r : Run) (ts : List ℕ) (cs : List Candidate) : Type 0
  where
    pub threads : threads_in cs ≡ ts
    pub priorities : All
        (λ c. c.priority.0 ≡ priority_of heeds_loans r.state c.thread.0) cs

-- they are threads of the plan
abbrev pub AreOfPlan : Plan → List Candidate → Type 0
AreOfPlan plan cs = All (λ c. c.thread.0 < length plan.threads) cs

-- the generator is behind so many draws, where the policy draws
abbrev pub IsBehindDraws : Policy → ℕ → ℕ → Type 0
IsBehindDraws (Priority heeds_loans) n state = Unit {0}
IsBehindDraws (Chance seed) n state = state ≡ state_behind seed n
