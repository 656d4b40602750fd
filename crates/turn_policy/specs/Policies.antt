-- Whom a policy gives the next turn. A smaller number is the more important priority. The policies are this project's
-- own.
use Rattle.std.specs.Prelude.{ℕ, ◌%◌, Bool, true, false, ◌&&◌, ◌==◌, nat_le, if◌then◌else◌, List, filter, length, slice_get, Option, Some, None}
use Rattle.std.specs.List.{find, list_all}
use Rattle.std.specs.Option.{option_or}
use Rattle.lock_model.specs.Counts.{is_empty}
use Rattle.lock_model.specs.Plans.{config_of}
use Rattle.lock_model.specs.declared.plan.Plan.{Plan}
use Rattle.lock_model.specs.declared.turn.Turn.{Turn}
use Rattle.lock_model.specs.declared.turn.Turn.TheVariants.{Did, Idle, Ended}
use Rattle.lock_state.specs.Run.{Run, owes, threads_of, turn_of}
use Rattle.lock_state.specs.State.{State}
use Rattle.turn_policy.specs.Chance.{draw}
use Rattle.turn_policy.specs.declared.policy.Policy.{Policy}
use Rattle.turn_policy.specs.declared.policy.Policy.TheVariants.{Chance, Priority}

-- 1. Who may be given a turn

-- in its turn a thread does something: it has neither ended nor is it idle
abbrev pub acts : Turn → Bool
acts Idle = false
acts Ended = false
acts (Did kind) = true

-- the threads that have neither ended nor are idle, by number
abbrev pub runnable : Plan → Run → List ℕ
runnable plan r = filter (λ t. acts (turn_of plan r t).answer) (threads_of plan)

-- those of them that owe something: a lending walk, somebody to wake, or the release of a wait
abbrev pub owing : Plan → Run → List ℕ
owing plan r =
    filter (λ t. acts (turn_of plan r t).answer && owes (config_of plan) r.state t)
    (threads_of plan)

-- Those whose priorities are looked at: the ones that owe something where there are some, and else all. A block with
-- its walk, a release with its waking, and a sleep with its release are one call each: nobody comes in between because
-- it is more important. (In the kernel that is so of all but the release of an sx lock by who goes to sleep: the rest
-- is done in the section of a chain.)
abbrev pub contenders : Plan → Run → List ℕ
contenders plan r = if is_empty (owing plan r) then runnable plan r else owing plan r

-- 2. The most important

-- none of the threads has a smaller priority
abbrev pub has_least : (ℕ → ℕ) → List ℕ → ℕ → Bool
has_least priority ts t = list_all (λ u. nat_le (priority t) (priority u)) ts

-- the thread had the last turn
abbrev pub ran_last : Option ℕ → ℕ → Bool
ran_last None t = false
ran_last (Some u) t = t == u

-- The thread of the least priority: of equals the one that ran last, and else the first of them, which has the lowest
-- number where the threads stand by number.
abbrev pub most_important : (ℕ → ℕ) → Option ℕ → List ℕ → Option ℕ
most_important priority last ts =
    option_or (find (λ t. has_least priority ts t && ran_last last t) ts)
    (find (has_least priority ts) ts)

-- the priorities that a policy looks at: the effective ones, or the base ones where it doesn't heed loans
abbrev pub priority_of : Bool → State → ℕ → ℕ
priority_of true s = s.effective
priority_of false s = s.base

-- 3. Chance

-- the thread at the place that a draw says, modulo their number
abbrev pub drawn_from : List ℕ → ℕ → Option ℕ
drawn_from ts x = slice_get ts (x % length ts)

-- 4. Policies

-- whom the policy chooses behind a run, by who had its last turn and by how many it has chosen
abbrev pub choice : Policy → Plan → Run → Option ℕ → ℕ → Option ℕ
choice (Priority heeds_loans) plan r last n =
    most_important (priority_of heeds_loans r.state) last (contenders plan r)
choice (Chance seed) plan r last n = drawn_from (runnable plan r) (draw seed n)
