-- Facts of counting, on a running floor: how many threads are awake, who is counted in for a wake to come, what a
-- parked thread has left, and how alone a finder is.
use Rattle.std.specs.Prelude.{◌≡◌, ◌≢◌, ℕ, suc, ◌+◌, ◌<◌, Bool, true, false, List, [], Option, Some, None}
use Rattle.lock_model.specs.Config.{Config}
use Rattle.lock_model.specs.Counts.{sum_below, one, at_option}
use Rattle.lock_model.specs.Holds.{Hold, NotHeld}
use Rattle.lock_model.specs.Queues.{Mark}
use Rattle.lock_model.specs.declared.plan.QueueName.{QueueName}
use Rattle.lock_state.specs.State.{Wait, Running, Walk, NoWalk, Phase, Awake, Asleep, Last, Halting, Aborting, SelfAborted, is_parked, is_finder}
use Rattle.lock_state.specs.Steps.LockWords.{is_woken}
use Rattle.lock_state.specs.Steps.Items.{Item, out_with}
use Rattle.lock_state.specs.Steps.Counting.{IsFirst}

-- 1. Terms

-- how often a thread was counted in, by anybody
unfoldable pub times_counted_in : Config → (ℕ → ℕ → ℕ) → ℕ → ℕ
times_counted_in c counted_in t = sum_below c.threads (λ u. counted_in u t)

-- the awake count is the sum of the threads' terms: 1 for each, less its countings out, plus the times that it was
-- counted in
unfoldable pub AwakeIsCounted : Config → ℕ → (ℕ → ℕ) → (ℕ → ℕ → ℕ) → Type 0
AwakeIsCounted c awake counted_out counted_in =
    awake + sum_below c.threads counted_out
    ≡ c.threads + sum_below c.threads (times_counted_in c counted_in)

-- 1 where a thread counts of itself: it isn't parked. One that aborted itself counts by its wake alone
abbrev pub own_term : Phase → ℕ
own_term Awake = 1
own_term Asleep = 0
own_term Last = 0
own_term Halting = 1
own_term Aborting = 1
own_term SelfAborted = 0

-- how many wakes of a thread are under way: one where it is woken, and one where it is counted in for a mark to come
unfoldable pub wakes_under_way : Config → (ℕ → Wait) → (ℕ → Option ℕ) → ℕ → ℕ
wakes_under_way c wait counting t =
    one (is_woken (wait t)) + sum_below c.threads (λ u. at_option t (counting u))

-- a thread's term is 1 where it counts of itself, and 1 more for a wake that is under way
unfoldable pub TermsFitParking : Config → (ℕ → ℕ) → (ℕ → ℕ → ℕ) → (ℕ → Phase) → (ℕ → Wait)
    → (ℕ → Option ℕ) → Type 0
TermsFitParking c counted_out counted_in phase wait counting =
    (t : ℕ) → suc (times_counted_in c counted_in t)
    ≡ counted_out t + own_term (phase t) + wakes_under_way c wait counting t

-- 2. Counted in and not yet woken

-- a thread that another has counted in and not yet woken is the first of that one's marked list, and that one has its
-- record out
unfoldable pub CountedInIsNextMarked : (ℕ → Option ℕ) → (ℕ → List Mark) → (ℕ → Option ℕ) → Type 0
CountedInIsNextMarked counting marked record_with =
    (t u : ℕ) → counting t ≡ Some u
    → IsFirst u (marked t) × (t ≢ u) × (record_with u ≡ Some t)

-- 3. Rest

-- a parked thread has no walk
unfoldable pub ParkedHasNoWalk : (ℕ → Phase) → (ℕ → Walk) → Type 0
ParkedHasNoWalk phase walk = (t : ℕ) → is_parked (phase t) ≡ true → walk t ≡ NoWalk

-- whether a thread has nobody left to wake: it is parked, or is a finder
abbrev pub is_at_rest : Phase → Bool
is_at_rest Awake = false
is_at_rest Asleep = true
is_at_rest Last = true
is_at_rest Halting = true
is_at_rest Aborting = false
is_at_rest SelfAborted = false

unfoldable pub RestingHasNoMarks : (ℕ → Phase) → (ℕ → List Mark) → Type 0
RestingHasNoMarks phase marked = (t : ℕ) → is_at_rest (phase t) ≡ true → marked t ≡ []

-- a parked thread has nothing out
unfoldable pub ParkedHasNothingOut : (ℕ → Phase) → (ℕ → Option ℕ) → (ℕ → Option ℕ)
    → (ℕ → Option ℕ) → (ℕ → ℕ → Option ℕ) → Option ℕ → Type 0
ParkedHasNothingOut phase turnstile_chain sleep_chain of cell graph =
    (t : ℕ) (i : Item) → is_parked (phase t) ≡ true
    → out_with turnstile_chain sleep_chain of cell graph i ≢ Some t

-- a parked thread, and a finder, is on a queue or in a marked list, or woken, or has ended
unfoldable pub RestingStands : (ℕ → Phase) → (ℕ → Bool) → (ℕ → Option QueueName) → (ℕ → Wait)
    → Type 0
RestingStands phase has_ended blocked_on wait =
    (t : ℕ) → is_at_rest (phase t) ≡ true → has_ended t ≡ false → blocked_on t ≡ None
    → is_woken (wait t) ≡ true

-- a thread that aborted itself is woken until it resumes
unfoldable pub SelfAbortedIsWoken : (ℕ → Phase) → (ℕ → Wait) → Type 0
SelfAbortedIsWoken phase wait =
    (t : ℕ) → phase t ≡ SelfAborted → is_woken (wait t) ≡ true

-- 4. Ends

-- an ended thread runs, so it is on no queue and not woken
unfoldable pub EndedRuns : (ℕ → Bool) → (ℕ → Wait) → Type 0
EndedRuns has_ended wait = (t : ℕ) → has_ended t ≡ true → wait t ≡ Running

-- it holds nothing and wants nothing
unfoldable pub EndedIsBare : (ℕ → Bool) → (ℕ → ℕ → Hold) → (ℕ → Option ℕ) → Type 0
EndedIsBare has_ended held wanted =
    (t : ℕ) → has_ended t ≡ true → ((l : ℕ) → held t l ≡ NotHeld) × (wanted t ≡ None)

-- the ended count is the number of threads that have ended
unfoldable pub EndedIsCounted : Config → ℕ → (ℕ → Bool) → Type 0
EndedIsCounted c ended has_ended = ended ≡ sum_below c.threads (λ t. one (has_ended t))

-- 5. A finder

-- while there is a finder no wake is under way, and each other thread is parked
unfoldable pub FinderIsAlone : Config → (ℕ → Phase) → (ℕ → Wait) → (ℕ → Option ℕ) → Type 0
FinderIsAlone c phase wait counting =
    (f u : ℕ) → is_finder (phase f) ≡ true → u < c.threads
    → (wakes_under_way c wait counting u ≡ 0) × (f ≢ u → phase u ≡ Asleep)
