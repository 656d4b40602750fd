-- The guards of counting and halting can be met. p takes a mutex and sleeps on a channel with it, q ends and counts
-- itself out, and p, which is the last, counts itself out too. It finds nobody awake, counts itself in, sets the halt
-- word, aborts and wakes itself, takes the mutex back and tells of the halt.
use Rattle.std.proofs.Common.{◌≡◌, ℕ, true, false, List, [], ◌∷◌, ◌++◌, None, arith}
use Rattle.lock_model.specs.Config.{Config}
use Rattle.lock_model.specs.Counts.{sum_below, least}
use Rattle.lock_model.specs.History.{sections_in}
use Rattle.lock_model.specs.Queues.{Cause, ByAbort, Mark, chan_queue}
use Rattle.lock_model.specs.declared.plan.Mode.TheVariants.{Excl}
use Rattle.lock_model.specs.declared.plan.Side.TheVariants.{X}
use Rattle.lock_model.specs.declared.event.Event.TheVariants.{HaltedChan}
use Rattle.lock_state.specs.State.{State, Awake, start_state, put, put_at, put_queue}
use Rattle.lock_state.specs.Steps.LockWords.{after_seek, after_look, after_gain, after_drop, after_stamp, after_ready}
use Rattle.lock_state.specs.Steps.Turnstiles.{after_mark, after_resume}
use Rattle.lock_model.specs.declared.plan.QueueName.{QueueName}
use Rattle.lock_state.specs.Steps.SleepQueues.{after_add, after_abort}
use Rattle.lock_state.specs.Steps.Items.{SleepChain, RecordOf, after_take, after_give}
use Rattle.lock_state.specs.Steps.Counting.{after_count_out, after_count_self_in, after_count_end, after_halt}
use Rattle.lock_state.specs.Steps.{Step, FitsFloor, KeepsCount, EachStep, TakesItem, GivesItem, Looks, Gains, Stamps, Marks, Resumes, CountsOut, CountsSelfIn, CountsEnd, Halts, Aborts, May, after_all}
use Rattle.lock_laws.proofs.FloorGuards.{floor_plan, taking}
use Rattle.sleep_laws.proofs.SleepGuards.{sleeping}

-- each step of a list may be made on a floor of 16 chains, and keeps the count
abbrev CountedAll : Config → State → List Step → Type 0
CountedAll c s steps = EachStep (λ s step. FitsFloor 16 c s step × KeepsCount s step) c s steps

abbrev p_marked : Mark
p_marked = record { thread = 0; object = 0; queue = chan_queue 0; cause = ByAbort }

unfoldable halting : List Step
halting =
    TakesItem 1 (RecordOf 1) ∷ CountsEnd 1 ∷ GivesItem 1 (RecordOf 1) ∷ CountsOut 1 ∷ CountsOut 0 ∷ CountsSelfIn 0 ∷
    Halts 0
    ∷ TakesItem 0 (SleepChain 0) ∷ Aborts 0 (chan_queue 0) X 0 ∷ TakesItem 0 (RecordOf 0) ∷ Marks 0 p_marked [] ∷
    GivesItem 0 (RecordOf 0)
    ∷ GivesItem 0 (SleepChain 0) ∷ Resumes 0 (chan_queue 0) ByAbort ∷ Looks 0 0 true ∷ Gains 0 0 Excl false
    ∷ Stamps 0 (HaltedChan (record { 0 = 0 })) ∷ []

halting_may : CountedAll floor_plan (after_all floor_plan (start_state floor_plan) (taking ++ sleeping)) halting
unfolding floor_plan taking sleeping halting start_state after_seek after_look after_gain after_drop after_stamp
    after_take after_give after_ready after_add after_mark after_resume after_abort after_count_out after_count_self_in
    after_count_end after_halt put put_at put_queue least sum_below sections_in
halting_may = grind arith

-- And they refuse a wake of a thread that wasn't counted in, a resume of one that isn't parked, and a halt by one
-- that is no finder.

uncounted_mark_refused : (s : State) (t : ℕ) (m : Mark) (ms : List Mark) → s.counting t ≡ None → (t ≡ m.thread → ⊥)
    → KeepsCount s (Marks t m ms) → ⊥
uncounted_mark_refused s t m ms none other k = grind arith

unparked_resume_refused : (s : State) (t : ℕ) (q : QueueName) (cause : Cause) → s.phase t ≡ Awake
    → KeepsCount s (Resumes t q cause) → ⊥
unparked_resume_refused s t q cause awake k = grind arith

unfound_halt_refused : (c : Config) (s : State) (t : ℕ) → s.phase t ≡ Awake → May c s (Halts t) → ⊥
unfound_halt_refused c s t awake g = cc
