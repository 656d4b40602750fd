-- What a chart shows of a turn of a scheduled run: its mark, its arrows and its sentence. Turn n leads from row n, the
-- run behind n turns, to row n + 1.
use Rattle.std.specs.Prelude.{ℕ, ◌+◌, ◌-◌, ◌==◌, Bool, true, false, not, ◌&&◌, nat_lt, if◌then◌else◌, is_some, List, [], ◌∷◌, filter, find, flat_map, length, map, option_and_then, option_map, option_to_list, slice_get, Option, Some, None}
use Rattle.std.specs.List.{list_any, range_with_len}
use Rattle.chart_layout.specs.declared.layout.Arrow.{Arrow}
use Rattle.chart_layout.specs.declared.layout.ArrowKind.{ArrowKind}
use Rattle.chart_layout.specs.declared.layout.ArrowKind.TheVariants.{Lends, Wakes, BlockedOn, Behind, Refused}
use Rattle.chart_layout.specs.declared.layout.MarkKind.{MarkKind}
use Rattle.chart_layout.specs.declared.layout.MarkKind.TheVariants as marked
use Rattle.chart_layout.specs.declared.layout.TurnMark.{TurnMark}
use Rattle.chart_layout.specs.declared.sentence.Saying.{Saying}
use Rattle.chart_layout.specs.declared.sentence.Saying.TheVariants as said
use Rattle.chart_layout.specs.declared.sentence.Sentence.{Sentence}
use Rattle.lock_model.specs.Events.{facets, fell_asleep, of_sleep, woken_chan}
use Rattle.lock_model.specs.Holds.{is_unheld}
use Rattle.lock_model.specs.Plans.{lock_class}
use Rattle.lock_model.specs.Queues.{Lists, BySignal, ByAbort, chan_queue, lock_queue, stands}
use Rattle.lock_model.specs.Takes.{refused}
use Rattle.lock_model.specs.Words.{owner_of}
use Rattle.lock_model.specs.declared.event.Entry.{Entry}
use Rattle.lock_model.specs.declared.event.Event.{Event}
use Rattle.lock_model.specs.declared.numbers.LockNo.{LockNo}
use Rattle.lock_model.specs.declared.numbers.Prio.{Prio}
use Rattle.lock_model.specs.declared.numbers.ThreadNo.{ThreadNo}
use Rattle.lock_model.specs.declared.plan.Plan.{Plan}
use Rattle.lock_model.specs.declared.plan.QueueName.{QueueName}
use Rattle.lock_model.specs.declared.plan.QueueName.TheVariants as queue
use Rattle.lock_model.specs.declared.turn.StepKind.TheVariants as step
use Rattle.lock_model.specs.declared.turn.Turn.{Turn}
use Rattle.lock_model.specs.declared.turn.Turn.TheVariants.{Did, Idle, Ended}
use Rattle.lock_state.specs.Run.{course_after, next_turn, threads_of}
use Rattle.lock_state.specs.State.{State, Wait, Walk, NoWalk, AtLock, AtThread, Running, Queued, Woken}
use Rattle.run_chart.specs.declared.lookup.HopLoan.{HopLoan}
use Rattle.run_chart.specs.declared.naming.Asked.{Asked}
use Rattle.run_chart.specs.declared.naming.Asked.TheVariants as asked
use Rattle.run_chart.specs.declared.naming.Sought.{Sought}
use Rattle.run_chart.specs.declared.naming.Sought.TheVariants as sought
use Rattle.run_tracks.specs.Rows.{entry_in, run_in}

-- 1. What is so in a row

abbrev pub state_in : Plan → ℕ → State
state_in plan n = (run_in plan n).state

-- whether a thread holds the lock
abbrev pub holds : Plan → ℕ → ℕ → ℕ → Bool
holds plan n l t = not (is_unheld ((state_in plan n).held t l))

-- the thread that holds it alone
abbrev pub owner_in : Plan → ℕ → ℕ → Option ℕ
owner_in plan n l = owner_of ((state_in plan n).word l).holder

-- whether a thread stands on the queue
abbrev pub stands_on : Plan → ℕ → QueueName → ℕ → Bool
stands_on plan n q t = nat_lt 0 (stands t ((state_in plan n).lists q))

-- the priority by which it runs
abbrev pub prio_in : Plan → ℕ → ℕ → Prio
prio_in plan n t = record { 0 = (state_in plan n).effective t }

-- the lock whose queue is named
abbrev pub lock_named : Option QueueName → Option LockNo
lock_named None = None
lock_named (Some (queue.Lock l)) = Some l
lock_named (Some (queue.Chan c)) = None

-- what is made of a value, if there is one
abbrev pub of_some : {T A : Type 0} → (T → List A) → Option T → List A
of_some makes None = []
of_some makes (Some value) = makes value

-- 2. Who is named of a turn

-- whether who waited so before the turn was queued, and was woken in it
abbrev pub wakes_up : Wait → Wait → Bool
wakes_up Running behind = false
wakes_up (Woken q cause) behind = false
wakes_up Queued Running = false
wakes_up Queued Queued = false
wakes_up Queued (Woken q BySignal) = true
wakes_up Queued (Woken q ByAbort) = false

-- whether what is asked of the threads in a turn is so of one
abbrev pub passes : Plan → ℕ → Asked → ℕ → Bool
passes plan n (asked.Holds l) t = holds plan n l.0 t
passes plan n (asked.Leaves q) t = stands_on plan n q t && not (stands_on plan (n + 1) q t)
passes plan n asked.WakesUp t =
    wakes_up ((state_in plan n).wait t) ((state_in plan (n + 1)).wait t)

-- the threads of which that is so, by number
abbrev pub those : Plan → ℕ → Asked → List ThreadNo
those plan n asked =
    filter (λ t. passes plan n asked t.0) (map (λ t. record { 0 = t }) (threads_of plan))

-- whether what is asked of the locks in a turn, and of its thread, is so of one
abbrev pub fits : Plan → ℕ → ℕ → Sought → ℕ → Bool
fits plan n t sought.Gained l = holds plan (n + 1) l t && not (holds plan n l t)
fits plan n t sought.GivenUp l = holds plan n l t && not (holds plan (n + 1) l t)
fits plan n t (sought.OfClass class) l = holds plan n l t && lock_class plan l == class.0

-- the first lock of which that is so
abbrev pub first_lock : Plan → ℕ → ℕ → Sought → Option LockNo
first_lock plan n t sought =
    find (λ l. fits plan n t sought l.0)
    (map (λ l. record { 0 = l }) (range_with_len 0 (length plan.locks)))

-- 3. Whom a turn lent to, and on what it blocked

-- where a walk stood at a lock, it lent to the lock's owner, which ran as one priority before the turn and runs as the
-- other behind it
abbrev pub loan_at : Plan → ℕ → Walk → Option HopLoan
loan_at plan n NoWalk = None
loan_at plan n (AtLock l) = option_map (λ o. record {
  to = record { 0 = o };
  lock = record { 0 = l };
  before = prio_in plan n o;
  prio = prio_in plan (n + 1) o;
}) (owner_in plan n l)
loan_at plan n (AtThread t) = None

abbrev pub loan_in : Plan → ℕ → ℕ → Option HopLoan
loan_in plan n t = loan_at plan n ((state_in plan n).walk t)

-- the lock on which a turn blocked its thread, by the thread's record behind it
abbrev pub blocked_on : Plan → ℕ → ℕ → Option LockNo
blocked_on plan n t = lock_named ((state_in plan (n + 1)).blocked_on t)

-- the first of those who wait to hold a lock alone, where the thread waits to share it
abbrev pub first_writer : Lists → ℕ → Option ThreadNo
first_writer waiters t =
    if list_any (λ w. w.thread == t) waiters.shared
    then option_map (λ w. record { 0 = w.thread }) (slice_get waiters.exclusive 0) else None

-- behind whom the thread went on the lock; behind nobody where a thread owns it
abbrev pub went_behind : Plan → ℕ → ℕ → ℕ → Option ThreadNo
went_behind plan n l t =
    if is_some (owner_in plan n l) then None
    else first_writer ((state_in plan (n + 1)).lists (lock_queue l)) t

-- 4. What a turn noted

-- the event of its entry
abbrev pub event_in : Plan → ℕ → Option Event
event_in plan n = option_map (λ entry. entry.event) (entry_in plan n)

-- the condition variable or channel on which its thread went to sleep, and that whose sleepers it woke
abbrev pub slept_on : Plan → ℕ → Option ℕ
slept_on plan n = option_and_then (λ e. fell_asleep (of_sleep e)) (event_in plan n)

abbrev pub signalled : Plan → ℕ → Option ℕ
signalled plan n = option_and_then (λ e. woken_chan (of_sleep e)) (event_in plan n)

-- the lock that its thread was refused, and the class of the held one that forbids it
abbrev pub refused_in : Plan → ℕ → Option (ℕ × ℕ)
refused_in plan n = option_and_then (λ e. refused (facets e).take) (event_in plan n)

-- 5. Marks

-- what is marked of a turn with the answer: its entry, or else its step, or that it was idle
abbrev pub marked_of : Turn → Option Entry → Option MarkKind
marked_of Ended entry = None
marked_of Idle entry = Some marked.Idle
marked_of (Did kind) None = Some (marked.Did kind)
marked_of (Did kind) (Some entry) = Some (marked.Noted entry.event)

-- the mark of a turn with the answer, where something is marked
abbrev pub mark_shown : Plan → ℕ → ℕ → Turn → List TurnMark
mark_shown plan n t answer =
    option_to_list (option_map (λ what. record { turn = n; thread = record { 0 = t }; what = what })
    (marked_of answer (entry_in plan n)))

-- 6. Arrows

-- one to each
abbrev pub arrows_to : ℕ → ArrowKind → ℕ → List ThreadNo → List Arrow
arrows_to n kind from tos =
    map (λ to. record { turn = n; kind = kind; from = record { 0 = from }; to = to }) tos

-- to whom a thread went behind, and else to each holder
abbrev pub block_arrows : ℕ → ℕ → Option ThreadNo → List ThreadNo → List Arrow
block_arrows n from (Some writer) held_by = arrows_to n Behind from (writer ∷ [])
block_arrows n from None held_by = arrows_to n BlockedOn from held_by

-- Those of a turn by its answer. It made a step: to whom it lent, to each that it woke, to whom it went behind or to
-- each that holds the lock on which it blocked, and to each that holds the lock that it was refused.
abbrev pub arrows_shown : Plan → ℕ → ℕ → Turn → List Arrow
arrows_shown plan n t (Did step.Lend) =
    of_some (λ loan. arrows_to n (Lends loan.before loan.prio) t (loan.to ∷ []))
    (loan_in plan n t)
arrows_shown plan n t (Did step.Mark) = arrows_to n Wakes t (those plan n asked.WakesUp)
arrows_shown plan n t (Did step.Enter) =
    of_some (λ l. block_arrows n t (went_behind plan n l.0 t) (those plan n (asked.Holds l)))
    (blocked_on plan n t)
arrows_shown plan n t (Did step.Note) =
    of_some (λ r. arrows_to n Refused t (those plan n (asked.Holds (record { 0 = r.0 }))))
    (refused_in plan n)
arrows_shown plan n t (Did step.Gain) = []
arrows_shown plan n t (Did step.Claim) = []
arrows_shown plan n t (Did step.Drop) = []
arrows_shown plan n t (Did step.OpenUp) = []
arrows_shown plan n t (Did step.Resume) = []
arrows_shown plan n t (Did step.Shift) = []
arrows_shown plan n t (Did step.WalkEnd) = []
arrows_shown plan n t (Did step.Add) = []
arrows_shown plan n t (Did step.Wake) = []
arrows_shown plan n t Idle = []
arrows_shown plan n t Ended = []

-- 7. Sentences

-- whether a walk is under way
abbrev pub is_walking : Walk → Bool
is_walking NoWalk = false
is_walking (AtLock l) = true
is_walking (AtThread t) = true

-- a loan is told where the owner runs by another priority now; the walk goes on or is over
abbrev pub loan_said : Bool → HopLoan → Option Saying
loan_said goes_on loan =
    if loan.before.0 == loan.prio.0 then None
    else Some (said.Lends loan.to loan.lock loan.before loan.prio goes_on)

-- a walk that stood at a thread sorted it anew on the queue of the lock on which that is blocked
abbrev pub sorted_at : Plan → ℕ → Walk → Option Saying
sorted_at plan n NoWalk = None
sorted_at plan n (AtLock l) = None
sorted_at plan n (AtThread other) =
    option_map (λ l. said.Sorts (record { 0 = other }) l)
    (lock_named ((state_in plan n).blocked_on other))

-- What is said of a turn by its answer. It blocked on a lock, which these hold, and went behind this writer; its
-- walk lent; its walk sorted a waiter; it gained a lock with those who wait; it gave a lock up, and took these off its
-- queue; it goes to sleep, and gives the channel's lock up; it took these sleepers off; or it may not take the lock, by
-- the class of one that it holds.
abbrev pub said_of : Plan → ℕ → ℕ → Turn → Option Saying
said_of plan n t (Did step.Enter) =
    option_map (λ l. said.Waits l (those plan n (asked.Holds l)) (went_behind plan n l.0 t))
    (blocked_on plan n t)
said_of plan n t (Did step.Lend) =
    option_and_then (loan_said (is_walking ((state_in plan (n + 1)).walk t))) (loan_in plan n t)
said_of plan n t (Did step.Shift) = sorted_at plan n ((state_in plan n).walk t)
said_of plan n t (Did step.Claim) =
    option_map (λ l. said.Claims l (prio_in plan n t) (prio_in plan (n + 1) t))
    (first_lock plan n t sought.Gained)
said_of plan n t (Did step.OpenUp) =
    option_map (λ l. said.Frees l (prio_in plan n t) (prio_in plan (n + 1) t)
    (those plan n (asked.Leaves (lock_queue l.0)))) (first_lock plan n t sought.GivenUp)
said_of plan n t (Did step.Add) =
    option_and_then (λ c. option_map (λ chan. said.Sleeps (record { 0 = c }) chan.lock)
    (slice_get plan.chans c)) (slept_on plan n)
said_of plan n t (Did step.Wake) =
    option_map (λ c. said.Wakes (record { 0 = c }) (those plan n (asked.Leaves (chan_queue c))))
    (signalled plan n)
said_of plan n t (Did step.Note) =
    option_map (λ r. said.Refused (record { 0 = r.0 }) (record { 0 = r.1 })
    (first_lock plan n t (sought.OfClass (record { 0 = r.1 })))) (refused_in plan n)
said_of plan n t (Did step.Gain) = None
said_of plan n t (Did step.Drop) = None
said_of plan n t (Did step.Mark) = None
said_of plan n t (Did step.Resume) = None
said_of plan n t (Did step.WalkEnd) = None
said_of plan n t Idle = None
said_of plan n t Ended = None

-- the sentence of a turn with the answer, where something is said
abbrev pub sentence_shown : Plan → ℕ → ℕ → Turn → List Sentence
sentence_shown plan n t answer =
    option_to_list (option_map (λ saying. record {
      turn = n;
      thread = record { 0 = t };
      saying = saying;
    }) (said_of plan n t answer))

-- 8. What the turns of a window show

-- what the turns show that lead from the first row to the last, one behind the other
abbrev pub in_turns : {A : Type 0} → (Plan → ℕ → ℕ → Turn → List A) → Plan → ℕ → ℕ → List A
in_turns shown plan first last =
    flat_map (λ n. of_some (λ turn. shown plan n turn.0 turn.1)
    (next_turn plan (course_after plan n))) (range_with_len first (last - first))
