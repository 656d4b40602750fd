-- The scheduled run: one thread of control gives the threads their turns, first by the plan's schedule and then in
-- rounds. A turn is the first action that fits, in the order of this file, and its steps are those of threads. Which
-- actions there are is this project's own.
use Rattle.std.specs.Prelude.{ℕ, zero, suc, ◌%◌, Bool, true, false, not, ◌&&◌, ◌||◌, nat_le, nat_lt, if◌then◌else◌, List, [], ◌∷◌, ◌++◌, unwrap_or, is_some, option_map, length, map, filter, flat_map, reverse, slice_get, Option, Some, None, take}
use Rattle.std.specs.List.{list_all, range_with_len}
use Rattle.std.specs.FinMap.{entries}
use Rattle.lock_model.specs.Plans.{config_of, operations_of}
use Rattle.lock_model.specs.Operations.{next_at, held_of, without_lock}
use Rattle.lock_model.specs.Counts.{any_below, is_empty}
use Rattle.lock_model.specs.Words.{admits, bits_of, is_plain, is_drop, is_turnstile, owner_of}
use Rattle.lock_model.specs.Config.{Config}
use Rattle.lock_state.specs.Steps.{Step, Looks, Gains, Drops, Stamps, Readies, Enters, Opens, EntersSleepQueue, OpensSleepQueue, Adds, Wakes, Marks, Resumes, Claims, Lends, Shifts, EndsWalk, Admits, Refuses, after_all}
use Rattle.lock_state.specs.Steps.LockWords.{bits_of_threads}
use Rattle.lock_state.specs.Steps.Orders.{classes_held}
use Rattle.lock_state.specs.State.{State, HeldLock, Wait, Running, Queued, Woken, Walk, NoWalk, AtLock, AtThread, start_state, put}
use Rattle.lock_model.specs.Holds.{Hold, NotHeld, Holds, is_unheld}
use Rattle.lock_model.specs.Queues.{Mark, lock_queue, chan_queue, stands, taken_off}
use Rattle.lock_model.specs.Events.{of_sleep, fell_asleep}
use Rattle.lock_model.specs.History.{tables_of, left_in}
use Rattle.lock_model.specs.Legal.{IsLegal}
use Rattle.lock_model.specs.Orders.{first_to_forbid}
use Rattle.lock_model.specs.Takes.{has_reversal}
use Rattle.lock_model.specs.Text.{Outcome, QueueLine, Ending, IsDone, IsStuck, IsReversed, IsTooLong}
use Rattle.lock_model.specs.declared.numbers.LockNo.{LockNo}
use Rattle.lock_model.specs.declared.numbers.ChanNo.{ChanNo}
use Rattle.lock_model.specs.declared.event.Entry.{Entry}
use Rattle.lock_model.specs.declared.plan.Mode.{Mode}
use Rattle.lock_model.specs.declared.plan.Mode.TheVariants.{Excl}
use Rattle.lock_model.specs.declared.plan.Op.{Op}
use Rattle.lock_model.specs.declared.plan.Op.TheVariants.{Take, Try, EndTry, Release, Set, Add as AddTo, Get, Base, Show, Sleep, WakeOne, WakeAll}
use Rattle.lock_model.specs.declared.plan.Plan.{Plan}
use Rattle.lock_model.specs.declared.plan.QueueName.{QueueName}
use Rattle.lock_model.specs.declared.plan.QueueName.TheVariants.{Lock, Chan}
use Rattle.lock_model.specs.declared.turn.StepKind.{StepKind}
use Rattle.lock_model.specs.declared.turn.StepKind.TheVariants.{Gain, Claim, Drop, Enter, OpenUp, Mark as Marked, Resume, Lend, Shift, WalkEnd, Add, Wake, Note}
use Rattle.lock_model.specs.declared.turn.Turn.{Turn}
use Rattle.lock_model.specs.declared.turn.Turn.TheVariants.{Did, Idle, Ended}
use Rattle.lock_model.specs.declared.event.Event.{Event}
use Rattle.lock_model.specs.declared.event.Held.{Held}
use Rattle.lock_model.specs.declared.event.Event.TheVariants as event

-- 1. Runs

-- a run between two turns: its state, and each thread's next operation
pub record Run : Type 0 where
  pub state : State
  pub next_op : ℕ → ℕ

-- every object at home, all locks free, and no operation made
abbrev pub start_run : Config → Run
start_run c = record { state = start_state c; next_op = λ t. 0 }

abbrev pub is_walking : Walk → Bool
is_walking NoWalk = false
is_walking (AtLock l) = true
is_walking (AtThread t) = true

-- the channel on which a thread waits, from its Sleeps entry on, until its wait is noted to be over
abbrev pub waits_on : List Entry → Option ℕ
waits_on [] = None
waits_on (e ∷ es) = fell_asleep (of_sleep e.event)

-- the lock of a thread's wait
abbrev pub lock_of_wait : Config → State → ℕ → Option ℕ
lock_of_wait c s t = option_map c.chan_lock (waits_on (s.log t))

-- the lock that a thread has yet to release after it went to sleep with it
abbrev pub to_release : (ℕ → Hold) → Option ℕ → Option ℕ
to_release held None = None
to_release held (Some l) = if is_unheld (held l) then None else Some l

abbrev pub owed_release : Config → State → ℕ → Option ℕ
owed_release c s t = to_release (s.held t) (lock_of_wait c s t)

-- a thread owes something while it has a walk, a marked list, or a release after a wait to make
abbrev pub owes : Config → State → ℕ → Bool
owes c s t =
    is_walking (s.walk t) || not (is_empty (s.marked t)) || is_some (owed_release c s t)

abbrev pub holds_none : Config → State → ℕ → Bool
holds_none c s t = not (any_below c.locks (λ l. not (is_unheld (s.held t l))))

-- whether a thread was cut: a take of it was refused, and its operations from there on are not made
abbrev pub was_cut : State → ℕ → Bool
was_cut s t = has_reversal (s.log t)

-- what a thread's operations so far lead to, in order of gaining
abbrev pub held_before : Plan → Run → ℕ → List Held
held_before plan r t = held_of (operations_of plan t) (r.next_op t)

-- the same without a lock that is not held
abbrev pub without_unheld : (ℕ → Hold) → Option ℕ → List Held → List Held
without_unheld held None hs = hs
without_unheld held (Some l) hs = if is_unheld (held l) then without_lock l hs else hs

-- what a thread holds now: what its operations so far lead to, but for the lock of its wait, from its release until it
-- is taken back. One that was cut holds the first of them, as many as it has left
abbrev pub held_now : Plan → Run → ℕ → List Held
held_now plan r t =
    if was_cut r.state t
    then take (length (r.state.held_locks t)) (held_before plan r t)
    else without_unheld (r.state.held t) (lock_of_wait (config_of plan) r.state t)
    (held_before plan r t)

-- a thread has ended where all its operations are done or cut, nothing is owed and nothing is held
unfoldable pub has_ended : Plan → Run → ℕ → Bool
has_ended plan r t =
    (nat_le (length (operations_of plan t)) (r.next_op t) || was_cut r.state t)
    && not (owes (config_of plan) r.state t)
    && holds_none (config_of plan) r.state t

-- 2. The actions of turns

-- what a thread does in its turn: the answer, its steps in order, and with which operation it goes on behind them,
-- where that changes
pub record Action : Type 0 where
  pub answer : Turn
  pub steps : List Step
  pub next : Option ℕ

-- a turn that does nothing
abbrev pub nothing : Turn → Action
nothing answer = record { answer = answer; steps = []; next = None }

-- a turn behind which the thread's operation is still to make
abbrev pub does : StepKind → List Step → Action
does kind steps = record { answer = Did kind; steps = steps; next = None }

-- a turn that ends the thread's operation
abbrev pub ends : Run → ℕ → StepKind → List Step → Action
ends r t kind steps = record { answer = Did kind; steps = steps; next = Some (suc (r.next_op t)) }

-- a walk at a lock: it lends where the lock's word has an exclusive owner and a turnstile stands there, and else it
-- ends
abbrev pub walks_at_lock : ℕ → ℕ → Option ℕ → Option ℕ → Action
walks_at_lock t l (Some o) (Some h) = does Lend (Lends t l o h ∷ [])
walks_at_lock t l (Some o) None = does WalkEnd (EndsWalk t ∷ [])
walks_at_lock t l None h = does WalkEnd (EndsWalk t ∷ [])

-- a walk at a thread: it sorts the thread anew where that stands on a turnstile, and else it ends
abbrev pub walks_at_thread : Config → Run → ℕ → ℕ → Option QueueName → Action
walks_at_thread c r t o (Some (Lock l)) =
    if is_turnstile (c.kind l.0) && nat_lt 0 (stands o (r.state.lists (lock_queue l.0)))
    then does Shift (Shifts t o l.0 ∷ [])
    else does WalkEnd (EndsWalk t ∷ [])
walks_at_thread c r t o (Some (Chan d)) = does WalkEnd (EndsWalk t ∷ [])
walks_at_thread c r t o None = does WalkEnd (EndsWalk t ∷ [])

-- a thread is made ready and enters the lock's queue with the turnstile or the sleep queue that it has at home
abbrev pub blocks : Config → Run → ℕ → LockNo → Mode → Action
blocks c r t l mode =
    does Enter (Readies t (Lock l)
    ∷ (if is_turnstile (c.kind l.0)
    then Enters t l.0 mode (unwrap_or (r.state.turnstile t) t)
    else EntersSleepQueue t l.0 mode (unwrap_or (r.state.sleep_queue t) t)) ∷ [])

-- A thread gains a lock whose word admits the mode, and notes it. An exclusive gain of an rw lock whose word shows
-- waiters is a claim: the thread becomes the owner of their turnstile.
abbrev pub gains : Config → Run → ℕ → LockNo → Mode → Bool → Event → Action
gains c r t l mode by_try noted =
    if is_plain (c.kind l.0) (r.state.word l.0) mode
    then ends r t Gain (Gains t l.0 mode by_try ∷ Stamps t noted ∷ [])
    else ends r t Claim (Claims t l.0 (unwrap_or (r.state.head (lock_queue l.0)) t) by_try
    ∷ Stamps t noted ∷ [])

-- A take gains the lock where the word admits the mode; else the thread blocks, and takes again when it has been woken.
abbrev pub takes : Config → Run → ℕ → LockNo → Mode → Event → Action
takes c r t l mode noted =
    if admits (c.kind l.0) (r.state.word l.0) mode
    then gains c r t l mode false noted
    else blocks c r t l mode

-- A take's first turn checks the order of its lock behind those that the thread holds. Where the class of one of them
-- forbids that of the lock, the refusal is noted with the first class that does, and the thread is cut. Else the lock
-- is admitted, and taken from that turn on.
abbrev pub begins_take : Config → Run → ℕ → LockNo → Mode → Option ℕ → Action
begins_take c r t l mode (Some k) =
    does Note (Refuses t l.0 k ∷ Stamps t (event.Reversed l (record { 0 = k })) ∷ [])
begins_take c r t l mode None =
    record (takes c r t l mode (event.Locked l mode)) {
      steps = Admits t l.0 ∷ (takes c r t l mode (event.Locked l mode)).steps;
    }

-- it is the first where the lock isn't wanted yet
abbrev pub takes_in_order : Config → Run → ℕ → LockNo → Mode → Option ℕ → Action
takes_in_order c r t l mode None =
    begins_take c r t l mode
    (first_to_forbid r.state.edges (classes_held c r.state t) (c.class l.0))
takes_in_order c r t l mode (Some k) = takes c r t l mode (event.Locked l mode)

-- a try that the word doesn't admit notes the word that it saw, and the thread goes on behind the block
abbrev pub finds_busy : Run → ℕ → LockNo → ℕ → Action
finds_busy r t l past = record {
  answer = Did Note;
  steps = Looks t l.0 false ∷ Stamps t (event.Busy l (bits_of (r.state.word l.0))) ∷ [];
  next = Some past;
}

-- a try gains the lock where the word admits the mode, and else finds it busy; it never blocks
abbrev pub tries : Config → Run → ℕ → LockNo → Mode → ℕ → Action
tries c r t l mode past =
    if admits (c.kind l.0) (r.state.word l.0) mode
    then gains c r t l mode true (event.Tried l mode)
    else finds_busy r t l past

-- the mode in which a lock is held, exclusive where it isn't
abbrev pub mode_held : Hold → Mode
mode_held NotHeld = Excl
mode_held (Holds mode) = mode

-- a release: a drop or an open, with its answer
abbrev pub gives_back : Config → Run → ℕ → ℕ → Mode → StepKind × Step
gives_back c r t l mode =
    if is_drop (r.state.word l) then (Drop, Drops t l mode) else (
      OpenUp,
      if is_turnstile (c.kind l) then Opens t l mode else OpensSleepQueue t l mode,
    )

-- an operation that releases notes it
abbrev pub releases : Config → Run → ℕ → LockNo → Mode → Action
releases c r t l mode =
    let back = gives_back c r t l.0 mode in
    ends r t back.0 (Stamps t (event.Unlocked l mode) ∷ back.1 ∷ [])

-- A thread that was cut gives back the lock that it gained last, and notes it. One that holds nothing any more has
-- ended.
abbrev pub gives_last_back : Config → Run → ℕ → List HeldLock → Action
gives_last_back c r t [] = nothing Idle
gives_last_back c r t (h ∷ hs) =
    let mode = mode_held (r.state.held t h.lock) in
    let back = gives_back c r t h.lock mode in
    does back.0 (Stamps t (event.Unlocked (record { 0 = h.lock }) mode) ∷ back.1 ∷ [])

-- a thread that has gone to sleep releases the lock of its wait, without an entry
abbrev pub gives_up : Config → Run → ℕ → ℕ → Action
gives_up c r t l =
    let back = gives_back c r t l (mode_held (r.state.held t l)) in
    does back.0 (back.1 ∷ [])

-- A wait's first turn: the thread is made ready, notes it, and stands on the channel's queue. Once it has been woken
-- and runs again, it takes the lock back in the mode in which it held it, without a check of its order, and notes
-- that.
abbrev pub sleeps : Config → Run → ℕ → ChanNo → Option ℕ → Action
sleeps c r t d None =
    does Add (Readies t (Chan d) ∷ Stamps t (event.Sleeps d)
    ∷ Adds t d.0 (unwrap_or (r.state.sleep_queue t) t) ∷ [])
sleeps c r t d (Some e) =
    takes c r t (record { 0 = c.chan_lock d.0 })
    (mode_held (left_in c r.state.history t (c.chan_lock d.0))) (event.Woke d)

-- a wake takes sleepers off the channel, the best or all, and notes who they are
abbrev pub wakes : Run → ℕ → ChanNo → Bool → (ℕ → Event) → Action
wakes r t d all noted =
    let taken = taken_off all (r.state.lists (chan_queue d.0)).exclusive in
    ends r t Wake (Wakes t d.0 all
    ∷ Stamps t (noted (bits_of_threads (map (λ w. w.thread) taken))) ∷ [])

-- an operation that only makes an entry
abbrev pub notes : Run → ℕ → Event → Action
notes r t e = ends r t Note (Stamps t e ∷ [])

-- A running thread makes its operation. No thread is at an endtry; and a thread without an operation that hasn't ended
-- holds a lock still, as no thread of a script does.
abbrev pub operates : Config → Run → ℕ → Option Op → Action
operates c r t None = nothing Idle
operates c r t (Some (Take l mode)) = takes_in_order c r t l mode (r.state.wanted t)
operates c r t (Some (Try l mode past)) = tries c r t l mode past
operates c r t (Some EndTry) = nothing Idle
operates c r t (Some (Release l)) = releases c r t l (mode_held (r.state.held t l.0))
operates c r t (Some (Set l key value)) = notes r t (event.Set l key value)
operates c r t (Some (AddTo l key amount)) = notes r t (event.Added l key amount)
operates c r t (Some (Get l key)) = notes r t (event.Got l key (r.state.table l.0 key))
operates c r t (Some (Base prio)) = notes r t (event.Base prio)
operates c r t (Some Show) =
    notes r t (event.Shown (record { 0 = r.state.base t }) (record { 0 = r.state.effective t }))
operates c r t (Some (Sleep d)) = sleeps c r t d (waits_on (r.state.log t))
operates c r t (Some (WakeOne d)) = wakes r t d false (event.WokeOne d)
operates c r t (Some (WakeAll d)) = wakes r t d true (event.WokeAll d)

-- a queued thread is idle, a woken one runs again, and a running one makes its operation, or gives back what it holds
-- where it was cut
abbrev pub by_wait : Plan → Run → ℕ → Wait → Action
by_wait plan r t Queued = nothing Idle
by_wait plan r t (Woken q cause) = does Resume (Resumes t q cause ∷ [])
by_wait plan r t Running =
    if was_cut r.state t
    then gives_last_back (config_of plan) r t (r.state.held_locks t)
    else operates (config_of plan) r t (slice_get (operations_of plan t) (r.next_op t))

-- a release after a wait goes before the wait word
abbrev pub by_release : Plan → Run → ℕ → Option ℕ → Action
by_release plan r t (Some l) = gives_up (config_of plan) r t l
by_release plan r t None = by_wait plan r t (r.state.wait t)

-- the first of a marked list gets its object back and is woken
abbrev pub by_marked : Plan → Run → ℕ → List Mark → Action
by_marked plan r t (m ∷ ms) = does Marked (Marks t m ms ∷ [])
by_marked plan r t [] = by_release plan r t (owed_release (config_of plan) r.state t)

-- a walk goes before the marked list
abbrev pub by_walk : Plan → Run → ℕ → Walk → Action
by_walk plan r t (AtLock l) =
    walks_at_lock t l (owner_of (r.state.word l).holder) (r.state.head (lock_queue l))
by_walk plan r t (AtThread o) = walks_at_thread (config_of plan) r t o (r.state.blocked_on o)
by_walk plan r t NoWalk = by_marked plan r t (r.state.marked t)

-- a turn of a thread: the first action that fits
unfoldable pub turn_of : Plan → Run → ℕ → Action
turn_of plan r t = if has_ended plan r t then nothing Ended else by_walk plan r t (r.state.walk t)

-- the threads' next operations, where that of one changes; endtrys are skipped
abbrev pub next_ops : List Op → (ℕ → ℕ) → ℕ → Option ℕ → ℕ → ℕ
next_ops ops next_op t None = next_op
next_ops ops next_op t (Some n) = put next_op t (next_at ops n)

-- the run behind an action
abbrev pub run_after : Plan → Run → ℕ → Action → Run
run_after plan r t action = record {
  state = after_all (config_of plan) r.state action.steps;
  next_op = next_ops (operations_of plan t) r.next_op t action.next;
}

-- the run behind a thread's turn
unfoldable pub run_behind : Plan → Run → ℕ → Run
run_behind plan r t = run_after plan r t (turn_of plan r t)

-- the run after a list of turns, the last of them first
unfoldable pub after_turns : Plan → List ℕ → Run
after_turns plan [] = start_run (config_of plan)
after_turns plan (t ∷ turns) = run_behind plan (after_turns plan turns) t

-- 3. Who has the next turn

-- the numbers of the plan's threads
abbrev pub threads_of : Plan → List ℕ
threads_of plan = range_with_len 0 (length plan.threads)

abbrev pub all_ended : Plan → Run → Bool
all_ended plan r = list_all (has_ended plan r) (threads_of plan)

-- a round goes over the threads that haven't ended, by number
abbrev pub round_of : Plan → Run → List ℕ
round_of plan r = filter (λ t. not (has_ended plan r t)) (threads_of plan)

-- A run under way: who still comes in the schedule or in this round, and whether this is a round whose turns were all
-- idle so far.
pub record Course : Type 0 where
  pub run : Run
  pub coming : List ℕ
  pub idle : Bool

-- the schedule comes first
abbrev pub start_course : Plan → Course
start_course plan =
    record { run = start_run (config_of plan); coming = map (λ t. t.0) plan.schedule; idle = false }

-- whether a whole round was idle
abbrev pub is_stuck : Course → Bool
is_stuck k = is_empty k.coming && k.idle

abbrev pub is_idle : Turn → Bool
is_idle Idle = true
is_idle Ended = false
is_idle (Did kind) = false

-- the first that comes has its turn
abbrev pub with_turn : Plan → Run → List ℕ → Bool → Course
with_turn plan r [] idle = record { run = r; coming = []; idle = idle }
with_turn plan r (t ∷ ts) idle =
    record {
      run = run_behind plan r t;
      coming = ts;
      idle = idle
          && is_idle (turn_of plan r t).answer;
    }

-- where nobody comes any more, a round begins
abbrev pub after_turn : Plan → Course → List ℕ → Course
after_turn plan k [] = with_turn plan k.run (round_of plan k.run) true
after_turn plan k (t ∷ ts) = with_turn plan k.run (t ∷ ts) k.idle

-- the run has come to its end: all threads have ended, or a whole round was idle
abbrev pub is_over : Plan → Course → Bool
is_over plan k = all_ended plan k.run || is_stuck k

-- one turn more, save where the run has come to its end
abbrev pub go_on : Plan → Course → Course
go_on plan k = if is_over plan k then k else after_turn plan k k.coming

-- the turn of the first of those who come: who it is, and the answer
abbrev pub first_turn : Plan → Run → List ℕ → Option (ℕ × Turn)
first_turn plan r [] = None
first_turn plan r (t ∷ ts) = Some (t, (turn_of plan r t).answer)

-- the next turn of a course, of those who still come and behind them those of the next round; none where it is over
abbrev pub next_turn : Plan → Course → Option (ℕ × Turn)
next_turn plan k =
    if is_over plan k then None else first_turn plan k.run (k.coming ++ round_of plan k.run)

-- the run after a number of turns, or at its end where that comes first
unfoldable pub course_after : Plan → ℕ → Course
course_after plan zero = start_course plan
course_after plan (suc n) = go_on plan (course_after plan n)

-- 4. What is printed

-- where all threads have ended: Reversed where a refusal is in the history, and else Done
abbrev pub whole_ending : List Entry → Ending
whole_ending history = if has_reversal history then IsReversed else IsDone

-- so where all threads have ended; Stuck where a whole round was idle, and else the turns were used up
abbrev pub ending_of : Plan → Course → Ending
ending_of plan k =
    if all_ended plan k.run
    then whole_ending k.run.state.history
    else (if is_stuck k then IsStuck else IsTooLong)

-- whether a run ended stuck or too long
abbrev pub is_cut_short : Ending → Bool
is_cut_short IsDone = false
is_cut_short IsStuck = true
is_cut_short IsReversed = false
is_cut_short IsTooLong = true

-- the line of a queue that has a head, with its slot: the number of its lock or channel modulo the number of chains
abbrev pub line_of_queue : ℕ → State → QueueName → ℕ → Option ℕ → List QueueLine
line_of_queue chains s q n None = []
line_of_queue chains s q n (Some h) = record {
  queue = q;
  slot = n % chains;
  head = h;
  free = s.free_list q;
  exclusive = (s.lists q).exclusive;
  shared = (s.lists q).shared;
} ∷ []

-- those of the locks by number, and then those of the channels
abbrev pub queue_lines : ℕ → Config → State → List QueueLine
queue_lines chains c s =
    flat_map (λ l. line_of_queue chains s (lock_queue l) l (s.head (lock_queue l)))
    (range_with_len 0 c.locks)
    ++ flat_map (λ d. line_of_queue chains s (chan_queue d) d (s.head (chan_queue d)))
    (range_with_len 0 c.chans)

-- what is printed of a run; the chains enter the slots alone
abbrev pub outcome_of : Plan → ℕ → Course → Outcome
outcome_of plan chains k = record {
  history = reverse k.run.state.history;
  queues = queue_lines chains (config_of plan) k.run.state;
  finals = map (λ t. (k.run.state.base t, k.run.state.effective t)) (threads_of plan);
  tables = entries (tables_of k.run.state.history);
  ending = ending_of plan k;
}

-- what is printed has a legal history, and a whole one unless the run ended stuck or too long
abbrev pub HasLegalHistory : Plan → Outcome → Type 0
HasLegalHistory plan o = IsLegal plan false (is_cut_short o.ending) (reverse o.history)

-- the scheduled run of a plan with so many chains, and at most so many turns
unfoldable pub scheduled_run : Plan → ℕ → ℕ → Outcome
scheduled_run plan chains turns = outcome_of plan chains (course_after plan turns)
