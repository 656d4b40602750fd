-- Each step of a turn of a proper plan's thread may be made, and the turn leaves the run on track. So each run is on
-- track, and each of its states is one that steps reach.
use Rattle.run_laws.proofs.Names
use Names.{ℕ, zero, suc, Bool, true, false, not, cond, List, [], length, All, refl, arith, subst, range_with_len}
use Names.{All-nil, All-cons, All-head, All-tail, All-map, All-filter, config_of, IsProper, Config, sections_in}
use Names.{HaltsOnlyWhenRunning, leads_nowhere, State, start_state, Admits, MayAll, IsReachable, begins, MayAdmit}
use Names.{NothingIsOut, QueuedStands, Run, Action, Course, start_run, nothing, turn_of, run_behind, after_turns}
use Names.{course_after, has_ended, round_of, threads_of, with_turn, after_turn, go_on, is_over, Plan, LockNo, Turn}
use Names.{Idle, Ended, IsOnTrack, admitted, nobody, all_reach, sleepers_begin, orders_begin, takes_begin}
use Rattle.std.proofs.Common.{◌≡◌, ◌+◌, ◌<◌, ◌≤◌, ◌∷◌}
use Rattle.lock_laws.proofs.StateAtStart as start
use Rattle.run_laws.proofs.Follows.{led}
use Rattle.run_laws.proofs.KeepingOrder.{action_keeps_order}
use Rattle.run_laws.proofs.OnTrack.{KeepsTrack, none_unnoted, is_there, stays_on_track}
use Rattle.run_laws.proofs.Actions as actions
use Rattle.run_laws.proofs.TurnsOfWalks as walks
use Rattle.run_laws.proofs.TurnsOfWaits as waits
use Rattle.run_laws.proofs.TurnsOfGains as gains
use Rattle.run_laws.proofs.TurnsOfReleases as releases
use Rattle.run_laws.proofs.TurnsOfNotes as noting
use Rattle.run_laws.proofs.TurnsOfSleeps as sleeping
use Rattle.run_laws.proofs.TurnsOfOrders as orders
use Rattle.run_laws.proofs.OtherThreads.{own_steps}

-- 1. The begin

nothing_out : (c : Config) → NothingIsOut (start_state c).turnstile_chain_with (start_state c).sleep_chain_with
    (start_state c).record_with (start_state c).cell_with (start_state c).graph_with
unfolding start_state NothingIsOut
nothing_out c e = grind arith

pub begins_on_track : (plan : Plan) → IsProper plan → IsOnTrack plan (start_run (config_of plan))
unfolding start_state sections_in QueuedStands HaltsOnlyWhenRunning
begins_on_track plan p = record {
  lawful = record {
    lawful = start.lawful (config_of plan);
    nothing_out = nothing_out (config_of plan);
    queued_stands = λ t e. absurd cc;
  };
  sleepers = sleepers_begin nobody (config_of plan);
  halted = refl;
  no_halts = tt;
  within = λ t. omega arith;
  no_endtry = λ t e. let b = (p.fits t).endtries 0 e in absurd (omega (arith, b.before));
  follows = λ t. leads_nowhere;
  waiting = λ t d e. absurd cc;
  holds = λ t l. refl;
  listed = λ t. refl;
  left = λ t l e. absurd cc;
  sections = λ t l. refl;
  begun = λ t l n. absurd (n refl);
  wants = λ t l e. absurd cc;
  wants_unheld = λ t l e. absurd cc;
  cut_wants_nothing = λ t e. refl;
  back_wants = λ t d e runs. absurd cc;
  taking = λ t. refl;
  unnoted = λ t. refl;
  ordered = orders_begin (config_of plan);
  taken = takes_begin (config_of plan);
  walks = λ t l e. absurd cc;
}

-- 2. A turn, action by action

-- the action's steps may be made, and they keep the run on track
record IsMade (plan : Plan) (r : Run) (t : ℕ) (action : Action) : Type 0 where
  may : MayAll (config_of plan) r.state action.steps
  keeps : KeepsTrack plan r t action

-- a turn that does nothing
unmoved : (plan : Plan) (r : Run) (t : ℕ) (answer : Turn) → IsOnTrack plan r → IsMade plan r t (nothing answer)
unmoved plan r t answer k = record {
  may = tt;
  keeps = record {
    asks = tt;
    out = k.lawful.nothing_out;
    stands = k.lawful.queued_stands;
    noted = none_unnoted plan r t k;
    no_halts = k.no_halts;
    there = is_there plan r t k;
    back = k.back_wants t;
  };
}

acquired : (plan : Plan) (r : Run) (t : ℕ) (action : Action) → IsProper plan → IsOnTrack plan r
    → t < length plan.threads → actions.Acquires plan r t action → IsMade plan r t action
acquired plan r t _ p k lt (actions.gains by i a f) =
    record { may = gains.may_gain_all plan r t p k lt by i a f; keeps = gains.gained_keeps plan r t p k lt by i }
acquired plan r t _ p k lt (actions.claims by i a f) =
    record { may = gains.may_claim_all plan r t p k lt by i a f; keeps = gains.claimed_keeps plan r t p k lt by i a f }
acquired plan r t _ p k lt (actions.enters by i a stands) =
    record {
      may = gains.may_enter_all plan r t p k lt by i a stands;
      keeps = gains.entered_keeps plan r t p k lt by i stands;
    }

-- an action behind an admission
admitted_first : (plan : Plan) (r : Run) (t : ℕ) (l : LockNo) (action : Action)
    → MayAdmit (config_of plan) r.state t l.0 → IsMade plan (admitted plan r t l) t action
    → IsMade plan r t (record action { steps = Admits t l.0 ∷ action.steps })
admitted_first plan r t l action may m = grind arith

module _ (plan : Plan) (r : Run) (t : ℕ) (p : IsProper plan) (k : IsOnTrack plan r) (lt : t < length plan.threads) where
  abbrev c : Config
  c = config_of plan

  abbrev s : State
  s = r.state

  made : (action : Action) → actions.Fits plan r t action → IsMade plan r t action
  made _ (actions.is_over e) = unmoved plan r t Ended k
  made _ (actions.lends l o h w e f) =
      record { may = (walks.may_lend plan r t p k lt l o h w e f, tt); keeps = walks.lent plan r t p k lt l o h }
  made _ (actions.ends_at_lock l w e) =
      record { may = (walks.may_end_at_lock plan r t p k lt l w e, tt); keeps = walks.walk_ended plan r t p k lt }
  made _ (actions.shifts o l w e f) =
      record { may = (walks.may_shift plan r t p k lt o l w e f, tt); keeps = walks.shifted plan r t p k lt o l.0 }
  made _ (actions.ends_at_thread o w f) =
      record { may = (walks.may_end_at_thread plan r t p k lt o w f, tt); keeps = walks.walk_ended plan r t p k lt }
  made _ (actions.marks m ms w e) =
      record { may = (waits.may_mark plan r t k lt m ms e, tt); keeps = waits.marked plan r t k lt m ms }
  made _ (actions.gives_up {l} w u e back) =
      record {
        may = releases.may_give_up_all plan r t p k lt l u e back;
        keeps = releases.gave_up_keeps plan r t p k lt l u e back;
      }
  made _ (actions.is_queued e f i) = unmoved plan r t Idle k
  made _ (actions.resumes q cause f e) =
      record { may = (waits.may_resume plan r t k lt q cause f e, tt); keeps = waits.resumed plan r t k lt q cause f e }
  made action (actions.acquires a) = acquired plan r t action p k lt a
  made _ (actions.is_admitted {l} {mode} {action} b e a) =
      let found = orders.found_admitted plan r t l mode p k lt b e in
      admitted_first plan r t l action (orders.may_admit plan r t l mode p k lt b found)
      (acquired plan (admitted plan r t l) t action p (orders.admitted_on_track plan r t l mode p k lt b found) lt
      a)
  made _ (actions.is_refused {l} {mode} class b e) =
      record {
        may = orders.may_refuse_all plan r t l mode p k lt b class e;
        keeps = orders.refused_keeps plan r t l mode p k lt b class e;
      }
  made _ (actions.finds_busy l mode past i e) =
      record {
        may = gains.may_find_busy_all plan r t p k lt l mode past i e;
        keeps = gains.found_busy_keeps plan r t p k lt l mode past i;
      }
  made _ (actions.releases l i back) =
      record {
        may = releases.may_release_all plan r t p k lt l i back;
        keeps = releases.released_keeps plan r t p k lt l i back;
      }
  made _ (actions.sleeps d i e) =
      record { may = sleeping.may_sleep_all plan r t p k lt d i e; keeps = sleeping.slept_keeps plan r t p k lt d i e }
  made _ (actions.wakes d by i) =
      record { may = sleeping.may_wake_all plan r t p k lt d by i; keeps = sleeping.woke_keeps plan r t p k lt d by i }
  made _ (actions.makes_entry op e i n) =
      let noted = noting.is_noted plan r t p k lt op e n i in
      record {
        may = noting.may_note_all plan r t p k lt i.running noted;
        keeps = noting.noted_keeps plan r t p k lt i noted;
      }
  made _ (actions.gives_last_back h hs i e back) =
      record {
        may = releases.may_give_last_all plan r t p k lt h hs i e back;
        keeps = releases.gave_last_keeps plan r t p k lt h hs i e back;
      }
  made _ (actions.has_nothing_left e i f) = unmoved plan r t Idle k
  made _ (actions.has_no_operation e i) = unmoved plan r t Idle k
  made _ (actions.is_at_endtry i) = unmoved plan r t Idle k

  turn_made : IsMade plan r t (turn_of plan r t)
  turn_made = made (turn_of plan r t) (actions.fits plan r t)

  pub may_all : MayAll c s (turn_of plan r t).steps
  may_all = turn_made.may

  pub turned : IsOnTrack plan (run_behind plan r t)
  unfolding run_behind
  turned =
      let action = turn_of plan r t in
      let fits = actions.fits plan r t in
      stays_on_track plan r t action k may_all (action_keeps_order plan r t action p k lt fits)
      (own_steps plan r t action fits) turn_made.keeps (led plan r t action p k lt fits)

pub turns_may : (plan : Plan) (r : Run) (t : ℕ) → IsProper plan → IsOnTrack plan r → t < length plan.threads
    → MayAll (config_of plan) r.state (turn_of plan r t).steps
turns_may plan r t p k lt = may_all plan r t p k lt

-- so may those of the action that it is
pub action_may : (plan : Plan) (r : Run) (t : ℕ) (action : Action) → IsProper plan → IsOnTrack plan r
    → t < length plan.threads → turn_of plan r t ≡ action → MayAll (config_of plan) r.state action.steps
action_may plan r t action p k lt e =
    subst (λ (x : Action). MayAll (config_of plan) r.state x.steps) e (turns_may plan r t p k lt)

pub stays : (plan : Plan) (r : Run) (t : ℕ) → IsProper plan → IsOnTrack plan r → t < length plan.threads
    → IsOnTrack plan (run_behind plan r t)
stays plan r t p k lt = turned plan r t p k lt

-- 3. Runs

-- a run on track whose state steps reach
pub record IsReached (plan : Plan) (r : Run) : Type 0 where
  pub on_track : IsOnTrack plan r
  pub reachable : IsReachable (config_of plan) r.state

pub start_reached : (plan : Plan) → IsProper plan → IsReached plan (start_run (config_of plan))
start_reached plan p = record { on_track = begins_on_track plan p; reachable = begins }

pub turn_reached : (plan : Plan) (r : Run) (t : ℕ) → IsProper plan → IsReached plan r → t < length plan.threads
    → IsReached plan (run_behind plan r t)
unfolding run_behind
turn_reached plan r t p h lt = record {
  on_track = stays plan r t p h.on_track lt;
  reachable =
      all_reach (config_of plan) r.state (turn_of plan r t).steps (turns_may plan r t p h.on_track lt) h.reachable;
}

abbrev pub AreThreads : Plan → List ℕ → Type 0
AreThreads plan ts = All (λ t. t < length plan.threads) ts

turns_reached : (plan : Plan) (turns : List ℕ) → IsProper plan → AreThreads plan turns
    → IsReached plan (after_turns plan turns)
unfolding after_turns
turns_reached plan [] p a = start_reached plan p
turns_reached plan (t ∷ turns) p a =
    turn_reached plan (after_turns plan turns) t p
    (turns_reached plan turns p (All-tail (λ t. t < length plan.threads) t turns a))
    (All-head (λ t. t < length plan.threads) t turns a)

pub behind_turns : (plan : Plan) (turns : List ℕ) → IsProper plan → AreThreads plan turns
    → IsOnTrack plan (after_turns plan turns)
behind_turns plan turns p a = (turns_reached plan turns p a).on_track

pub turns_reachable : (plan : Plan) (turns : List ℕ) → IsProper plan → AreThreads plan turns
    → IsReachable (config_of plan) (after_turns plan turns).state
turns_reachable plan turns p a = (turns_reached plan turns p a).reachable

-- a course whose run is, and in which threads of the plan come
pub record IsOnCourse (plan : Plan) (k : Course) : Type 0 where
  pub reached : IsReached plan k.run
  pub coming : AreThreads plan k.coming

below : (a n m : ℕ) → a + n ≤ m → All (λ t. t < m) (range_with_len a n)
below a zero m i = All-nil (λ t. t < m)
below a (suc n) m i = All-cons (λ t. t < m) a (range_with_len (a + 1) n) (omega arith) (below (a + 1) n m (omega arith))

round_below : (plan : Plan) (r : Run) → AreThreads plan (round_of plan r)
round_below plan r = All-filter (λ t. not (has_ended plan r t)) (λ t. t < length plan.threads) (threads_of plan)
    (below 0 (length plan.threads) (length plan.threads) (omega arith))

with_turn_on : (plan : Plan) (r : Run) (ts : List ℕ) (idle : Bool) → IsProper plan → IsReached plan r
    → AreThreads plan ts → IsOnCourse plan (with_turn plan r ts idle)
with_turn_on plan r [] idle p h a = record { reached = h; coming = a }
with_turn_on plan r (t ∷ ts) idle p h a = record {
  reached = turn_reached plan r t p h (All-head (λ t. t < length plan.threads) t ts a);
  coming = All-tail (λ t. t < length plan.threads) t ts a;
}

after_turn_on : (plan : Plan) (k : Course) (ts : List ℕ) → IsProper plan → IsReached plan k.run → AreThreads plan ts
    → IsOnCourse plan (after_turn plan k ts)
after_turn_on plan k [] p h a = with_turn_on plan k.run (round_of plan k.run) true p h (round_below plan k.run)
after_turn_on plan k (t ∷ ts) p h a = with_turn_on plan k.run (t ∷ ts) k.idle p h a

go_on_on : (plan : Plan) (k : Course) → IsProper plan → IsOnCourse plan k → IsOnCourse plan (go_on plan k)
go_on_on plan k p h = go (is_over plan k)
  where
    go : (b : Bool) → IsOnCourse plan (cond b k (after_turn plan k k.coming))
    go true = h
    go false = after_turn_on plan k k.coming p h.reached h.coming

pub on_course : (plan : Plan) (n : ℕ) → IsProper plan → IsOnCourse plan (course_after plan n)
unfolding course_after
on_course plan zero p = record {
  reached = start_reached plan p;
  coming = All-map (λ t. t < length plan.threads) (λ t. t.0) plan.schedule p.schedule;
}
on_course plan (suc n) p = go_on_on plan (course_after plan n) p (on_course plan n p)

pub behind_course : (plan : Plan) (n : ℕ) → IsProper plan → IsOnTrack plan (course_after plan n).run
behind_course plan n p = (on_course plan n p).reached.on_track

pub courses_reachable : (plan : Plan) (n : ℕ) → IsProper plan
    → IsReachable (config_of plan) (course_after plan n).run.state
courses_reachable plan n p = (on_course plan n p).reached.reachable
