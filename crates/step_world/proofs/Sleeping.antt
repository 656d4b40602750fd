-- Whoever sleeps does so until somebody wakes it: another thread's turn leaves it asleep, save the one that gives it
-- its object back. And a world's threads sleep alike in all runs that it represents.
use Rattle.step_world.proofs.Names
use Names.{ℕ, length, List, [], option_map, slice_get, Option, Some, None, IsSomeAnd, refl, sym, ap, ap₂, ⊤, Config}
use Names.{config_of, IsProper, Hold, Mark, Entry, Plan, State, Running, Queued, Woken, Step, Readies, Unreadies, Marks}
use Names.{Resumes, after, after_all, maker, after_take, after_give, after_seek, after_look, after_gain, after_drop}
use Names.{after_stamp, after_ready, after_unready, after_enter, after_open, after_mark, after_resume}
use Names.{after_enter_sleep, after_open_sleep, after_add, after_wake, after_abort, after_claim, after_lend}
use Names.{after_shift, after_end_walk, after_admit, after_refuse, after_count_out, after_count_in, after_count_self_in}
use Names.{after_count_end, after_halt, Run, Action, turn_of, run_behind, has_ended, to_release, waits_on, put_other}
use Names.{IsSleeping, admitted, own_steps, ends_no_other, AllBy, all_leave, Thread, thread_in, IsAsFar, progress_of}
use Names.{World, Represents}
use Rattle.std.proofs.Common.{◌≡◌, ◌≢◌, ◌<◌, ◌∷◌, ◌∙◌}
use Rattle.run_laws.proofs.Actions as actions
use Rattle.step_world.proofs.Ends.{ends_as_said}

-- 1. Steps

-- by the step the thread doesn't have its object back
abbrev WakesNot : ℕ → Step → Type 0
WakesNot u (Marks t m ms) = m.thread ≡ u → ⊥
WakesNot u other = ⊤

abbrev NoneWakes : ℕ → List Step → Type 0
NoneWakes u [] = ⊤
NoneWakes u (step ∷ steps) = WakesNot u step × NoneWakes u steps

module _ (c : Config) (u : ℕ) where
  -- such a step of another thread leaves what its wait word says,
  waits_still : (s : State) (step : Step) → (maker step ≡ u → ⊥) → WakesNot u step → (after c s step).wait u ≡ s.wait u
  unfolding after_seek after_look after_take after_give after_gain after_drop after_stamp after_ready after_unready
      after_enter after_open after_mark after_resume after_enter_sleep after_open_sleep after_add after_wake after_claim
      after_lend after_shift after_end_walk after_admit after_refuse after_count_out after_count_in after_count_self_in
      after_count_end after_halt after_abort
  waits_still s (Readies t q) ne w = put_other s.wait t Queued u ne
  waits_still s (Unreadies t q) ne w = put_other s.wait t Running u ne
  waits_still s (Marks t m ms) ne w = put_other s.wait m.thread (Woken m.queue m.cause) u w
  waits_still s (Resumes t q cause) ne w = put_other s.wait t Running u ne
  waits_still s other ne w = refl

  -- and so do such steps
  all_wait_still : (t : ℕ) (s : State) (steps : List Step) → (t ≡ u → ⊥) → AllBy t steps → NoneWakes u steps
      → (after_all c s steps).wait u ≡ s.wait u
  all_wait_still t s [] ne by w = refl
  all_wait_still t s (step ∷ steps) ne by w =
      all_wait_still t (after c s step) steps ne by.1 w.1
      ∙ waits_still s step (λ e. ne (sym (ap (λ p. p.0) by.0) ∙ e)) w.0

-- 2. Actions

-- it isn't the one that the thread wakes next
abbrev pub WakesNotNext : Run → ℕ → ℕ → Type 0
WakesNotNext r t u = (m : Mark) (ms : List Mark) → r.state.marked t ≡ m ∷ ms → m.thread ≡ u → ⊥

acquiring : (plan : Plan) (r : Run) (t u : ℕ) (action : Action) → actions.Acquires plan r t action
    → NoneWakes u action.steps
acquiring plan r t u _ (actions.gains by i a f) = (tt, (tt, tt))
acquiring plan r t u _ (actions.claims by i a f) = (tt, (tt, tt))
acquiring plan r t u _ (actions.enters by i e (actions.on_turnstile x)) = (tt, (tt, tt))
acquiring plan r t u _ (actions.enters by i e (actions.on_sleep_queue x)) = (tt, (tt, tt))

wakes_none : (plan : Plan) (r : Run) (t u : ℕ) (action : Action) → actions.Fits plan r t action → WakesNotNext r t u
    → NoneWakes u action.steps
wakes_none plan r t u _ (actions.is_over e) unwoken = tt
wakes_none plan r t u _ (actions.lends l o h w e f) unwoken = (tt, tt)
wakes_none plan r t u _ (actions.ends_at_lock l w e) unwoken = (tt, tt)
wakes_none plan r t u _ (actions.shifts o l w e f) unwoken = (tt, tt)
wakes_none plan r t u _ (actions.ends_at_thread o w f) unwoken = (tt, tt)
wakes_none plan r t u _ (actions.marks m ms w e) unwoken = (unwoken m ms e, tt)
wakes_none plan r t u _ (actions.gives_up w e f (actions.drops x)) unwoken = (tt, tt)
wakes_none plan r t u _ (actions.gives_up w e f (actions.opens x y)) unwoken = (tt, tt)
wakes_none plan r t u _ (actions.gives_up w e f (actions.opens_sleep_queue x y)) unwoken = (tt, tt)
wakes_none plan r t u _ (actions.is_queued e f i) unwoken = tt
wakes_none plan r t u _ (actions.resumes q cause f e) unwoken = (tt, tt)
wakes_none plan r t u action (actions.acquires a) unwoken = acquiring plan r t u action a
wakes_none plan r t u _ (actions.is_admitted {l} {mode} {action} b f a) unwoken =
    (tt, acquiring plan (admitted plan r t l) t u action a)
wakes_none plan r t u _ (actions.is_refused k b f) unwoken = (tt, (tt, tt))
wakes_none plan r t u _ (actions.finds_busy l mode past i e) unwoken = (tt, (tt, tt))
wakes_none plan r t u _ (actions.releases l i (actions.drops x)) unwoken = (tt, (tt, tt))
wakes_none plan r t u _ (actions.releases l i (actions.opens x y)) unwoken = (tt, (tt, tt))
wakes_none plan r t u _ (actions.releases l i (actions.opens_sleep_queue x y)) unwoken = (tt, (tt, tt))
wakes_none plan r t u _ (actions.sleeps d i e) unwoken = (tt, (tt, (tt, tt)))
wakes_none plan r t u _ (actions.wakes d by i) unwoken = (tt, (tt, tt))
wakes_none plan r t u _ (actions.makes_entry op e i n) unwoken = (tt, tt)
wakes_none plan r t u _ (actions.gives_last_back h hs i e (actions.drops x)) unwoken = (tt, (tt, tt))
wakes_none plan r t u _ (actions.gives_last_back h hs i e (actions.opens x y)) unwoken = (tt, (tt, tt))
wakes_none plan r t u _ (actions.gives_last_back h hs i e (actions.opens_sleep_queue x y)) unwoken = (tt, (tt, tt))
wakes_none plan r t u _ (actions.has_nothing_left g i e) unwoken = tt
wakes_none plan r t u _ (actions.has_no_operation e i) unwoken = tt
wakes_none plan r t u _ (actions.is_at_endtry i) unwoken = tt

-- 3. Who sleeps

pub sleeps_on : (plan : Plan) (r : Run) (t u : ℕ) → u ≢ t → WakesNotNext r t u → IsSleeping plan r u
    → IsSleeping plan (run_behind plan r t) u
unfolding run_behind
sleeps_on plan r t u n unwoken h =
    let c = config_of plan in
    let ne : t ≡ u → ⊥ = λ e. n (sym e) in
    let action = turn_of plan r t in
    let fits = actions.fits plan r t in
    let own = own_steps plan r t action fits in
    let share = all_leave c u t r.state action.steps ne own in
    record {
      going = ends_no_other plan r t u n ∙ h.going;
      queued = all_wait_still c u t r.state action.steps ne own (wakes_none plan r t u action fits unwoken) ∙ h.queued;
      free = record {
        no_walk = share.walk ∙ h.free.no_walk;
        unmarked = share.marked ∙ h.free.unmarked;
        released = ap₂ (λ (held : ℕ → Hold) (log : List Entry). to_release held (option_map c.chan_lock (waits_on log)))
            share.held share.log ∙ h.free.released;
      };
    }

-- as many have ended in all runs that a world represents, and as many sleep
module _ (w : World) (proper : IsProper w.plan) (r n : Run) (h : Represents w r) (k : Represents w n) where
  its_thread : (t : ℕ) → t < length w.plan.threads → (th : Thread) × (slice_get w.machine.threads.items t ≡ Some th)
  its_thread t lt = go (slice_get w.machine.threads.items t) refl (h.shows.progress t lt)
    where
      go : (o : Option Thread) → slice_get w.machine.threads.items t ≡ o
          → IsSomeAnd (option_map progress_of o) (IsAsFar w.plan r t) → (th : Thread)
          × (slice_get w.machine.threads.items t ≡ Some th)
      go None e far = absurd far
      go (Some th) e far = (th, e)

  pub end_alike : (t : ℕ) → t < length w.plan.threads → has_ended w.plan n t ≡ has_ended w.plan r t
  end_alike t lt =
      let x = its_thread t lt in
      sym (ends_as_said w.plan w.machine n t x.0 proper k lt x.1)
      ∙ ends_as_said w.plan w.machine r t x.0 proper h lt x.1

  pub sleep_alike : (t : ℕ) → t < length w.plan.threads → IsSleeping w.plan r t → IsSleeping w.plan n t
  sleep_alike t lt a =
      let c = config_of w.plan in
      let x = its_thread t lt in
      let same : thread_in n.state t ≡ thread_in r.state t = sym (k.shows.shows.threads.thread t x.0 x.1).columns
      ∙ (h.shows.shows.threads.thread t x.0 x.1).columns in
      record {
        going = end_alike t lt ∙ a.going;
        queued = ap (λ y. y.wait) same ∙ a.queued;
        free = record {
          no_walk = ap (λ y. y.walk) same ∙ a.free.no_walk;
          unmarked = ap (λ y. y.marked) same ∙ a.free.unmarked;
          released = ap₂ (λ (held : ℕ → Hold) (chan : Option ℕ). to_release held (option_map c.chan_lock chan))
              (ap (λ y. y.held) same) (ap (λ y. y.chan) same) ∙ a.free.released;
        };
      }
