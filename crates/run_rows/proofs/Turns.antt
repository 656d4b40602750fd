-- What a turn leaves of a course, by who had it and its answer.
use Rattle.std.proofs.Common.{◌≡◌, ◌≢◌, ◌⊎◌, ℕ, ◌+◌, Bool, true, false, cond, List, [], ◌∷◌, ◌++◌, map, length, Option, Some, None, arith, refl, sym, ap, subst, inl, inr, ◌∙◌}
use Rattle.std.proofs.lemmas.Bool.{cases_Bool, cases_lt}
use Rattle.std.proofs.lemmas.Option.{same_Some}
use Rattle.lock_history.specs.Outcomes.{line_seen}
use Rattle.lock_history.specs.declared.outcome.QueueLine.{QueueLine}
use Rattle.run_laws.proofs.Actions as actions
use Rattle.run_laws.proofs.Idle.{changes_nothing}
use Rattle.run_laws.proofs.OtherThreads.{own_steps}
use Rattle.run_laws.proofs.Shares.{all_leave}
use Rattle.lock_model.specs.Holds.{Hold}
use Rattle.lock_model.specs.declared.plan.Mode.{Mode}
use Rattle.lock_model.specs.Plans.{config_of}
use Rattle.lock_model.specs.Words.{word_of}
use Rattle.lock_model.specs.declared.plan.Plan.{Plan}
use Rattle.lock_model.specs.declared.turn.Turn.{Turn}
use Rattle.lock_model.specs.declared.turn.Turn.TheVariants.{Idle, Ended}
use Rattle.lock_objects.specs.Represents.{hold_of}
use Rattle.lock_state.specs.Run as run
use Rattle.lock_state.specs.Run.{Run, after_turn, course_after, go_on, is_over, queue_lines, round_of, run_behind, start_course, turn_of, with_turn, first_turn, next_turn}
use Rattle.step_world.specs.Courses.{Course, IsCourse}
use Rattle.step_world.specs.Worlds.{World, Represents}
use Rattle.run_laws.proofs.TurnsOfCourses.{none_made, one_more, stays_over}
use Rattle.run_rows.specs.Making.{HasMade, IsAt, OthersHoldOn}
use Rattle.run_tracks.specs.Rows.{IsThread, TellsColumns, TellsThread, run_in}
use Rattle.run_tracks.specs.Tracks.{EachTells, Tells}
use Rattle.run_rows.specs.declared.columns.Columns.{Columns}
use Rattle.run_tracks.specs.declared.threads.ThreadRows.{ThreadRows}
use Rattle.run_tracks.specs.declared.rows.TurnRow.{TurnRow}
use Rattle.run_rows.proofs.Noting.{stays}

-- 1. Who had the turn

-- a turn that was made: the run wasn't over, its thread made the turn, and that was the answer
pub record IsMade (plan : Plan) (k : run.Course) (t : ℕ) (a : Turn) : Type 0 where
  pub going : is_over plan k ≡ false
  pub behind : (go_on plan k).run ≡ run_behind plan k.run t
  pub answer : a ≡ (turn_of plan k.run t).answer

module _ (plan : Plan) (r : Run) (t : ℕ) (a : Turn) where
  -- the first who comes makes it
  who_comes : (ts : List ℕ) → first_turn plan r ts ≡ Some (t, a) → (idle : Bool)
      → ((with_turn plan r ts idle).run ≡ run_behind plan r t) × (a ≡ (turn_of plan r t).answer)
  who_comes [] e idle = absurd cc
  who_comes (u ∷ us) e idle =
      let same : (u, (turn_of plan r u).answer) ≡ (t, a) = same_Some (u, (turn_of plan r u).answer) (t, a) e in
      let who : u ≡ t = ap (λ p. p.0) same in
      (ap (run_behind plan r) who, sym (ap (λ p. p.1) same) ∙ ap (λ (v : ℕ). (turn_of plan r v).answer) who)

pub made_by : (plan : Plan) (k : run.Course) (t : ℕ) (a : Turn) → next_turn plan k ≡ Some (t, a) → IsMade plan k t a
made_by plan k t a e = elim (cases_Bool (is_over plan k)) [
  | inl over ↦ let none : None ≡ Some (t, a) = rw over at e in absurd cc
  | inr going ↦
      let first : first_turn plan k.run (k.coming ++ round_of plan k.run) ≡ Some (t, a) = rw going at e in
      let it = go k.coming first in
      record {
        going = going;
        behind = ap (λ (b : Bool). (cond b k (after_turn plan k k.coming)).run) going ∙ it.0;
        answer = it.1;
      }
]
  where
    go : (ts : List ℕ) → first_turn plan k.run (ts ++ round_of plan k.run) ≡ Some (t, a)
        → ((after_turn plan k ts).run ≡ run_behind plan k.run t) × (a ≡ (turn_of plan k.run t).answer)
    go [] f = who_comes plan k.run t a (round_of plan k.run) f true
    go (u ∷ us) f = who_comes plan k.run t a (u ∷ us) f k.idle

-- where the answer is that the thread is idle or has ended, the next row is as this one
pub same_run : (plan : Plan) (n t : ℕ) (a : Turn) → IsMade plan (course_after plan n) t a → (a ≡ Idle) ⊎ (a ≡ Ended)
    → run_in plan (n + 1) ≡ run_in plan n
same_run plan n t a h idle =
    ap (λ (k : run.Course). k.run) (one_more plan n) ∙ h.behind
    ∙ changes_nothing plan (run_in plan n) t (subst (λ (b : Turn). (b ≡ Idle) ⊎ (b ≡ Ended)) h.answer idle)

-- each other thread holds what it held
keeps_holds : (plan : Plan) (r : Run) (t u : ℕ) → u ≢ t → (run_behind plan r t).state.held u ≡ r.state.held u
unfolding run_behind
keeps_holds plan r t u other =
    let action = turn_of plan r t in
    (all_leave (config_of plan) u t r.state action.steps (λ e. other (sym e))
    (own_steps plan r t action (actions.fits plan r t))).held

pub others_hold : (plan : Plan) (n t : ℕ) (a : Turn) → IsMade plan (course_after plan n) t a
    → OthersHoldOn (run_in plan) (n + 1) t
others_hold plan n t a h =
    record {
      before = n;
      is = refl;
      held = λ u other. ap (λ (k : run.Course). k.run.state.held u) (one_more plan n)
          ∙ ap (λ (r : Run). r.state.held u) h.behind ∙ keeps_holds plan (run_in plan n) t u other;
    }

-- 2. Columns that stay

pub holds_stay : (runs : ℕ → Run) (row who t : ℕ) (held : List (List (ℕ × Option Mode))) → OthersHoldOn runs row who
    → t ≢ who → EachTells held row (λ l n mode. hold_of mode ≡ (runs n).state.held t l)
    → EachTells held (row + 1) (λ l n mode. hold_of mode ≡ (runs n).state.held t l)
holds_stay runs row who t held h other told l track e =
    let stayed : (runs h.before).state.held t l ≡ (runs (h.before + 1)).state.held t l = sym
    (ap (λ (f : ℕ → Hold). f l) (h.held t other)) ∙ ap (λ (n : ℕ). (runs n).state.held t l) h.is in
    subst (λ (n : ℕ). Tells track (n + 1) (λ m mode. hold_of mode ≡ (runs m).state.held t l)) (sym h.is)
    (stays (λ n mode. hold_of mode ≡ (runs n).state.held t l) track h.before
    (subst (λ (n : ℕ). Tells track n (λ m mode. hold_of mode ≡ (runs m).state.held t l)) h.is (told l track e))
    (λ mode so. so ∙ stayed))

module _ (runs : ℕ → Run) (n : ℕ) (same : runs (n + 1) ≡ runs n) where
  -- what was so is so still
  still : {T : Type 0} (IsSo : Run → T → Type 0) (track : List (ℕ × T)) → Tells track (n + 1) (λ m v. IsSo (runs m) v)
      → Tells track (n + 1 + 1) (λ m v. IsSo (runs m) v)
  still IsSo track h = stays (λ m v. IsSo (runs m) v) track n h (λ v so. subst (λ (r : Run). IsSo r v) (sym same) so)

  threads_stay : (plan : Plan) (t : ℕ) (thread : ThreadRows) → TellsThread plan runs (n + 1) t thread
      → TellsThread plan runs (n + 1 + 1) t thread
  threads_stay plan t thread h = record {
    row = still (λ r row. IsThread plan r t row) thread.row h.row;
    locks = h.locks;
    held = λ l track e. still (λ r mode. hold_of mode ≡ r.state.held t l) track (h.held l track e);
  }

  pub columns_stay : (plan : Plan) (chains : ℕ) (threads : List ThreadRows) (words : List (List (ℕ × ℕ)))
      (queues : List (ℕ × List QueueLine)) → TellsColumns plan chains runs (n + 1) threads words queues
      → TellsColumns plan chains runs (n + 1 + 1) threads words queues
  columns_stay plan chains threads words queues h = record {
    thread_each = h.thread_each;
    of_threads = λ t thread e. threads_stay plan t thread (h.of_threads t thread e);
    word_each = h.word_each;
    of_words = λ l track e. still (λ r w. word_of w ≡ r.state.word l) track (h.of_words l track e);
    of_queues = still (λ r lines. map line_seen lines ≡ queue_lines chains (config_of plan) r.state) queues h.of_queues;
  }

-- 3. Runs

-- the tracks tell of the begin
pub at_begin : (course : Course) (w : World) (columns : Columns) → IsCourse course (start_course course.world.plan)
    → w ≡ course.world → ((runs : ℕ → Run) → Represents w (runs 0)
    → TellsColumns w.plan w.chains runs 1 columns.threads.items columns.words.items columns.queues)
    → IsAt course.world.plan course.world.chains 0 course columns
at_begin course w columns begins same told =
    let plan = course.world.plan in
    let course_is : IsCourse course (course_after plan 0) = subst (IsCourse course) (sym (none_made plan)) begins in
    record {
      plan_is = refl;
      chains_are = refl;
      course_is = course_is;
      tells = (rw same at told) (run_in plan) course_is.shows;
    }

-- and where all turns were made, the run is that of the definition
pub whole_run : (plan : Plan) (chains turns : ℕ) (made : List TurnRow) (course : Course) (columns : Columns)
    → HasMade plan chains turns made course columns → course_after plan (length made) ≡ course_after plan turns
whole_run plan chains turns made course columns h = elim (cases_lt (length made) turns) [
  | inl l ↦ sym (stays_over plan (length made) turns h.few (h.ends l))
  | inr l ↦ ap (course_after plan) (let e : length made ≡ turns = omega (arith, h.few, l) in e)
]
