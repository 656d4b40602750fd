-- What the rows of a run tell of its states: of its threads and turns, of its locks, and how it ended.
use Rattle.std.proofs.Common.{◌≡◌, ℕ, ◌+◌, ◌<◌, ◌≤◌, false, cond, ltb, not, List, [], length, Option, Some, None, IfSome, refl, sym, ap, subst, inl, inr, arith, ◌∙◌}
use Rattle.std.specs.Prelude.{find, option_and_then, option_map, slice_get, IsSomeAnd}
use Rattle.std.proofs.lemmas.Bool.{cases_lt, lt-ltb, ltb-true}
use Rattle.std.proofs.lemmas.Option.{cond_some, option_and_then_some, slice_get-get_or, slice_get_within}
use Rattle.lock_history.specs.Endings as seen
use Rattle.lock_laws.proofs.AtTurn.{well_formed}
use Rattle.lock_laws.proofs.Shown.{exclusive_is, owner-owns}
use Rattle.lock_laws.proofs.Standing.{standing_named}
use Rattle.lock_model.specs.Holds.{Hold, Holds, NotHeld, is_unheld}
use Rattle.lock_model.specs.Operations.{IsProper}
use Rattle.lock_model.specs.Plans.{config_of}
use Rattle.lock_model.specs.Queues.{stands}
use Rattle.lock_model.specs.Text as text
use Rattle.lock_model.specs.Words.{IsWellFormed, word_of}
use Rattle.lock_model.specs.declared.numbers.ThreadNo.{ThreadNo}
use Rattle.lock_model.specs.declared.plan.Mode.TheVariants.{Excl}
use Rattle.lock_model.specs.declared.plan.Plan.{Plan}
use Rattle.lock_model.specs.declared.plan.QueueName.{QueueName}
use Rattle.lock_objects.specs.Represents.{wait_of}
use Rattle.lock_state.specs.Facts.{OnlyLocksAreHeld, OnlyThreadsHold, OnlyThreadsStand, WordsMatchHolders}
use Rattle.lock_state.specs.Run.{course_after, ending_of, has_ended, scheduled_run}
use Rattle.lock_state.specs.State.{State}
use Rattle.run_chart.specs.Bars.{standing, woken_kind}
use Rattle.run_chart.specs.Charts.{ended_in}
use Rattle.run_chart.specs.Runs.{IsRunOf, IsTurnOf}
use Rattle.run_chart.specs.declared.rows.TurnOf.{TurnOf}
use Rattle.run_chart.specs.Turns.{holds, owner_in}
use Rattle.run_chart.proofs.Values.{first_so, so_of}
use Rattle.run_laws.proofs.Turning.{behind_course}
use Rattle.run_laws.proofs.TurnsOfCourses.{stays_over}
use Rattle.run_laws.specs.OnTrack.{IsOnTrack}
use Rattle.run_tracks.specs.Rows.{run_in, IsThread, IsWhereItStands, TellsRun}
use Rattle.run_tracks.specs.Tracks.{value_in, IsTrack, Tells}
use Rattle.run_tracks.specs.declared.rows.Rows.{Rows}
use Rattle.run_tracks.specs.declared.rows.TurnRow.{TurnRow}
use Rattle.run_tracks.specs.declared.threads.ThreadRow.{ThreadRow}
use Rattle.run_tracks.specs.declared.threads.ThreadRows.{ThreadRows}

-- 1. Tracks

pub so_at : {T : Type 0} (track : List (ℕ × T)) (rows : ℕ) (IsSo : ℕ → T → Type 0) → Tells track rows IsSo → (n : ℕ)
    → n < rows → (v : T) → value_in n track ≡ Some v → IsSo n v
so_at track rows IsSo h n l v e = subst (λ o. IsSomeAnd o (IsSo n)) e (h.value n l)

-- 2. Who holds a lock

module _ (plan : Plan) (proper : IsProper plan) (n : ℕ) where
  abbrev on_track : IsOnTrack plan (run_in plan n)
  on_track = behind_course plan n proper

  -- the owner of a lock is a thread, and what it owns is a lock
  pub owner_told : (l o : ℕ) → owner_in plan n l ≡ Some o → (o < length plan.threads) × (l < length plan.locks)
  unfolding WordsMatchHolders OnlyThreadsHold OnlyLocksAreHeld
  owner_told l o e =
      let s = (run_in plan n).state in
      let held : s.held o l ≡ Holds Excl = exclusive_is (s.held o l)
      ((on_track.lawful.lawful.words.words_match_holders l).owner o ∙ owner-owns o (s.word l).holder e) in (
        on_track.lawful.lawful.words.only_threads_hold o l Excl held,
        on_track.taken.only_locks_are_held o l Excl held,
      )

  pub word_fits : (l w : ℕ) → word_of w ≡ (run_in plan n).state.word l → IsWellFormed (word_of w)
  word_fits l w e = subst IsWellFormed (sym e)
      (well_formed (config_of plan) (run_in plan n).state l on_track.lawful.lawful (omega (arith, proper.threads)))

-- 3. Threads and turns

pub run_of : (plan : Plan) (rows : Rows) → IsProper plan → (chains : ℕ) × (turns : ℕ) × TellsRun plan chains turns rows
    → length rows.turns ≤ 1000000 → IsRunOf plan rows
run_of plan rows proper run few = record { proper = proper; chains = run.0; most = run.1; told = run.2; few = few }

pub turn_of : (at : TurnOf) → IsRunOf at.plan.now at.rows.now → (row : TurnRow)
    → slice_get at.rows.now.turns at.turn ≡ Some row → row.who ≡ at.who → IsTurnOf at
turn_of at h row here who = record {
  run = h;
  turn = slice_get_within at.rows.now.turns at.turn row here;
  thread = let its = ap (λ (t : ThreadNo). t.0) who in
      omega (arith, (h.told.each at.turn row here).thread, h.told.columns.thread_each, its);
}

module _ (plan : Plan) (rows : Rows) (h : IsRunOf plan rows) where
  -- what a thread was in a row
  pub row_told : (t : ℕ) (thread : ThreadRows) → slice_get rows.threads t ≡ Some thread → (n : ℕ)
      → n < length rows.turns + 1 → (row : ThreadRow) → value_in n thread.row ≡ Some row
      → IsThread plan (run_in plan n) t row
  row_told t thread e n l row is =
      so_at thread.row (length rows.turns + 1) (λ m row. IsThread plan (run_in plan m) t row)
      (h.told.columns.of_threads t thread e).row n l row is

  -- 4. What a thread doesn't hold, and where what is none stands

  pub holds_nothing : (n l t : ℕ) (thread : ThreadRows) → slice_get rows.threads t ≡ Some thread
      → length thread.held ≤ l → false ≡ holds plan n l t
  unfolding OnlyLocksAreHeld
  holds_nothing n l t thread at past = go ((run_in plan n).state.held t l) refl
    where
      go : (x : Hold) → (run_in plan n).state.held t l ≡ x → false ≡ not (is_unheld x)
      go NotHeld e = refl
      go (Holds mode) e =
          let lock = (behind_course plan n h.proper).taken.only_locks_are_held t l mode e in
          absurd (omega (arith, lock, past, (h.told.columns.of_threads t thread at).locks))

  -- what is no thread has a record that names nothing
  pub named_nowhere : (n t : ℕ) → length rows.threads ≤ t → None ≡ (run_in plan n).state.blocked_on t
  unfolding OnlyThreadsStand
  named_nowhere n t past = go ((run_in plan n).state.blocked_on t) refl
    where
      go : (o : Option QueueName) → (run_in plan n).state.blocked_on t ≡ o → None ≡ o
      go None e = refl
      go (Some q) e =
          let thread = (behind_course plan n h.proper).lawful.lawful.waits.only_threads_stand t q e in
          absurd (omega (arith, past, thread, h.told.columns.thread_each))

  -- 5. The word of a lock

  pub word_is : (n k : ℕ) (track : List (ℕ × ℕ)) (w : ℕ) → n ≤ length rows.turns → Some track ≡ slice_get rows.words k
      → value_in n track ≡ Some w
      → word_of w ≡ (run_in plan n).state.word k
  word_is n k track w low at e =
      so_at track (length rows.turns + 1) _ (h.told.columns.of_words k track (sym at)) n (omega (arith, low)) w e

  -- what is no lock has no owner
  pub no_owner : (n k : ℕ) → None ≡ slice_get rows.words k → None ≡ owner_in plan n k
  no_owner n k at = go (owner_in plan n k) refl
    where
      go : (o : Option ℕ) → owner_in plan n k ≡ o → None ≡ o
      go None e = refl
      go (Some u) e =
          let lock = (owner_told plan h.proper n k u e).1 in
          let here = at ∙ slice_get-get_or rows.words k [] (omega (arith, lock, h.told.columns.word_each)) in absurd cc

  -- an owner is a thread
  pub owner_named : (n k : ℕ) (o : Option ThreadNo) → option_map (λ t. t.0) o ≡ owner_in plan n k
      → IfSome o (λ t. t.0 < length rows.threads)
  owner_named n k None e = tt
  owner_named n k (Some t) e =
      let thread = (owner_told plan h.proper n k t.0 (sym e)).0 in omega (arith, thread, h.told.columns.thread_each)

  -- 6. How the run ended, and where threads come to their end

  abbrev last : ℕ
  last = length rows.turns

  -- the run stays where its last turn left it
  ended : course_after plan h.most ≡ course_after plan last
  ended = elim (cases_lt last h.most) [
    | inl l ↦ stays_over plan last h.most h.told.few (h.told.ends l)
    | inr l ↦ ap (course_after plan) (let e : h.most ≡ last = omega (arith, h.told.few, l) in e)
  ]

  pub ending_is : seen.ending_of rows.outcome.last ≡ ending_of plan (course_after plan last)
  unfolding scheduled_run
  ending_is = ap (λ (o : text.Outcome). o.ending) h.told.outcome ∙ ap (ending_of plan) ended

  -- where a thread comes to its end, by the first change to that
  pub ended_told : (t : ℕ) (thread : ThreadRows) → slice_get rows.threads t ≡ Some thread → IsTrack thread.row
      → option_map (λ change. change.0) (find (λ change. change.1.ended) thread.row) ≡ ended_in plan last t
  ended_told t thread e track =
      first_so (λ row. row.ended) (λ n. has_ended plan (run_in plan n) t) (last + 1) (λ n. None) thread.row (λ n. refl)
      track.ascends told.within (λ n l. go n (value_in n thread.row) (told.value n l))
    where
      told : Tells thread.row (last + 1) (λ n row. IsThread plan (run_in plan n) t row)
      told = (h.told.columns.of_threads t thread e).row

      go : (n : ℕ) (o : Option ThreadRow) → IsSomeAnd o (IsThread plan (run_in plan n) t)
          → has_ended plan (run_in plan n) t ≡ so_of (λ row. row.ended) o
      go n None none = absurd none
      go n (Some row) is = sym is.ended

-- 7. Where a thread stands

-- the queue that its record names, where it is in the lists of that, is the one in whose lists it is
stands_there : (s : State) (t : ℕ) → ((q : QueueName) → 0 < stands t (s.lists q) → s.blocked_on t ≡ Some q)
    → IsWhereItStands s t (standing s t)
stands_there s t named q =
    let on = λ (r : QueueName). cond (ltb 0 (stands t (s.lists r))) (Some r) None in (
      λ e. option_and_then_some on (s.blocked_on t) q e (λ r names stays.
          let both = cond_some (ltb 0 (stands t (s.lists r))) r q stays in
          subst (λ (k : QueueName). 0 < stands t (s.lists k)) both.1 (ltb-true 0 (stands t (s.lists r)) both.0)),
      λ some. ap (option_and_then on) (named q some)
          ∙ ap (λ b. cond b (Some q) None) (lt-ltb 0 (stands t (s.lists q)) some),
    )

pub stands_law : (plan : Plan) (n t : ℕ) → IsProper plan
    → IsWhereItStands (run_in plan n).state t (standing (run_in plan n).state t)
stands_law plan n t proper =
    let s = (run_in plan n).state in
    stands_there s t (λ q some. standing_named (config_of plan) s t q (behind_course plan n proper).lawful.lawful some)

-- it stands on one queue at most
one_place : (s : State) (t : ℕ) (a b : Option QueueName) → IsWhereItStands s t a → IsWhereItStands s t b → a ≡ b
one_place s t (Some q) b at there = sym ((there q).1 ((at q).0 refl))
one_place s t None (Some q) at there = (at q).1 ((there q).0 refl)
one_place s t None None at there = refl

module _ (plan : Plan) (proper : IsProper plan) (n t : ℕ) (row : ThreadRow) (is : IsThread plan (run_in plan n) t row)
  where
    pub stands_told : row.stands_on ≡ standing (run_in plan n).state t
    stands_told = sym (one_place (run_in plan n).state t (standing (run_in plan n).state t) row.stands_on
        (stands_law plan n t proper) is.stands_on)

    pub woken_told : woken_kind (wait_of row.wait) row.blocked_on row.stands_on ≡ woken_kind
        ((run_in plan n).state.wait t) ((run_in plan n).state.blocked_on t) (standing (run_in plan n).state t)
    woken_told =
        ap (λ w. woken_kind w row.blocked_on row.stands_on) is.wait
        ∙ ap (λ o. woken_kind ((run_in plan n).state.wait t) o row.stands_on) is.blocked_on
        ∙ ap (woken_kind ((run_in plan n).state.wait t) ((run_in plan n).state.blocked_on t)) stands_told
