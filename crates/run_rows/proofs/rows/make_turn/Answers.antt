use Rattle.std.proofs.Common.{◌≡◌, ◌+◌, length, Some, sym, ap, ◌∙◌}
use Rattle.std.proofs.lemmas.List.{length-reverse}
use Rattle.lock_state.specs.Run as run
use Rattle.lock_state.specs.Run.{course_after, go_on, next_turn}
use Rattle.step_world.specs.Courses.{IsCourse}
use Rattle.step_world.specs.Worlds.{World, Represents}
use Rattle.run_laws.proofs.TurnsOfCourses.{one_more}
use Rattle.run_tracks.specs.Rows.{TellsColumns, history_in, run_in}
use Rattle.run_rows.proofs.Turns.{columns_stay, made_by, others_hold, same_run}
use Rattle.run_rows.proofs.rows.make_turn.Goals as goal
use Rattle.run_rows.proofs.rows.make_turn.Goals.{in-Did+in_ok-note-in-Did, in-Idle}

pub returns : goal.returns
returns c =
    let start = c.args.course.now.world in
    let plan = start.plan in
    let n = c.args.n in
    let at = c.requires.at in
    let k : run.Course = course_after plan n in
    let gone = c.in-Some.ensures in
    let world = c.world-world.result.now in
    let made : next_turn plan k ≡ Some (c.in-Some.who.0, c.in-Some.answer) = sym (gone.turn k at.course_is) in
    let by = made_by plan k c.in-Some.who.0 c.in-Some.answer made in
    let behind : IsCourse c.go_on.new.self (course_after plan (n + 1)) =
    rw (one_more plan n) (c.go_on.ensures.course k at.course_is) in
    let shows : Represents world (run_in plan (n + 1)) = rw c.world-world.ensures behind.shows in
    let was = c.history-history.ensures.history (run_in plan n) (rw c.world.ensures at.course_is.shows) in
    let its_plan : world.plan ≡ plan = ap (λ (w : World). w.plan) c.world-world.ensures ∙ c.go_on.ensures.plan in
    let its_chains : world.chains ≡ start.chains =
    ap (λ (w : World). w.chains) c.world-world.ensures ∙ c.go_on.ensures.chains in
    let tells : TellsColumns plan start.chains (run_in plan) (n + 1 + 1) c.match-answer.columns.threads.items
    c.match-answer.columns.words.items c.match-answer.columns.queues = elim c.match-answer.branch [
      | in-Did+in_ok-note-in-Did b ↦ rw b.columns-is (let told = rw (its_plan, its_chains) at
          (b.in_ok-note-in-Did.ensures (run_in plan) shows (others_hold plan n c.in-Some.who.0 c.in-Some.answer by)) in
          told at.tells)
      | in-Idle b ↦ rw b.columns-is (columns_stay (run_in plan) n
          (same_run plan n c.in-Some.who.0 c.in-Some.answer by b.in-Idle.is) plan start.chains _ _ _ at.tells)
    ] in (
      record {
        going = by.going;
        made = made;
        thread = gone.thread;
        entry = c.newest.ensures (history_in plan n) (history_in plan (n + 1))
            (ap length was ∙ length-reverse (history_in plan n))
            (c.history.ensures.history (run_in plan (n + 1)) shows);
      },
      record { plan_is = c.go_on.ensures.plan; chains_are = c.go_on.ensures.chains; course_is = behind; tells = tells },
    )
