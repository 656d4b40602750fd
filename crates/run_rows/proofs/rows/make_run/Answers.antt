use Rattle.run_rows.proofs.Turns.{at_begin}
use Rattle.run_rows.proofs.rows.make_run.Goals as goal

pub make_turns-requires-clause-begins : goal.make_turns-requires-clause-begins
make_turns-requires-clause-begins c =
    at_begin c.args.course.now c.world.result.now c.in_ok-columns.columns c.requires.begins c.world.ensures
    c.in_ok-columns.ensures
