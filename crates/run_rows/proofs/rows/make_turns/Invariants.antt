use Rattle.std.proofs.Common.{◌≡◌, length}
use Rattle.run_rows.specs.Making.{IsAt}
use Rattle.run_tracks.specs.Rows.{IsTurn}
use Rattle.run_tracks.specs.Tracks.{EachAt}
use Rattle.run_rows.proofs.rows.make_turns.Given as goal

-- as many turns were made as are behind the course
abbrev pub invariant-loop-n : goal.invariant-loop-n
invariant-loop-n l = record {
  number : length l.made.items ≡ l.n;
  at : IsAt l.initial.course.world.plan l.initial.course.world.chains l.n l.course l.columns;
  each : EachAt (IsTurn l.initial.course.world.plan) l.made.items;
}
