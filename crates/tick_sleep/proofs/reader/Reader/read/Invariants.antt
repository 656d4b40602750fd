use Rattle.std.proofs.Common.{◌≡◌, ◌≤◌, length}
use Rattle.lock_model.specs.Limits.{greatest_line}
use Rattle.lock_model.specs.Script.Lines.{lines_of}
use Rattle.tick_sleep.specs.Script.{reading_from}
use Rattle.tick_sleep.specs.Learning.{nothing_known}
use Rattle.tick_sleep.specs.Readers.{known}
use Rattle.tick_sleep.proofs.reader.Reader.read.Given as goal

abbrev pub invariant-loop-line : goal.invariant-loop-line
invariant-loop-line l = record {
  reads : reading_from l.number (known l.reader) (lines_of l.rest) ≡ reading_from 2 nothing_known (lines_of l.lines);
  small : l.number ≤ greatest_line;
  numbered : length (known l.reader).names ≡ length (known l.reader).sleepers;
}

abbrev pub decreases-loop-line : goal.decreases-loop-line
decreases-loop-line l = length l.rest
