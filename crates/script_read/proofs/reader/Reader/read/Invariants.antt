use Rattle.std.proofs.Common.{◌≡◌, ◌≤◌, length}
use Rattle.lock_model.specs.Limits.{greatest_line}
use Rattle.lock_model.specs.Script.{reading_from}
use Rattle.lock_model.specs.Script.Learning.{nothing_known}
use Rattle.lock_model.specs.Script.Lines.{lines_of}
use Rattle.script_read.specs.Readers.{known}
use Rattle.script_read.proofs.reader.Reader.read.Given as goal

abbrev pub invariant-loop-line : goal.invariant-loop-line
invariant-loop-line l = record {
  reads : reading_from l.number (known l.reader) (lines_of l.rest) ≡ reading_from 2 nothing_known (lines_of l.lines);
  small : l.number ≤ greatest_line;
}

abbrev pub decreases-loop-line : goal.decreases-loop-line
decreases-loop-line l = length l.rest
