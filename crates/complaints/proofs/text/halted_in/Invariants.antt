use Rattle.std.proofs.Common.{◌≡◌, length, find}
use Rattle.lock_model.specs.Script.Lines.{lines_of}
use Rattle.complaints.specs.Complaints.{halts_in}
use Rattle.complaints.proofs.text.halted_in.Given as goal

abbrev pub invariant-loop-line : goal.invariant-loop-line
invariant-loop-line l = find (halts_in l.thread) (lines_of l.text) ≡ find (halts_in l.thread) (lines_of l.rest)

abbrev pub decreases-loop-line : goal.decreases-loop-line
decreases-loop-line l = length l.rest
