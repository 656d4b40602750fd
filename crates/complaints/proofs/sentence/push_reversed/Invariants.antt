use Rattle.std.proofs.Common.{◌≡◌, ◌++◌, codes, length}
use Rattle.lock_model.specs.Script.Lines.{lines_of}
use Rattle.complaints.specs.Complaints.{reversals_said}
use Rattle.complaints.proofs.sentence.push_reversed.Given as goal

abbrev pub invariant-loop-line : goal.invariant-loop-line
invariant-loop-line l = l.fn.out.items ++ (codes "reversed" ++ reversals_said (lines_of l.text) (codes ": "))
    ≡ l.out.items ++ reversals_said (lines_of l.rest) l.between

abbrev pub decreases-loop-line : goal.decreases-loop-line
decreases-loop-line l = length l.rest
