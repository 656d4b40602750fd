use Rattle.std.proofs.Common.{◌≡◌, ◌++◌, codes, length}
use Rattle.lock_model.specs.Script.Lines.{lines_of}
use Rattle.complaints.specs.Complaints.{each_told, verb_first}
use Rattle.complaints.proofs.sentence.push_each.Given as goal

abbrev pub invariant-loop-line : goal.invariant-loop-line
invariant-loop-line l =
    l.fn.out.items ++ each_told l.halts l.text (lines_of l.text) (codes ": ") (verb_first l.halts)
    ≡ l.out.items ++ each_told l.halts l.text (lines_of l.rest) l.between l.verb

abbrev pub decreases-loop-line : goal.decreases-loop-line
decreases-loop-line l = length l.rest
