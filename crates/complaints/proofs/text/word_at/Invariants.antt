use Rattle.std.proofs.Common.{◌≡◌, ◌∷◌, [], option_copied}
use Rattle.std.specs.List.{slice_index_or}
use Rattle.script_read.specs.Reading.{words_behind}
use Rattle.complaints.specs.Complaints.{word_at}
use Rattle.complaints.proofs.text.word_at.Given as goal

abbrev pub invariant-loop-left : goal.invariant-loop-left
invariant-loop-left l = word_at l.n l.line ≡ slice_index_or (l.word ∷ words_behind (option_copied l.behind)) l.left []

abbrev pub decreases-loop-left : goal.decreases-loop-left
decreases-loop-left l = l.left
