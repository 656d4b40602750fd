use Rattle.std.proofs.Common.{◌≡◌, take}
use Rattle.hold_profile.specs.Counting.{lasted, with_lengths}
use Rattle.hold_profile.proofs.tally.Tally.finish.Given as goal

abbrev pub invariant-loop-o : goal.invariant-loop-o
invariant-loop-o l = l.line ≡ with_lengths (lasted l.entries) (take l.o-index l.o-items) l.initial.line
