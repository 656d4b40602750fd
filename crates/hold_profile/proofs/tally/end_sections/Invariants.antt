use Rattle.std.proofs.Common.{◌≡◌, take}
use Rattle.hold_profile.specs.Counting.{lasted_by, with_lengths}
use Rattle.hold_profile.proofs.tally.end_sections.Given as goal

abbrev pub invariant-loop-o : goal.invariant-loop-o
invariant-loop-o l = l.line ≡ with_lengths (lasted_by l.thread.0 l.ticket) (take l.o-index l.sections) l.initial.line
