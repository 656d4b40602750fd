use Rattle.std.proofs.Common.{take}
use Rattle.hold_profile.specs.Counting.{IsCounted}
use Rattle.hold_profile.proofs.profiling.profile.Given as goal

abbrev pub invariant-loop-place : goal.invariant-loop-place
invariant-loop-place l = IsCounted l.plan (take l.place l.entries) l.counting
