use Rattle.std.proofs.Common.{◌≡◌, take, map}
use Rattle.hold_profile.specs.Counting.{line_in_end}
use Rattle.hold_profile.proofs.counting.lines_in.Given as goal

abbrev pub invariant-loop-tally : goal.invariant-loop-tally
invariant-loop-tally l = l.lines.items ≡ map (line_in_end l.entries) (take l.tally-index l.tallies)
