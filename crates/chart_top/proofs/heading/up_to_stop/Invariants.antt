use Rattle.std.proofs.Common.{◌≡◌, ◌++◌, take, drop}
use Rattle.chart_top.specs.Heading.{up_to_stop}
use Rattle.chart_top.proofs.heading.up_to_stop.Given as goal

-- there is no stop so far
abbrev pub invariant-loop-n : goal.invariant-loop-n
invariant-loop-n l = up_to_stop l.text ≡ take l.n l.text ++ up_to_stop (drop l.n l.text)
