use Rattle.std.proofs.Common.{◌≡◌, ◌++◌, map, take}
use Rattle.run_chart.specs.Steps.{step_of}
use Rattle.run_chart.proofs.threads.push_steps.Given as goal

abbrev pub invariant-loop-span : goal.invariant-loop-span
invariant-loop-span l = l.steps.items ≡ l.initial.steps.items ++ map (step_of l.at.who) (take l.span-index l.span-items)
