use Rattle.std.proofs.Common.{◌≡◌, List, [], replicate}
use Rattle.tick_sleep.specs.declared.wheel.Callout.{Callout}
use Rattle.tick_sleep.proofs.wheel.Wheel.make.Given as goal

abbrev pub invariant-loop : goal.invariant-loop
invariant-loop l = l.buckets.items ≡ replicate {A = List Callout} l.counter []
