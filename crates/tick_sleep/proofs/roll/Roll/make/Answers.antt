use Rattle.std.proofs.Common.{arith}
use Rattle.tick_sleep.proofs.Buckets.{none_shown}
use Rattle.tick_sleep.proofs.roll.Roll.make.Goals as goal

pub invariant_of-result : goal.invariant_of-result
invariant_of-result c = record {
  room = omega (arith, c.in_ok-with_capacity.ensures.capacity);
  once = rw c.in_ok-with_capacity.ensures.items (λ t. omega arith);
  shown = rw (c.in_ok-make.ensures, c.in_ok-with_capacity.ensures.items) none_shown;
}
