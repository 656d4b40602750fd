-- What is true of the sleepers and of the wheel of their callouts.
use Rattle.std.specs.Prelude.{◌≤◌, vec_capacity}
use Rattle.tick_sleep.specs.Limits.{most_sleepers}
use Rattle.tick_sleep.specs.Rolls.{IsOnce}
use Rattle.tick_sleep.specs.Wheels.{ShowsSleepers}
use Rattle.tick_sleep.specs.declared.roll.Roll.TheInside.{Inside}

-- there is room for all, each thread sleeps once, and the wheel has the callouts of those that have one
pub record IsSound (r : Inside) : Type 0 where
  pub room : most_sleepers ≤ vec_capacity r.sleepers
  pub once : IsOnce r.sleepers.items
  pub shown : ShowsSleepers r.wheel r.sleepers.items
