use Rattle.std.proofs.Common.{ℕ, Some, ap, subst}
use Rattle.lockrun_c.specs.Worlds.{HasMade, HasNoThread}
use Rattle.lockrun_c.proofs.worlds.turn.Goals as goal

pub returns-in-Some-clause-turned : goal.returns-in-Some-clause-turned
returns-in-Some-clause-turned c = λ z.
    let g = c.turn_in.ensures.turned z in (
      c.in-Some.world,
      g.0,
      ap Some c.in-Some.ensures.taken,
      ap Some g.1,
      subst (λ (t : ℕ). HasMade t c.in-Some.world g.0 c.turn_in.new.did) c.byte_of.ensures g.2,
    )

pub returns-in-Some-clause-no_such : goal.returns-in-Some-clause-no_such
returns-in-Some-clause-no_such c = λ z. (
  c.in-Some.world,
  ap Some c.in-Some.ensures.taken,
  subst (λ (t : ℕ). HasNoThread t c.in-Some.world) c.byte_of.ensures (c.turn_in.ensures.no_such z),
)
