use Rattle.step_world.proofs.Names.{arith, length, ap}
use Rattle.step_world.proofs.world.World.history.Goals as goal

pub returns-clause-few : goal.returns-clause-few
returns-clause-few c =
    let same = ap length c.as_slice.ensures in
    omega (arith, same, c.self.invariant.run.1.shows.room, c.self.invariant.proper.operations)
