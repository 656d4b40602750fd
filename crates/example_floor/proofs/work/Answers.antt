use Rattle.std.proofs.Common.{◌+◌, ◌-◌, ◌*◌, arith}
use Rattle.example_floor.proofs.work.Goals as goal

pub loop-preserved : goal.loop-preserved
loop-preserved g c =
    let before = c.loop.invariant in
    c.add_one.ensures.ready (3 * (1000 - (c.loop.counter + 1)))
    (record { ready = before.ready; unheld = before.unheld; room = omega (arith, before.room, c.loop-test.true) })
