use Rattle.std.proofs.Common.{ap, ◌∙◌, arith}
use Rattle.lock_model.specs.Operations.{hold_in}
use Rattle.program_tests.proofs.mutexes.gets_the_loan.Goals as goal

pub loop-preserved : goal.loop-preserved
loop-preserved g c =
    let before = c.loop.invariant in
    let entry = c.show.ensures.entry in
    record {
      ready = c.show.ensures.ready;
      held = ap (λ hs. hold_in hs 0) entry.held ∙ before.held;
      room = omega (arith, before.room, entry.spare, c.loop-test.true);
    }
