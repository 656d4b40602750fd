use Rattle.std.proofs.Common.{◌≡◌, ◌+◌, ◌-◌, ◌≤◌}
use Rattle.lock_model.specs.Holds.{Holds}
use Rattle.lock_model.specs.Operations.{hold_in}
use Rattle.lock_model.specs.declared.plan.Mode.TheVariants.{Excl}
use Rattle.lock_floor.specs.Passes.{IsReady}
use Rattle.program_tests.proofs.mutexes.gets_the_loan.Given as goal

abbrev pub invariant-loop : goal.invariant-loop
invariant-loop g l = record {
  ready : IsReady l.floor l.pass;
  held : hold_in l.pass.view.share.held 0 ≡ Holds Excl;
  room : 2 + (1000 - l.counter) ≤ l.pass.view.spare;
}
