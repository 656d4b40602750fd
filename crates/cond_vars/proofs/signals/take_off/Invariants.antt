use Rattle.lock_floor.specs.Passes.{IsOf}
use Rattle.lock_floor.proofs.Taking.{HasWaited}
use Rattle.cond_vars.proofs.signals.take_off.Given as goal

abbrev pub invariant-loop : goal.invariant-loop
invariant-loop g l = record {
  own : IsOf l.floor l.pass;
  waited : HasWaited l.fn.pass.view l.pass.view;
}
