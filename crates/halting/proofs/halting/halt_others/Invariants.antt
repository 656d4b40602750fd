use Rattle.lock_floor.specs.Passes.{IsOf}
use Rattle.halting.proofs.Whole.{HaltsSince}
use Rattle.halting.proofs.halting.halt_others.Given as goal

abbrev pub invariant-loop : goal.invariant-loop
invariant-loop g l = record {
  own : IsOf l.floor l.pass;
  stands : HaltsSince l.floor.description l.fn.pass.view l.at l.pass.view;
}
