use Rattle.lock_floor.specs.Passes.{IsOf}
use Rattle.halting.proofs.Ended.{EndsSince}
use Rattle.halting.proofs.ending.end_thread.Given as goal

abbrev pub invariant-loop : goal.invariant-loop
invariant-loop g l = record {
  own : IsOf l.floor l.pass;
  stands : EndsSince l.floor.description l.fn.pass.view l.pass.view;
}
