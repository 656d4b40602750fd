use Rattle.std.proofs.Common.{[]}
use Rattle.lock_floor.specs.Marks.{with_marks}
use Rattle.lock_floor.specs.Passes.{IsOf, IsAtRest}
use Rattle.cond_vars.proofs.Woken.{WakesSince}
use Rattle.cond_vars.proofs.signals.wake_marked.Given as goal

abbrev pub invariant-loop : goal.invariant-loop
invariant-loop g l = record {
  own : IsOf l.floor l.pass;
  rest : IsAtRest l.floor.description (with_marks l.pass.view []);
  since : WakesSince l.floor.description l.fn.pass.view l.pass.view;
}
