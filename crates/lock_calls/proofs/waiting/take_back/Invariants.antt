use Rattle.lock_calls.proofs.Names.{IsOf}
use Rattle.lock_calls.proofs.TakenBack.{RetakesSince}
use Rattle.lock_calls.proofs.waiting.take_back.Given as goal

abbrev pub invariant-loop : goal.invariant-loop
invariant-loop g l = record {
  own : IsOf l.floor l.pass;
  stands : RetakesSince l.floor.description l.fn.l l.fn.mode l.fn.pass.view l.at l.pass.view;
}
