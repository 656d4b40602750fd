use Rattle.lock_calls.proofs.Names.{IsOf}
use Rattle.lock_calls.proofs.Driven.{StandsSince}
use Rattle.lock_calls.proofs.waiting.take_or_halt.Given as goal

abbrev pub invariant-loop : goal.invariant-loop
invariant-loop g l = record {
  own : IsOf l.floor l.pass;
  stands : StandsSince l.floor.description l.fn.l l.fn.mode l.fn.pass.view l.pass;
}
