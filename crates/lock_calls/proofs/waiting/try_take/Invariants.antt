use Rattle.lock_calls.proofs.Names.{IsOf}
use Rattle.lock_calls.proofs.TriedSince.{StandsSince}
use Rattle.lock_calls.proofs.waiting.try_take.Given as goal

abbrev pub invariant-loop : goal.invariant-loop
invariant-loop g l = record {
  own : IsOf l.floor l.pass;
  stands : StandsSince l.floor.description l.fn.l l.fn.mode l.fn.pass.view l.pass;
}
