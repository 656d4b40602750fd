use Rattle.lock_calls.proofs.Names.{IsOf}
use Rattle.lock_calls.proofs.GivenUp.{GivesUpSince}
use Rattle.lock_calls.proofs.waiting.give_up_held.Given as goal

abbrev pub invariant-loop : goal.invariant-loop
invariant-loop g l = record {
  own : IsOf l.floor l.pass;
  stands : GivesUpSince l.floor.description l.fn.l l.fn.mode l.fn.pass.view l.at l.pass.view;
}
