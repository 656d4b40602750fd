use Rattle.lock_floor.proofs.Names.{IsReady}
use Rattle.lock_floor.proofs.Taking.{HasWaited}
use Rattle.lock_floor.proofs.prios.FloorOf+Slot+View+Description+Law.show.Given as goal

abbrev pub invariant-loop : goal.invariant-loop
invariant-loop g l = record {
  ready : IsReady l.self l.pass;
  waited : HasWaited l.initial.pass.view l.pass.view;
}
