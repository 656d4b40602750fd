use Rattle.floor_calls.proofs.Names.{Ok, Err}
use Rattle.floor_calls.proofs.Standing.{made}
use Rattle.floor_calls.proofs.at_once.read.Goals as goal

pub returns-in-Ok : goal.returns-in-Ok
returns-in-Ok c = record {
  at = c.in-Ok.ensures.ready;
  does = made (Ok c.in-Ok.found) (c.in-Ok.ensures.entry, c.in-Ok.ensures.steps);
}

pub returns-in-Err : goal.returns-in-Err
returns-in-Err c = record {
  at = c.in-Err.ensures.ready;
  does = made (Err c.in-Err.field-0) (c.in-Err.ensures.left, c.in-Err.ensures.elsewhere);
}
