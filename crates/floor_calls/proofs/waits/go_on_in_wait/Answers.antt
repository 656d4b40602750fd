use Rattle.floor_calls.proofs.Standing.{at_stage}
use Rattle.floor_calls.proofs.Waiting.{wait_goes_on}
use Rattle.floor_calls.proofs.waits.go_on_in_wait.Goals as goal

pub returns-clause-at : goal.returns-clause-at
returns-clause-at c =
    let part = c.go_on_waiting-part in
    at_stage c.args.floor.now part.new.pass c.stage_of_wait.ensures
    (wait_goes_on c.args.floor.now c.args.on c.args.pass.now part.new.pass part.ensures.own c.args.at part.result
    c.requires.there.2 part.ensures.then part.ensures.part)

pub returns-clause-did : goal.returns-clause-did
returns-clause-did c =
    let part = c.go_on_waiting-part in
    record {
      part = part.result;
      tells = c.told_of_wait.ensures;
      stands = c.stage_of_wait.ensures;
      did = part.ensures.part;
    }
