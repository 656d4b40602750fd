use Rattle.floor_calls.proofs.Standing.{at_stage}
use Rattle.floor_calls.proofs.Waiting.{still_back, taking_back_goes_on}
use Rattle.floor_calls.proofs.waits.take_back.Goals as goal

pub retake_on-part-requires-clause-back : goal.retake_on-part-requires-clause-back
retake_on-part-requires-clause-back c =
    still_back c.args.floor.now.description c.args.on c.args.aborted c.args.pass.now.view c.args.at
    c.requires.there.1

pub retake_on-part-requires-clause-checked : goal.retake_on-part-requires-clause-checked
retake_on-part-requires-clause-checked c = c.requires.there.1.unchecked

pub retake_on-part-requires-clause-under_way : goal.retake_on-part-requires-clause-under_way
retake_on-part-requires-clause-under_way c = c.requires.there.1.under

pub returns-clause-at : goal.returns-clause-at
returns-clause-at c =
    let part = c.retake_on-part in
    at_stage c.args.floor.now part.new.pass c.stage_of_taking_back.ensures
    (taking_back_goes_on c.args.floor.now c.args.on c.args.pass.now part.new.pass part.ensures.own c.args.aborted
    c.args.at part.result c.requires.there.1 part.ensures.on)

pub returns-clause-did : goal.returns-clause-did
returns-clause-did c =
    let part = c.retake_on-part in
    record {
      part = part.result;
      tells = c.told_of_taking_back.ensures;
      stands = c.stage_of_taking_back.ensures;
      did = part.ensures.on;
    }
