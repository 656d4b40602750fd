use Rattle.floor_calls.proofs.Standing.{at_stage}
use Rattle.floor_calls.proofs.Waiting.{giving_up_goes_on}
use Rattle.floor_calls.proofs.waits.give_up.Goals as goal

pub release_on-part-requires-clause-lock : goal.release_on-part-requires-clause-lock
release_on-part-requires-clause-lock c = c.requires.there.1.first.of_floor

pub release_on-part-requires-clause-there : goal.release_on-part-requires-clause-there
release_on-part-requires-clause-there c = c.requires.there.1.there

pub returns-clause-at : goal.returns-clause-at
returns-clause-at c =
    let part = c.release_on-part in
    at_stage c.args.floor.now part.new.pass c.stage_of_giving_up.ensures
    (giving_up_goes_on c.args.floor.now c.args.on c.args.pass.now part.new.pass part.ensures.own c.args.at
    part.result c.requires.there.1 part.ensures.part)

pub returns-clause-did : goal.returns-clause-did
returns-clause-did c =
    let part = c.release_on-part in
    record {
      part = part.result;
      tells = c.told_of_giving_up.ensures;
      stands = c.stage_of_giving_up.ensures;
      did = part.ensures.part;
    }
