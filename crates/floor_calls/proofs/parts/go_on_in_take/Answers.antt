use Rattle.floor_calls.proofs.Names.{told, Takes}
use Rattle.floor_calls.proofs.Standing.{is_told, stands_behind, take_goes_on}
use Rattle.floor_calls.proofs.parts.go_on_in_take.Goals as goal

pub returns-clause-at : goal.returns-clause-at
returns-clause-at c =
    let part = c.go_on_taking-part in
    let f = c.args.floor.now in
    stands_behind told Takes part.result c.told.ensures c.behind.ensures f part.new.pass
    (take_goes_on f c.args.pass.now part.new.pass part.ensures.own part.result c.requires.there.1 part.ensures.went)

pub returns-clause-did : goal.returns-clause-did
returns-clause-did c =
    let part = c.go_on_taking-part in is_told told Takes part.result c.told.ensures c.behind.ensures part.ensures.went
