use Rattle.floor_calls.proofs.Names.{told_of_try, Tries}
use Rattle.floor_calls.proofs.Standing.{is_told, stands_behind, try_goes_on}
use Rattle.floor_calls.proofs.parts.go_on_in_try.Goals as goal

pub returns-clause-at : goal.returns-clause-at
returns-clause-at c =
    let part = c.go_on_trying-part in
    let f = c.args.floor.now in
    stands_behind told_of_try Tries part.result c.told_of_try.ensures c.behind.ensures f part.new.pass
    (try_goes_on f c.args.pass.now part.new.pass part.ensures.own part.result c.requires.there.1 part.ensures.went)

pub returns-clause-did : goal.returns-clause-did
returns-clause-did c =
    let part = c.go_on_trying-part in
    is_told told_of_try Tries part.result c.told_of_try.ensures c.behind.ensures part.ensures.went
