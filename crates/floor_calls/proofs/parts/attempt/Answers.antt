use Rattle.floor_calls.proofs.Names.{told_of_try, Tries}
use Rattle.floor_calls.proofs.Standing.{both, is_told, stands_behind, try_begins}
use Rattle.floor_calls.proofs.parts.attempt.Goals as goal

pub returns : goal.returns
returns c =
    let part = c.begin_try-part in
    let f = c.args.floor.now in
    let is = both c.begun.ensures.next c.begun.ensures.stands in
    record {
      at =
          stands_behind told_of_try Tries part.result c.told_of_try.ensures is f part.new.pass
          (try_begins f c.args.pass.now part.new.pass part.ensures.own c.args.l c.args.mode part.result
          part.ensures.begun);
      does = is_told told_of_try Tries part.result c.told_of_try.ensures is part.ensures.begun;
    }
