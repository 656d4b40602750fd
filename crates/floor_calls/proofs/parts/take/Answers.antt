use Rattle.floor_calls.proofs.Names.{told, Takes}
use Rattle.floor_calls.proofs.Standing.{both, is_told, stands_behind, take_begins}
use Rattle.floor_calls.proofs.parts.take.Goals as goal

pub returns : goal.returns
returns c =
    let part = c.begin_take-part in
    let f = c.args.floor.now in
    let is = both c.begun.ensures.next c.begun.ensures.stands in
    record {
      at =
          stands_behind told Takes part.result c.told.ensures is f part.new.pass
          (take_begins f c.args.pass.now part.new.pass part.ensures.own c.args.l c.args.mode part.result
          part.ensures.begun);
      does = is_told told Takes part.result c.told.ensures is part.ensures.begun;
    }
