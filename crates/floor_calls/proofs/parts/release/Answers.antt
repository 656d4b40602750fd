use Rattle.floor_calls.proofs.Names.{told, Releases}
use Rattle.floor_calls.proofs.Standing.{both, is_told, stands_behind, release_begins}
use Rattle.floor_calls.proofs.parts.release.Goals as goal

pub returns : goal.returns
returns c =
    let part = c.begin_release-part in
    let f = c.args.floor.now in
    let is = both c.begun.ensures.next c.begun.ensures.stands in
    record {
      at =
          stands_behind told Releases part.result c.told.ensures is f part.new.pass
          (release_begins f c.args.pass.now part.new.pass part.ensures.own c.args.l c.args.mode part.result
          part.ensures.begun);
      does = is_told told Releases part.result c.told.ensures is part.ensures.begun;
    }
