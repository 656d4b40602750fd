use Rattle.lock_floor.proofs.MarkedRecords.{lacks}
use Rattle.lock_floor.proofs.laws.marked_records_lack_objects.Goals as goal

pub returns : goal.returns
returns c floor old new m ms b k marked is = lacks floor old new m ms marked b k is
