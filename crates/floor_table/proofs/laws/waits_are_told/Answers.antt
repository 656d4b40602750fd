use Rattle.floor_table.proofs.Poses.{one_wait}
use Rattle.floor_table.proofs.laws.waits_are_told.Goals as goal

pub returns : goal.returns
returns c pose a b on other here there same = one_wait pose a b on other here there same
