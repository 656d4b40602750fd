use Rattle.std.proofs.Common.{refl}
use Rattle.script_read.proofs.generator.Draws.over_two.Goals as goal

pub returns-clause-state : goal.returns-clause-state
returns-clause-state c = rw (c.adds-2.ensures.state, c.adds.ensures.state) refl
