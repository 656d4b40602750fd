use Rattle.std.proofs.Common.{refl}
use Rattle.script_read.proofs.generator.Draws.adds.Goals as goal

pub returns-clause-added : goal.returns-clause-added
returns-clause-added c = rw (c.one_of-key.ensures.drawn, c.one_of-amount.ensures.drawn, c.one_of-key.ensures.state) refl

pub returns-clause-state : goal.returns-clause-state
returns-clause-state c = rw (c.one_of-amount.ensures.state, c.one_of-key.ensures.state) refl
