use Rattle.script_read.proofs.Generating.{drawn_next, drawn_of}
use Rattle.script_read.proofs.generator.Draws.one_of.Goals as goal

pub returns-clause-drawn : goal.returns-clause-drawn
returns-clause-drawn c = drawn_of c.args.k c.args.self.now.state

pub returns-clause-state : goal.returns-clause-state
returns-clause-state c = drawn_next c.args.self.now.state
