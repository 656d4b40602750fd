use Rattle.script_read.specs.Statements.{meant}
use Rattle.script_read.proofs.Cuts.{alone_more}
use Rattle.script_read.proofs.statement.no_word.Goals as goal

pub returns-in-Some : goal.returns-in-Some
returns-in-Some c = rw c.in-Some.is (alone_more (meant c.args.statement) c.in-Some.field-0.now)
