use Rattle.tick_sleep.specs.Words.{meant}
use Rattle.tick_sleep.proofs.Cuts.{alone_more}
use Rattle.tick_sleep.proofs.statement.no_word.Goals as goal

pub returns-in-Some : goal.returns-in-Some
returns-in-Some c = rw c.in-Some.is (alone_more (meant c.args.statement) c.in-Some.field-0.now)
