use Rattle.std.proofs.Common.{arith, ap, subst}
use Rattle.option_words.specs.Words.{AreTaken, text_in}
use Rattle.chart_command.specs.Forms.{in_order, table}
use Rattle.chart_command.proofs.Read.{ranges}
use Rattle.chart_command.proofs.reading.read_options.Goals as goal

pub returns-then-said-clause-usage : goal.returns-then-said-clause-usage
returns-then-said-clause-usage c = λ is.
    rw (c.in_ok-given.ensures.asked, c.in-Texts.is) (grind (arith, ap in_order c.said_by-said.ensures, c.if-said.true))

pub returns-else-said-clause-asked : goal.returns-else-said-clause-asked
returns-else-said-clause-asked c =
    rw (c.in_ok-given.ensures.asked, c.in-Texts.is) (grind (arith, ap in_order c.said_by-said.ensures, c.if-said.false))

pub returns-else-said-clause-ranges : goal.returns-else-said-clause-ranges
returns-else-said-clause-ranges c =
    let taken = subst (AreTaken table) c.in-Texts.is c.in_ok-given.ensures.kinds in
    (ranges (text_in c.in-Texts.given) c.said_by-said.result taken c.said_by-said.ensures, c.if-said.false)
