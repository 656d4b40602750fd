use Rattle.script_read.proofs.Cuts.{one_more}
use Rattle.script_read.proofs.statement.one_word.Goals as goal

pub returns-in-Some : goal.returns-in-Some
returns-in-Some c = λ f. rw (c.in_ok-rest.was, c.cut_word.ensures, c.in-Some.is)
    (one_more f c.cut_word.result.0.now c.in-Some.field-0.now)
