use Rattle.std.proofs.Common.{◌∙◌}
use Rattle.tick_sleep.proofs.Cuts.{two_more}
use Rattle.tick_sleep.proofs.statement.two_words.Goals as goal

pub returns-in_err-second : goal.returns-in_err-second
returns-in_err-second c = λ f.
    let w = c.cut_word.result.0.now in
    rw (c.from_residual-in_err-second.ensures, c.in_ok-rest.was, c.cut_word.ensures)
    (c.in_err-second.ensures (f w) ∙ two_more f w _)

pub returns : goal.returns
returns c = λ f.
    let w = c.cut_word.result.0.now in
    rw (c.in_ok-rest.was, c.cut_word.ensures) (c.in_ok-second.ensures (f w) ∙ two_more f w _)
