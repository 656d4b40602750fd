use Rattle.std.proofs.Common.{◌∙◌, sym}
use Rattle.script_read.proofs.Cuts.{three_filled}
use Rattle.script_read.proofs.OpenBlocks.{none_there}
use Rattle.script_read.proofs.statement.three_words.Goals as goal

pub returns-in_err-second : goal.returns-in_err-second
returns-in_err-second c = λ f.
    let w = c.cut_word.result.0.now in
    rw (c.from_residual-in_err-second.ensures, c.in_ok-rest.was, c.cut_word.ensures)
    (c.in_err-second.ensures (f w) ∙ three_filled f w _ (none_there w ∙ sym c.is_empty.ensures ∙ c.if-is_empty.false))

pub returns : goal.returns
returns c = λ f.
    let w = c.cut_word.result.0.now in
    rw (c.in_ok-rest.was, c.cut_word.ensures)
    (c.in_ok-second.ensures (f w) ∙ three_filled f w _ (none_there w ∙ sym c.is_empty.ensures ∙ c.if-is_empty.false))
