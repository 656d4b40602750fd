use Rattle.std.proofs.Common.{◌∙◌, ap, sym}
use Rattle.lock_model.specs.Script.Lines.{is_same}
use Rattle.script_read.proofs.FirstWords.{unknown_word, other_word, known_word}
use Rattle.script_read.proofs.statement.verb_of.Goals as goal

pub returns-in_err-verb : goal.returns-in_err-verb
returns-in_err-verb c = rw c.from_residual.ensures (unknown_word c.args.word.now (sym c.in_err-verb.ensures))

pub returns-then-is_word : goal.returns-then-is_word
returns-then-is_word c =
    let w = c.args.word.now in
    let v = c.in_ok-verb.verb in
    known_word w v (sym c.in_ok-verb.ensures)
    (sym (ap (is_same w) c.word.ensures) ∙ sym c.is_word.ensures ∙ c.if-is_word.true)

pub returns-else-is_word : goal.returns-else-is_word
returns-else-is_word c =
    let w = c.args.word.now in
    let v = c.in_ok-verb.verb in
    other_word w v (sym c.in_ok-verb.ensures)
    (sym (ap (is_same w) c.word.ensures) ∙ sym c.is_word.ensures ∙ c.if-is_word.false)
