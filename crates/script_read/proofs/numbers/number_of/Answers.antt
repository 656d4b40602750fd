use Rattle.std.proofs.Common.{◌≡◌, ◌∙◌, ◌+◌, ◌==◌, length, true, false, take, sym, arith}
use Rattle.std.proofs.lemmas.List.{take_all}
use Rattle.lock_model.specs.Script.Lines.{is_numeral}
use Rattle.script_read.proofs.Digits.{value-take, value-next, too_large, short_numeral, long_numeral, spells}
use Rattle.script_read.proofs.numbers.number_of.Goals.{then-word-gt1, else-word-gt1}
use Rattle.script_read.proofs.numbers.number_of.Goals as goal

pub returns-in_err-number : goal.returns-in_err-number
returns-in_err-number c =
    let w = c.args.word.now in
    let i = c.loop-b.b-index in
    c.from_residual.ensures
    ∙ sym (too_large w (omega
    (arith, value-take w (i + 1), value-next w i c.loop-b-test.true, c.in_err-number.ensures)))

pub returns : goal.returns
returns c =
    let w = c.args.word.now in
    let whole : take c.loop-b.b-index w ≡ w = take_all _ _ c.loop-b-test.false in
    let digits = rw whole at c.loop-b.invariant.digits in
    let filled : (length w == 0) ≡ false = sym c.is_empty.ensures ∙ c.if-is_empty.false in
    let numeral : is_numeral w ≡ true = elim c.if-word-gt1.branch [
      | then-word-gt1 v ↦ long_numeral w v.if-word-gt1.true (sym v.value-is ∙ c.if-word-eq48.false) digits
      | else-word-gt1 v ↦ short_numeral w filled v.if-word-gt1.false digits
    ] in
    spells w _ numeral (rw whole at c.loop-b.invariant.value) c.loop-b.invariant.small
