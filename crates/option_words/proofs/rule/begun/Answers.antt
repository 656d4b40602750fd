use Rattle.std.proofs.Common.{◌≡◌, ◌∙◌, true, false, List, [], ◌∷◌, length, ap, ap₂, arith, refl, sym}
use Rattle.std.specs.Prelude.{◌==◌}
use Rattle.std.specs.Borrow.{Bor}
use Rattle.std.proofs.lemmas.Bool.{eqb-true, true≢false}
use Rattle.std.proofs.lemmas.Result.{IfOk-weaker}
use Rattle.clap.specs.Words.{Rule, with_rule}
use Rattle.option_words.specs.Forms.{Text}
use Rattle.option_words.specs.Rule.{app_with, operand_rule, where_named}
use Rattle.option_words.proofs.rule.begun.Goals as goal

unnamed : (names : List (Bor Text)) (rule : Rule) → (length names == 0) ≡ true → [] ≡ where_named names rule
unnamed [] rule e = refl
unnamed (name ∷ names) rule e =
    let bad : length (name ∷ names) ≡ 0 = eqb-true _ _ e in
    absurd (omega arith)

named : (names : List (Bor Text)) (rule : Rule) → (length names == 0) ≡ false → rule ∷ [] ≡ where_named names rule
named [] rule e = absurd (true≢false e)
named (name ∷ names) rule e = refl

pub returns-then-is_empty : goal.returns-then-is_empty
returns-then-is_empty c =
    let s = c.args.synopsis.now in
    let none = sym c.is_empty.ensures ∙ c.if-is_empty.true in
    c.empty-command.ensures ∙ ap (app_with s) (unnamed s.operands.now (operand_rule s.operands) none)

pub returns : goal.returns
returns c =
    let s = c.args.synopsis.now in
    let some = sym c.is_empty.ensures ∙ c.if-is_empty.false in
    IfOk-weaker c.arg.result _ _ (λ r h. h.shape c.operand.ensures.own
    ∙ ap₂ with_rule c.empty-command.ensures c.operand.ensures.rule
    ∙ ap (app_with s) (named s.operands.now (operand_rule s.operands) some)) c.arg.ensures
