use Rattle.std.proofs.Common.{sym, ◌∙◌}
use Rattle.plan_command.proofs.Read.{no_text, seeded, some_text, unseeded}
use Rattle.plan_command.proofs.reading.by_priority.Goals as goal

pub returns-then-is_some : goal.returns-then-is_some
returns-then-is_some c =
    seeded _ _ (sym (some_text c.text.result _ c.is_some.result c.is_some.ensures c.text.ensures) ∙ c.if-is_some.true)

pub returns : goal.returns
returns c =
    unseeded _ _ c.is_none-heeds_loans.result
    (sym (some_text c.text.result _ c.is_some.result c.is_some.ensures c.text.ensures) ∙ c.if-is_some.false)
    (no_text c.text-2.result _ c.is_none-heeds_loans.result c.is_none-heeds_loans.ensures c.text-2.ensures)
