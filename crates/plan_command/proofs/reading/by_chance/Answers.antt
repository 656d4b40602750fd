use Rattle.std.proofs.Common.{option_map, sym, ap, ◌∙◌}
use Rattle.turn_policy.specs.declared.policy.Policy.TheVariants.{Chance}
use Rattle.plan_command.proofs.Read.{chance_is, loans_said, some_text}
use Rattle.plan_command.proofs.reading.by_chance.Goals as goal

pub returns-then-is_some : goal.returns-then-is_some
returns-then-is_some c =
    loans_said _ _ (sym (some_text c.text.result _ c.is_some.result c.is_some.ensures c.text.ensures)
    ∙ c.if-is_some.true)

pub returns-in_err-seed : goal.returns-in_err-seed
returns-in_err-seed c =
    c.from_residual.ensures
    ∙ ap (option_map Chance) (sym c.in_err-seed.was)
    ∙ chance_is _ _ c.number.result
    (sym (some_text c.text.result _ c.is_some.result c.is_some.ensures c.text.ensures) ∙ c.if-is_some.false)
    c.number.ensures

pub returns : goal.returns
returns c =
    ap (option_map Chance) (sym c.in_ok-seed.was)
    ∙ chance_is _ _ c.number.result
    (sym (some_text c.text.result _ c.is_some.result c.is_some.ensures c.text.ensures) ∙ c.if-is_some.false)
    c.number.ensures
