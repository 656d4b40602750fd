use Rattle.std.proofs.Common.{true, false, sym, ◌∙◌}
use Rattle.lock_history.specs.Endings.{ending_of}
use Rattle.turn_calls.proofs.Shown.{whole, cut}
use Rattle.turn_calls.proofs.text.last_of.Goals as goal

pub returns-then-all_ended : goal.returns-then-all_ended
returns-then-all_ended c r h =
    whole c.args.world.now.plan r (ending_of c.whole_ending.result)
    (sym (c.all_ended.ensures r h) ∙ c.if-all_ended.true)
    (c.whole_ending.ensures r h)

pub returns-then-nobody_goes_on : goal.returns-then-nobody_goes_on
returns-then-nobody_goes_on c r h =
    cut c.args.world.now.plan r true (sym (c.all_ended.ensures r h) ∙ c.if-all_ended.false)
    (sym (c.nobody_goes_on.ensures r h) ∙ c.if-nobody_goes_on.true)

pub returns-else-nobody_goes_on : goal.returns-else-nobody_goes_on
returns-else-nobody_goes_on c r h =
    cut c.args.world.now.plan r false (sym (c.all_ended.ensures r h) ∙ c.if-all_ended.false)
    (sym (c.nobody_goes_on.ensures r h) ∙ c.if-nobody_goes_on.false)
