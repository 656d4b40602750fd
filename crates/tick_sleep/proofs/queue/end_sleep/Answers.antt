use Rattle.std.proofs.Common.{sym, ◌∙◌}
use Rattle.tick_sleep.proofs.Rolling.{none_left}
use Rattle.tick_sleep.proofs.queue.end_sleep.Goals as goal

pub returns-in_default-clause-roll : goal.returns-in_default-clause-roll
returns-in_default-clause-roll c =
    sym (none_left c.args.t.0 c.args.roll.now (sym c.get.ensures.found ∙ c.in_default.is))
