use Rattle.step_world.proofs.Names.{sym, config_of}
use Rattle.std.proofs.Common.{◌∙◌}
use Rattle.step_world.proofs.Telling.{waits_in_chain, waits_in_sleepers}
use Rattle.step_world.proofs.world.reading.stands.Goals as goal

pub returns-then-has_turnstile : goal.returns-then-has_turnstile
returns-then-has_turnstile c s h lawful =
    c.waits.ensures ∙ waits_in_chain c.args.machine.now (config_of c.args.plan.now) s h lawful c.args.t.0 c.args.q
    (sym c.has_turnstile.ensures ∙ c.if-has_turnstile.true)

pub returns-else-has_turnstile : goal.returns-else-has_turnstile
returns-else-has_turnstile c s h lawful =
    c.waits-else-has_turnstile.ensures ∙ waits_in_sleepers c.args.machine.now
    (config_of c.args.plan.now) s h lawful c.args.t.0 c.args.q (sym c.has_turnstile.ensures ∙ c.if-has_turnstile.false)
