use Rattle.std.proofs.Common.{List, sym, ap, ◌∙◌}
use Rattle.tick_sleep.specs.declared.plan.TickSleeper.{TickSleeper}
use Rattle.tick_sleep.proofs.Expiry.{all_stay}
use Rattle.tick_sleep.proofs.run.push_timeouts.Goals as goal

pub returns-clause-state : goal.returns-clause-state
returns-clause-state c =
    c.in_default.ensures.kept
    ∙ ap (λ (ss : List TickSleeper). record c.loop-t.queue.ticks { sleepers = ss })
    (sym (all_stay c.loop-t.queue.ticks.tick c.loop-t.queue.ticks.sleepers c.in_default.ensures.none))
    ∙ c.loop-t.invariant.state
