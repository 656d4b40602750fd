use Rattle.step_world.proofs.Names.{ap}
use Rattle.std.proofs.Common.{◌∙◌}
use Rattle.step_world.proofs.world.World.priorities.Goals as goal

pub returns-clause-base : goal.returns-clause-base
returns-clause-base c r h = c.base.ensures ∙ ap (λ x. x.base) c.deref.ensures
    ∙ ap (λ x. x.its_record.base) (h.shows.shows.threads.thread c.args.t.0 c.thread.result.now c.thread.ensures).columns

pub returns-clause-effective : goal.returns-clause-effective
returns-clause-effective c r h = c.eff.ensures.value ∙ ap (λ x. x.effective) c.deref-2.ensures ∙ ap
    (λ x. x.its_record.effective) (h.shows.shows.threads.thread c.args.t.0 c.thread.result.now c.thread.ensures).columns
