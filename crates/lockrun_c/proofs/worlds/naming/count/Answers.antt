use Rattle.std.proofs.Common.{Some, ap, ◌∙◌}
use Rattle.lockrun_c.specs.Worlds.{counts_of}
use Rattle.lockrun_c.proofs.worlds.naming.count.Goals as goal

pub returns-in-World-clause-told : goal.returns-in-World-clause-told
returns-in-World-clause-told c =
    λ z. (c.in-World.world, ap Some c.in-World.is, c.counts_of.ensures ∙ ap counts_of c.plan.ensures)
