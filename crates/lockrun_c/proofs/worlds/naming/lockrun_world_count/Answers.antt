use Rattle.std.proofs.Common.{sym, subst}
use Rattle.lockrun_c.specs.Worlds.{HasCounted}
use Rattle.lockrun_c.proofs.worlds.naming.lockrun_world_count.Goals as goal

pub returns-clause-told : goal.returns-clause-told
returns-clause-told c = λ z.
    subst (λ h. HasCounted h c.count.new.counts) (sym c.as_mut.ensures.value) (c.count.ensures.told z)
