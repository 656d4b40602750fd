use Rattle.std.proofs.Common.{sym, subst}
use Rattle.lockrun_c.specs.Worlds.{HasNamed, HasNoSuchName}
use Rattle.lockrun_c.proofs.worlds.naming.lockrun_world_name.Goals as goal

pub returns-clause-told : goal.returns-clause-told
returns-clause-told c = λ z.
    subst (λ h. HasNamed c.args.sort c.args.number h c.tell_name.new.name.bytes)
    (sym c.as_mut.ensures.value) (c.tell_name.ensures.told z)

pub returns-clause-no_such : goal.returns-clause-no_such
returns-clause-no_such c = λ z.
    subst (HasNoSuchName c.args.sort c.args.number) (sym c.as_mut.ensures.value) (c.tell_name.ensures.no_such z)
