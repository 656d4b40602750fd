use Rattle.std.proofs.Common.{sym, subst}
use Rattle.lockrun_c.specs.Worlds.{HasNoSuchThread, HasToldThread}
use Rattle.lockrun_c.proofs.worlds.lockrun_world_thread.Goals as goal

pub returns-clause-told : goal.returns-clause-told
returns-clause-told c = λ z.
    subst (λ h. HasToldThread c.args.thread h c.tell_thread.new.told)
    (sym c.as_mut.ensures.value) (c.tell_thread.ensures.told z)

pub returns-clause-no_such : goal.returns-clause-no_such
returns-clause-no_such c = λ z.
    subst (HasNoSuchThread c.args.thread) (sym c.as_mut.ensures.value) (c.tell_thread.ensures.no_such z)
