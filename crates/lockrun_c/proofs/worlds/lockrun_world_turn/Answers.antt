use Rattle.std.proofs.Common.{Some, sym, subst}
use Rattle.lockrun_c.specs.Worlds.{HasNoSuchThread, HasTurned}
use Rattle.lockrun_c.proofs.worlds.lockrun_world_turn.Goals as goal

pub returns-clause-turned : goal.returns-clause-turned
returns-clause-turned c = λ z.
    subst (λ h. HasTurned c.args.thread h (Some c.turn.new.content) c.turn.new.did)
    (sym c.as_mut.ensures.value) (c.turn.ensures.turned z)

pub returns-clause-no_such : goal.returns-clause-no_such
returns-clause-no_such c = λ z.
    subst (HasNoSuchThread c.args.thread) (sym c.as_mut.ensures.value) (c.turn.ensures.no_such z)
