use Rattle.step_world.proofs.Names.{sym, ap, gained_order}
use Rattle.std.proofs.Common.{◌∙◌}
use Rattle.step_world.proofs.Telling.{in_order}
use Rattle.step_world.proofs.world.World.held.Goals as goal

pub returns-clause-order : goal.returns-clause-order
returns-clause-order c r h =
    let w = c.args.self.now in
    in_order w.plan w.machine r c.args.t.0 c.thread.result.now h c.requires c.thread.ensures
    ∙ ap gained_order (sym c.deref.ensures.value)
