use Rattle.lock_floor.proofs.Names.{sym, subst, arith, IsSized, is_sized}
use Rattle.lock_floor.proofs.keeper.FloorOf+Slot+View+Description+Law.make.Goals as goal

pub of_plan-requires : goal.of_plan-requires
of_plan-requires c = omega (arith, c.requires.proper.operations)

pub of_description-requires : goal.of_description-requires
of_description-requires c =
    let r = c.requires in
    subst IsSized (sym c.in_ok-of_plan.ensures)
    (is_sized c.args.plan.now c.args.chains r.proper r.some_chains r.few_chains)
