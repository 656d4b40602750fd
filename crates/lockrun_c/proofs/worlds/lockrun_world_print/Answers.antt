use Rattle.std.proofs.Common.{sym, subst}
use Rattle.lockrun_c.specs.Worlds.{HasLongerText, HasPrintedWorld}
use Rattle.lockrun_c.proofs.worlds.lockrun_world_print.Goals as goal

pub returns-clause-printed : goal.returns-clause-printed
returns-clause-printed c = λ z.
    subst (λ h. HasPrintedWorld h c.args.out.now c.print_world.new.out c.print_world.new.written)
    (sym c.as_mut.ensures.value) (c.print_world.ensures.printed z)

pub returns-clause-no_space : goal.returns-clause-no_space
returns-clause-no_space c = λ z.
    subst (λ h. HasLongerText h c.args.out.now c.print_world.new.written)
    (sym c.as_mut.ensures.value) (c.print_world.ensures.no_space z)
