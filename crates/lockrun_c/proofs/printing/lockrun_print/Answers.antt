use Rattle.std.proofs.Common.{sym, subst}
use Rattle.lockrun_c.specs.Printing.{HasPrinted, IsLonger}
use Rattle.lockrun_c.proofs.printing.lockrun_print.Goals as goal

pub returns-clause-printed : goal.returns-clause-printed
returns-clause-printed c = λ z.
    subst (λ h. HasPrinted h c.args.out.now c.print_content.new.out c.print_content.new.written)
    (sym c.as_mut.ensures.value) (c.print_content.ensures.printed z)

pub returns-clause-no_space : goal.returns-clause-no_space
returns-clause-no_space c = λ z.
    subst (λ h. IsLonger h c.args.out.now c.print_content.new.written)
    (sym c.as_mut.ensures.value) (c.print_content.ensures.no_space z)
