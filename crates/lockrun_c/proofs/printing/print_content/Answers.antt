use Rattle.std.proofs.Common.{Some, sym, subst, ap}
use Rattle.lockrun_c.specs.Printing.{IsTextOf}
use Rattle.lockrun_c.proofs.printing.print_content.Goals as goal

pub returns-in-Ok-clause-printed : goal.returns-in-Ok-clause-printed
returns-in-Ok-clause-printed c = λ z. (
  c.in-Closed.remains,
  c.as_slice.result.now,
  ap Some c.in-Closed.is,
  subst (IsTextOf c.in-Closed.remains) (sym c.as_slice.ensures.value) c.in-Ok.ensures,
  c.put.ensures.printed z,
  c.put.ensures.written,
)

pub returns-in-Ok-clause-no_space : goal.returns-in-Ok-clause-no_space
returns-in-Ok-clause-no_space c = λ z. (
  c.in-Closed.remains,
  c.as_slice.result.now,
  ap Some c.in-Closed.is,
  subst (IsTextOf c.in-Closed.remains) (sym c.as_slice.ensures.value) c.in-Ok.ensures,
  c.put.ensures.no_space z,
  c.put.ensures.written,
)
