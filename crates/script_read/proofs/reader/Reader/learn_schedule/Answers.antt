use Rattle.std.proofs.Common.{List, sym, ap, ◌∙◌, arith}
use Rattle.std.proofs.lemmas.List.{append-nil}
use Rattle.lock_model.proofs.LeastCodes.{least_is_first}
use Rattle.lock_model.specs.declared.numbers.ThreadNo.{ThreadNo}
use Rattle.script_read.specs.Readers.{known}
use Rattle.script_read.proofs.reader.Reader.learn_schedule.Goals as goal

pub returns : goal.returns
returns c = (
  grind (arith, least_is_first),
  sym (rw c.in_default.is at c.loop-rest.invariant.learnt)
      ∙ ap (λ (s : List ThreadNo). record (known c.loop-rest.self) { schedule = s })
      (append-nil c.loop-rest.self.schedule.items),
)
