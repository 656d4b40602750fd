use Rattle.std.proofs.Common.{[], subst}
use Rattle.lock_io.specs.Whole.{AddsFront}
use Rattle.complaints.proofs.Fronts.{behind, within}
use Rattle.complaints.specs.Complaints.{complaint_of}
use Rattle.complaints.specs.declared.status.Status.TheVariants as status
use Rattle.remarks.proofs.Shapes.{none}
use Rattle.remarks.proofs.saying.tell_usage.Goals as goal

pub returns-in_err-say-clause-front : goal.returns-in_err-say-clause-front
returns-in_err-say-clause-front g c = (
  [],
  none,
  within _ _ (complaint_of c.args.program status.Usage []) [] c.in_err-say.ensures.front,
)

pub returns-in-Ok-clause-front : goal.returns-in-Ok-clause-front
returns-in-Ok-clause-front g c = (
  c.in-Ok.more.items,
  c.in-Ok.ensures,
  behind _ _ _ (complaint_of c.args.program status.Usage []) _ c.in_ok-say.ensures.said
      (subst (AddsFront _ _) c.deref.ensures.value c.write_all.ensures.front),
)

pub returns-in-Err-clause-front : goal.returns-in-Err-clause-front
returns-in-Err-clause-front g c = (
  [],
  none,
  within _ _ (complaint_of c.args.program status.Usage []) [] c.in_ok-say.ensures.front,
)
