use Rattle.std.proofs.Common.{[], subst}
use Rattle.lock_io.specs.Whole.{AddsFront}
use Rattle.complaints.proofs.Fronts.{behind, within}
use Rattle.remarks.proofs.Shapes.{none}
use Rattle.remarks.proofs.saying.tell.Goals as goal

pub returns-in_err-say-clause-front : goal.returns-in_err-say-clause-front
returns-in_err-say-clause-front g c = ([], none, within _ _ _ [] c.in_err-say.ensures.front)

pub returns-in_default-clause-front : goal.returns-in_default-clause-front
returns-in_default-clause-front g c = ([], none, within _ _ _ [] c.in_ok-say.ensures.front)

pub returns-in-Ok-clause-front : goal.returns-in-Ok-clause-front
returns-in-Ok-clause-front g c = (
  c.in-Ok.more.items,
  c.in-Ok.ensures,
  behind _ _ _ _ _ c.in_ok-say.ensures.said
      (subst (AddsFront _ _) c.deref.ensures.value c.write_all.ensures.front),
)

pub returns-in-Err-clause-front : goal.returns-in-Err-clause-front
returns-in-Err-clause-front g c = ([], none, within _ _ _ [] c.in_ok-say.ensures.front)
