use Rattle.std.proofs.Common.{Some, refl, ap, ◌∙◌}
use Rattle.lockrun_c.proofs.opening.hand_next.Goals as goal

pub returns : goal.returns
returns c = (
  c.in-Some.next,
  record { waiting = c.in-Some.ensures.items; floor = refl; names = refl },
  c.put_there.ensures ∙ ap Some c.put_in.ensures,
)
