use Rattle.std.proofs.Common.{Some, sym, subst}
use Rattle.lockrun_c.specs.Endings.{HasHandedOut, HasNoneWaiting}
use Rattle.lockrun_c.proofs.opening.lockrun_next_thread.Goals as goal

pub returns-clause-handed_out : goal.returns-clause-handed_out
returns-clause-handed_out c = λ z.
    subst (λ h. HasHandedOut h (Some c.hand_out.new.content) c.hand_out.new.thread.held.home)
    (sym c.as_mut.ensures.value) (c.hand_out.ensures.handed_out z)

pub returns-clause-no_thread : goal.returns-clause-no_thread
returns-clause-no_thread c = λ z.
    subst HasNoneWaiting (sym c.as_mut.ensures.value) (c.hand_out.ensures.no_thread z)
