use Rattle.std.proofs.Common.{Some, refl, ap}
use Rattle.lockrun_c.proofs.opening.hand_out.Goals as goal

pub returns-in-Open-clause-handed_out : goal.returns-in-Open-clause-handed_out
returns-in-Open-clause-handed_out c = λ z.
    let g = c.hand_out_of.ensures.handed_out z in
    (c.in-Open.house, c.hand_out_of.new.house, g.0, ap Some c.in-Open.is, refl, g.2, g.1)

pub returns-in-Open-clause-no_thread : goal.returns-in-Open-clause-no_thread
returns-in-Open-clause-no_thread c = λ z. (c.in-Open.house, ap Some c.in-Open.is, c.hand_out_of.ensures.no_thread z)
