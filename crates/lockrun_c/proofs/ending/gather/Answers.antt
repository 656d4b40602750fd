use Rattle.std.proofs.Common.{Some, refl, ap}
use Rattle.lockrun_c.proofs.ending.gather.Goals as goal

pub gather_in-requires-clause-of_floor : goal.gather_in-requires-clause-of_floor
gather_in-requires-clause-of_floor c = λ x e. c.requires.of_floor c.in-Open.house x (ap Some c.in-Open.is) e

pub returns-in-Open-clause-gathered : goal.returns-in-Open-clause-gathered
returns-in-Open-clause-gathered c = λ z.
    let g = c.gather_in.ensures.gathered z in
    let left = record c.in-Open.house { floor = c.gather_in.new.floor } in
    (c.in-Open.house, left, g.0, ap Some c.in-Open.is, refl, g.1, g.2, refl)
