use Rattle.lock_floor.proofs.Names.{refl}
use Rattle.lock_floor.proofs.FirstOn.{none_first, some_first}
use Rattle.lock_floor.proofs.halting.first_on.Goals as goal

pub returns-in-None-clause-none : goal.returns-in-None-clause-none
returns-in-None-clause-none c = none_first _ c.in-None.ensures

pub returns-in-Some-clause-some : goal.returns-in-Some-clause-some
returns-in-Some-clause-some c =
    let ws = some_first _ _ c.in-Some.ensures in
    (refl, (_, ws.0, ws.1, refl, c.is_alone.ensures _ ws.0 ws.1))
