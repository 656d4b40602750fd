use Rattle.lock_floor.proofs.FirstOn.{none_second, some_second}
use Rattle.lock_floor.proofs.halting.is_alone.Goals as goal

pub returns-in-None : goal.returns-in-None
returns-in-None c = λ w ws is. none_second _ ws w is c.in-None.ensures

pub returns-in-Some : goal.returns-in-Some
returns-in-Some c = λ w ws is. some_second _ ws w _ is c.in-Some.ensures
