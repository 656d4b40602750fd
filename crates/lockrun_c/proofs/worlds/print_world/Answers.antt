use Rattle.std.proofs.Common.{Some, ap}
use Rattle.lockrun_c.proofs.worlds.print_world.Goals as goal

pub returns-in-Some-clause-printed : goal.returns-in-Some-clause-printed
returns-in-Some-clause-printed c = λ z. (c.in-Some.world, ap Some c.in-Some.ensures.taken, c.print_in.ensures.printed z)

pub returns-in-Some-clause-no_space : goal.returns-in-Some-clause-no_space
returns-in-Some-clause-no_space c =
    λ z. (c.in-Some.world, ap Some c.in-Some.ensures.taken, c.print_in.ensures.no_space z)
