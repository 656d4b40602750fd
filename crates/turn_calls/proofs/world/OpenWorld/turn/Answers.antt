use Rattle.step_world.specs.Worlds.{World}
use Rattle.turn_calls.proofs.Shown.{lent_turn}
use Rattle.turn_calls.proofs.world.OpenWorld.turn.Goals as goal

pub returns-clause-turn : goal.returns-clause-turn
returns-clause-turn c =
    let w : World =
    record { plan = c.self.inside.plan; chains = c.self.inside.chains; machine = c.self.inside.machine } in
    rw (← c.self.view_is)
    (lent_turn c.turn-answer.result w c.of_machine-world.result c.turn-answer.new.world c.into_machine-machine.result
    c.args.t c.of_machine-world.ensures
    c.turn-answer.ensures.plan c.into_machine-machine.ensures.objects c.turn-answer.ensures.turn)
