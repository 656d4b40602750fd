use Rattle.lockrun_c.proofs.worlds.lockrun_world_open.Goals as goal

pub returns-in-Ok-clause-opened : goal.returns-in-Ok-clause-opened
returns-in-Ok-clause-opened c = λ z. (
  c.in-Ok.opened,
  c.move_in.ensures.moved z,
  record { plan = c.in-Ok.ensures.plan; chains_are = c.in-Ok.ensures.chains; begins = c.in-Ok.ensures.begins },
)
