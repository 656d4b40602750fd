use Rattle.step_world.proofs.world.World.owes.Goals as goal

pub owes-requires-clause-run : goal.owes-requires-clause-run
owes-requires-clause-run c = let r = c.self.invariant.run in (r.0, r.1, tt)

pub returns : goal.returns
returns c = rw (← c.self.view_is) c.owes.ensures
