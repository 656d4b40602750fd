use Rattle.step_world.proofs.schedule.Course.is_through.Goals as goal

pub returns-then-is_empty-clause-run : goal.returns-then-is_empty-clause-run
returns-then-is_empty-clause-run c = rw (← c.self.view_is) c.self.invariant.run

pub returns-else-is_empty-clause-run : goal.returns-else-is_empty-clause-run
returns-else-is_empty-clause-run c = rw (← c.self.view_is) c.self.invariant.run
