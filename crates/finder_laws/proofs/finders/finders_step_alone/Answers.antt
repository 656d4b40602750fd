use Rattle.finder_laws.proofs.OneActs as law
use Rattle.finder_laws.proofs.finders.finders_step_alone.Goals as goal

pub returns : goal.returns
returns c chains config s f step h e g = law.steps_alone chains config s f h e step g
