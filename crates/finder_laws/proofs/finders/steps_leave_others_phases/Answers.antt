use Rattle.finder_laws.proofs.OneActs as law
use Rattle.finder_laws.proofs.finders.steps_leave_others_phases.Goals as goal

pub returns : goal.returns
returns c config s t step ne = law.phase_stays config s t step ne
