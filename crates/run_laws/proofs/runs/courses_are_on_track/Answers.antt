use Rattle.run_laws.proofs.Turning as law
use Rattle.run_laws.proofs.runs.courses_are_on_track.Goals as goal

pub returns : goal.returns
returns c = law.behind_course
