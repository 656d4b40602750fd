use Rattle.run_laws.proofs.Turning as law
use Rattle.run_laws.proofs.runs.runs_begin_on_track.Goals as goal

pub returns : goal.returns
returns c = law.begins_on_track
