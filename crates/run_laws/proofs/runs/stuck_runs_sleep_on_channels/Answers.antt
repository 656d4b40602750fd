use Rattle.run_laws.proofs.Stuck as law
use Rattle.run_laws.proofs.runs.stuck_runs_sleep_on_channels.Goals as goal

pub returns : goal.returns
returns c = law.stuck_on_channels
