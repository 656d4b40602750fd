use Rattle.run_laws.proofs.TurnsOfOrders as law
use Rattle.run_laws.proofs.runs.admissions_stay_on_track.Goals as goal

pub returns-clause-may : goal.returns-clause-may
returns-clause-may c = law.may_admit

pub returns-clause-on_track : goal.returns-clause-on_track
returns-clause-on_track c = law.admitted_on_track
