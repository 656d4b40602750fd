use Rattle.run_laws.proofs.Entries as law
use Rattle.run_laws.proofs.runs.histories_have_room.Goals as goal

pub returns-clause-operation : goal.returns-clause-operation
returns-clause-operation c = law.entries_below

pub returns-clause-cut : goal.returns-clause-cut
returns-clause-cut c = law.cut_entries_below
