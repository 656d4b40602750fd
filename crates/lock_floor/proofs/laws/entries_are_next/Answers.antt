use Rattle.lock_floor.proofs.Replaying as law
use Rattle.lock_floor.proofs.laws.entries_are_next.Goals as goal

pub returns-clause-history : goal.returns-clause-history
returns-clause-history c = law.next_entry

pub returns-clause-log : goal.returns-clause-log
returns-clause-log c = law.next_of_own
