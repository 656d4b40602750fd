use Rattle.lock_laws.proofs.OwnEntries as law
use Rattle.lock_laws.proofs.books.stamps_keep_priorities.Goals as goal

pub returns-clause-base : goal.returns-clause-base
returns-clause-base c = law.bases_stay

pub returns-clause-effective : goal.returns-clause-effective
returns-clause-effective c = law.effective_stays
