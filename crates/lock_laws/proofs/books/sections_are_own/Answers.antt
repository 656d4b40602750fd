use Rattle.lock_laws.proofs.OwnEntries as law
use Rattle.lock_laws.proofs.books.sections_are_own.Goals as goal

pub returns : goal.returns
returns c = law.own_section
