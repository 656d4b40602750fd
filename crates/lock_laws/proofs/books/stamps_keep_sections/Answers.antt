use Rattle.lock_laws.proofs.OwnEntries as law
use Rattle.lock_laws.proofs.books.stamps_keep_sections.Goals as goal

pub returns : goal.returns
returns c = law.sections_stay
