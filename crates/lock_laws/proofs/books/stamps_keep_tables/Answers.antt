use Rattle.lock_laws.proofs.OwnEntries as law
use Rattle.lock_laws.proofs.books.stamps_keep_tables.Goals as goal

pub returns : goal.returns
returns c = law.tables_stay
