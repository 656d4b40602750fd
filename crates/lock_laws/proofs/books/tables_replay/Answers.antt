use Rattle.lock_laws.proofs.Derived as law
use Rattle.lock_laws.proofs.books.tables_replay.Goals as goal

pub returns : goal.returns
returns c = law.tables
