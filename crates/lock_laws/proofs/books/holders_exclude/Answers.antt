use Rattle.lock_laws.proofs.Derived as law
use Rattle.lock_laws.proofs.books.holders_exclude.Goals as goal

pub returns : goal.returns
returns c = law.exclude
