use Rattle.finder_laws.proofs.AllSeen as law
use Rattle.finder_laws.proofs.finders.finders_have_seen_all.Goals as goal

pub returns : goal.returns
returns c floor v s f finder = law.all_seen floor v s f finder
