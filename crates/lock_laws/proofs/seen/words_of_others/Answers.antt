use Rattle.lock_laws.proofs.SeenWords as law
use Rattle.lock_laws.proofs.seen.words_of_others.Goals as goal

pub returns : goal.returns
returns c k s t l reached few thread unheld = law.can_be_seen k s t l few thread unheld reached
