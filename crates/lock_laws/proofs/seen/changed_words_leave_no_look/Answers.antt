use Rattle.lock_laws.proofs.ChangedWords as law
use Rattle.lock_laws.proofs.seen.changed_words_leave_no_look.Goals as goal

pub returns : goal.returns
returns c = law.forgotten
