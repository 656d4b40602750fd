use Rattle.lock_floor.proofs.Finding as law
use Rattle.lock_floor.proofs.laws.looks_find_words.Goals as goal

pub returns-clause-word : goal.returns-clause-word
returns-clause-word c = law.finds_word

pub returns-clause-seen : goal.returns-clause-seen
returns-clause-seen c floor l counts old new m = m.seen

pub returns-clause-again : goal.returns-clause-again
returns-clause-again c = law.same_look
