use Rattle.lock_floor.proofs.Finding as law
use Rattle.lock_floor.proofs.laws.looks_find_words_of_others.Goals as goal

pub returns : goal.returns
returns c = law.finds_of_others
