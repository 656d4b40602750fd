use Rattle.busy_laws.proofs.Had as law
use Rattle.busy_laws.proofs.busy.held_words_have_holders.Goals as goal

pub returns : goal.returns
returns c config s t k l x e = law.held_had config s x l t k e
