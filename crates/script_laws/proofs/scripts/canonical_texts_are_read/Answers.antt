use Rattle.script_laws.proofs.CanonicalTexts as law
use Rattle.script_laws.proofs.scripts.canonical_texts_are_read.Goals as goal

pub returns : goal.returns
returns c = law.read_again
