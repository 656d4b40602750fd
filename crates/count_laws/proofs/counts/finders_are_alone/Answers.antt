use Rattle.count_laws.proofs.Alone as law
use Rattle.count_laws.proofs.counts.finders_are_alone.Goals as goal

pub returns : goal.returns
returns c config s f t w h e = law.all_stand config s w.lawful h f e t
