use Rattle.count_laws.proofs.Finders as law
use Rattle.count_laws.proofs.halts.finders_are_honest.Goals as goal

pub returns : goal.returns
returns c at_work config s f t w h o p x e lt = law.all_halted config s w.lawful h o x f e p t lt
