use Rattle.lock_laws.proofs.Standing as law
use Rattle.lock_laws.proofs.objects.home_stands_nowhere.Goals as goal

pub returns : goal.returns
returns c = law.home_nowhere
