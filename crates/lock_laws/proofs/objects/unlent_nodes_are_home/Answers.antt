use Rattle.lock_laws.proofs.HeadsAndNodes as law
use Rattle.lock_laws.proofs.objects.unlent_nodes_are_home.Goals as goal

pub returns-clause-owned : goal.returns-clause-owned
returns-clause-owned c = law.owned_home

pub returns-clause-unowned : goal.returns-clause-unowned
returns-clause-unowned c = law.unowned_home
