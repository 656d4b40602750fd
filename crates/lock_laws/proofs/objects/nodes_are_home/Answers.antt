use Rattle.lock_laws.proofs.HeadsAndNodes as law
use Rattle.lock_laws.proofs.objects.nodes_are_home.Goals as goal

pub returns : goal.returns
returns c = law.node_home
