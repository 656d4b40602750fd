use Rattle.lock_laws.proofs.HeadsAndNodes as law
use Rattle.lock_laws.proofs.objects.heads_differ.Goals as goal

pub returns : goal.returns
returns c = law.heads_apart
