use Rattle.lock_laws.proofs.HeadsAndNodes as law
use Rattle.lock_laws.proofs.objects.owners_hold.Goals as goal

pub returns-clause-holds : goal.returns-clause-holds
returns-clause-holds c = law.owner_holds

pub returns-clause-thread : goal.returns-clause-thread
returns-clause-thread c = law.owner_thread
