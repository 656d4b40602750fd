use Rattle.lock_laws.proofs.Standing as law
use Rattle.lock_laws.proofs.objects.marked_are_out.Goals as goal

pub returns-clause-thread : goal.returns-clause-thread
returns-clause-thread c = law.marked_thread

pub returns-clause-blocked_on : goal.returns-clause-blocked_on
returns-clause-blocked_on c = law.marked_named

pub returns-clause-turnstile : goal.returns-clause-turnstile
returns-clause-turnstile c = law.marked_out
