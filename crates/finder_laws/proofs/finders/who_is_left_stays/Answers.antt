use Rattle.finder_laws.proofs.AllSeen as law
use Rattle.finder_laws.proofs.finders.who_is_left_stays.Goals as goal

pub returns-clause-now : goal.returns-clause-now
returns-clause-now c floor v s f finder h = law.left_now floor v s f finder h

pub returns-clause-counted : goal.returns-clause-counted
returns-clause-counted c floor v w finder h m = law.left_counted floor v w finder h m
