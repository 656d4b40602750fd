use Rattle.lock_state.specs.Facts.{TermsFitParking}
use Rattle.count_laws.proofs.Alone as law
use Rattle.count_laws.proofs.counts.terms_are_small.Goals as goal

pub returns-clause-term : goal.returns-clause-term
unfolding TermsFitParking
returns-clause-term c config s t h = h.terms_fit_parking t

pub returns-clause-wakes : goal.returns-clause-wakes
returns-clause-wakes c config s t w h = law.one_wake config s w.lawful h t
