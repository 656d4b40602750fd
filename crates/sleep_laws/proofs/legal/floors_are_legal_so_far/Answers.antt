use Rattle.sleep_laws.proofs.Names.{true, by_chain}
use Rattle.sleep_laws.proofs.LegalSoFar as law
use Rattle.sleep_laws.proofs.legal.floors_are_legal_so_far.Goals as goal

pub returns : goal.returns
returns c chains config s h k = law.legal_so_far (by_chain chains s) config s true h.lawful k (law.may_halt s.history)
