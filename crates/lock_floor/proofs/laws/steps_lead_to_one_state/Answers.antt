use Rattle.lock_floor.proofs.Finding as law
use Rattle.lock_floor.proofs.laws.steps_lead_to_one_state.Goals as goal

pub returns : goal.returns
returns c = law.same_state
