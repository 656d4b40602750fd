use Rattle.lock_top.proofs.Ordered.{never_stops, writes_all}
use Rattle.lock_top.proofs.top.lockrun_live.Goals as goal

pub returns-clause-complete : goal.returns-clause-complete
returns-clause-complete g c = λ form read written.
    writes_all _ _ _ _ _ c.serve.ensures.writes (c.serve.ensures.complete form read written)

pub returns-clause-ordered : goal.returns-clause-ordered
returns-clause-ordered g c = never_stops _ _ _ _ _ c.serve.ensures.writes
