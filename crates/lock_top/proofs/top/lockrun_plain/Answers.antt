use Rattle.lock_top.proofs.Outcome.{accepted_lawful}
use Rattle.tick_sleep.proofs.Orders.{times_out_where_due}
use Rattle.lock_top.proofs.Ordered.{never_stops, writes_all}
use Rattle.lock_top.proofs.top.lockrun_plain.Goals as goal

pub returns-clause-lawful : goal.returns-clause-lawful
returns-clause-lawful g c = accepted_lawful

pub returns-clause-timeouts : goal.returns-clause-timeouts
returns-clause-timeouts g c = times_out_where_due

pub returns-clause-complete : goal.returns-clause-complete
returns-clause-complete g c = λ form read written.
    writes_all _ _ _ _ _ c.serve.ensures.writes (c.serve.ensures.complete form read written)

pub returns-clause-ordered : goal.returns-clause-ordered
returns-clause-ordered g c = never_stops _ _ _ _ _ c.serve.ensures.writes
