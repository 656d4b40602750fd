use Rattle.std.proofs.Common.{filter}
use Rattle.tick_sleep.specs.Ticks.{is_due}
use Rattle.tick_sleep.proofs.Orders.{times_out_where_due, ascends, by_arrival}
use Rattle.tick_sleep.proofs.queue.times_out_in_order.Goals as goal

pub returns-clause-exactly : goal.returns-clause-exactly
returns-clause-exactly c = times_out_where_due

pub returns-clause-ascending : goal.returns-clause-ascending
returns-clause-ascending c = λ tick ss. ascends (filter (is_due tick) ss)

pub returns-clause-by_arrival : goal.returns-clause-by_arrival
returns-clause-by_arrival c = λ tick due ss. by_arrival due (filter (is_due tick) ss)
