use Rattle.std.proofs.Common.{rules}
use Rattle.run_chart.proofs.Queued.{any_seen}
use Rattle.run_chart.proofs.lookup.first_writer.Goals as goal

pub returns-then-waits_in : goal.returns-then-waits_in
returns-then-waits_in c = rw (← any_seen c.args.who.0 c.args.line.now.shared) (search rules)

pub returns-else-waits_in : goal.returns-else-waits_in
returns-else-waits_in c = rw (← any_seen c.args.who.0 c.args.line.now.shared) (search rules)
