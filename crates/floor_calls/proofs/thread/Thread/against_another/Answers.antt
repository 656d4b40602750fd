use Rattle.floor_calls.proofs.Tests.{empty_handed, unsaid}
use Rattle.floor_calls.proofs.thread.Thread.against_another.Goals as goal

pub returns-else-holds_some : goal.returns-else-holds_some
returns-else-holds_some c = empty_handed c.args.self.now c.args.l (unsaid c.holds_some.ensures c.if-holds_some.false)
