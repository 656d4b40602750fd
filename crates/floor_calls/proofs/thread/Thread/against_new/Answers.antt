use Rattle.floor_calls.proofs.Tests.{at_ease, busy, unsaid}
use Rattle.floor_calls.proofs.Names.{here}
use Rattle.floor_calls.proofs.thread.Thread.against_new.Goals as goal

pub returns-then-is_at_rest : goal.returns-then-is_at_rest
returns-then-is_at_rest c = at_ease c.args.self.now (c.is_at_rest.ensures.0 c.if-is_at_rest.true)

pub returns-then-has_ended : goal.returns-then-has_ended
returns-then-has_ended c = here (c.has_ended.ensures.0 c.if-has_ended.true)

pub returns-else-has_ended : goal.returns-else-has_ended
returns-else-has_ended c =
    busy c.args.self.now (unsaid c.is_at_rest.ensures c.if-is_at_rest.false)
    (unsaid c.has_ended.ensures c.if-has_ended.false)
