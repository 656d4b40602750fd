use Rattle.floor_calls.proofs.Chains.{no_more, past_two}
use Rattle.floor_calls.proofs.Tests.{behind}
use Rattle.floor_calls.proofs.thread.Thread.against_end.Goals as goal

pub returns : goal.returns
returns c = past_two c.in_default.ensures (behind c.holds_some.ensures c.if-holds_some.false no_more)
