use Rattle.lock_calls.proofs.Names.{sym}
use Rattle.std.proofs.Common.{◌∙◌}
use Rattle.lock_calls.proofs.TriedCalls.{try_there, try_went}
use Rattle.lock_calls.proofs.trying.go_on_trying.Goals as goal

pub go_on-requires-clause-under_way : goal.go_on-requires-clause-under_way
go_on-requires-clause-under_way c =
    try_there c.args.floor.now.description c.args.pass.now c.in-Try.l c.in-Try.mode c.in-Try.at
    (sym c.call.ensures ∙ c.in-Try.is) c.requires.under_way

pub returns-clause-went : goal.returns-clause-went
returns-clause-went c =
    try_went c.args.floor.now.description c.args.pass.now c.in-Try.l c.in-Try.mode c.in-Try.at
    (sym c.call.ensures ∙ c.in-Try.is) c.go_on.result c.go_on.new.pass c.go_on.ensures.went
