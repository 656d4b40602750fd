use Rattle.lock_calls.proofs.Names.{sym}
use Rattle.std.proofs.Common.{◌∙◌}
use Rattle.lock_calls.proofs.Calls.{take_there, take_went}
use Rattle.lock_calls.proofs.taking.go_on_taking.Goals as goal

pub go_on-requires-clause-under_way : goal.go_on-requires-clause-under_way
go_on-requires-clause-under_way c =
    take_there c.args.floor.now.description c.args.pass.now c.in-Take.l c.in-Take.mode c.in-Take.at
    (sym c.call.ensures ∙ c.in-Take.is) c.requires.under_way

pub returns-clause-went : goal.returns-clause-went
returns-clause-went c =
    take_went c.args.floor.now.description c.args.pass.now c.in-Take.l c.in-Take.mode c.in-Take.at
    (sym c.call.ensures ∙ c.in-Take.is) c.go_on.result c.go_on.new.pass c.go_on.ensures.went
