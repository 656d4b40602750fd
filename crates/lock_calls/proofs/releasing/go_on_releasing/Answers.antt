use Rattle.lock_calls.proofs.Names.{sym}
use Rattle.std.proofs.Common.{◌∙◌}
use Rattle.lock_calls.proofs.Calls.{release_there, release_went}
use Rattle.lock_calls.proofs.releasing.go_on_releasing.Goals as goal

pub go_on-requires-clause-under_way : goal.go_on-requires-clause-under_way
go_on-requires-clause-under_way c =
    release_there c.args.floor.now.description c.args.pass.now c.in-Release.l c.in-Release.mode c.in-Release.at
    (sym c.call.ensures ∙ c.in-Release.is) c.requires.under_way

pub returns-clause-went : goal.returns-clause-went
returns-clause-went c =
    release_went c.args.floor.now.description c.args.pass.now c.in-Release.l c.in-Release.mode c.in-Release.at
    (sym c.call.ensures ∙ c.in-Release.is) c.go_on.result c.go_on.new.pass c.go_on.ensures.went
