use Rattle.std.proofs.Common.{◌∙◌}
use Rattle.lock_calls.proofs.Standing.{goes_hopping, stays_hopping}
use Rattle.lock_calls.proofs.sleeping.hop_on.Goals as goal

pub try_hop-requires-clause-under_way : goal.try_hop-requires-clause-under_way
try_hop-requires-clause-under_way c = λ e. c.requires.under_way.there.2 (c.requires.under_way.there.0.walk_is ∙ e)

pub returns-in-Some-clause-on : goal.returns-in-Some-clause-on
returns-in-Some-clause-on c =
    goes_hopping c.args.floor.now.description c.args.l c.args.mode c.args.there c.args.pass.now.view
    c.try_hop.new.pass.view c.requires.under_way.there.0
    c.in-Some.to c.requires.under_way.there.1 c.in-Some.ensures.hop

pub returns-in-None-clause-on : goal.returns-in-None-clause-on
returns-in-None-clause-on c =
    stays_hopping c.args.floor.now.description c.args.l c.args.mode c.args.there c.args.pass.now.view
    c.try_hop.new.pass.view c.requires.under_way.there.0
    c.requires.under_way.there.1 c.requires.under_way.there.2 c.in-None.ensures.left c.in-None.ensures.elsewhere
