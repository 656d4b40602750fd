use Rattle.lock_calls.proofs.Standing.{begins_hop, stays_walking}
use Rattle.lock_calls.proofs.sleeping.begin_hop.Goals as goal

pub returns-then-try_take_turnstiles-clause-on : goal.returns-then-try_take_turnstiles-clause-on
returns-then-try_take_turnstiles-clause-on c =
    let hit = c.if-try_take_turnstiles.true in
    begins_hop c.args.floor.now.description c.args.l c.args.mode c.args.there c.args.pass.now.view
    c.try_take_turnstiles.new.pass.view c.requires.under_way.there.0
    c.requires.not_ended (c.try_take_turnstiles.ensures.out hit) (c.try_take_turnstiles.ensures.in_hop hit)

pub returns-else-try_take_turnstiles-clause-on : goal.returns-else-try_take_turnstiles-clause-on
returns-else-try_take_turnstiles-clause-on c =
    let missed = c.if-try_take_turnstiles.false in
    stays_walking c.args.floor.now.description c.args.l c.args.mode c.args.there c.args.pass.now.view
    c.try_take_turnstiles.new.pass.view c.requires.under_way.there.0
    c.requires.not_ended c.requires.under_way.there.1 (c.try_take_turnstiles.ensures.left missed)
    (c.try_take_turnstiles.ensures.elsewhere missed)
