use Rattle.lock_calls.proofs.Leaving.{may_let, misses_on, settled_freed, unbound_freed, going_freed, frees_on}
use Rattle.lock_calls.proofs.freeing.let_go.Goals as goal

pub free-requires-clause-may : goal.free-requires-clause-may
free-requires-clause-may c =
    may_let c.args.floor.now.description c.args.l.0 c.args.mode c.args.pass.now.view c.requires.there.may
    c.requires.there.both

pub free-requires-clause-seen : goal.free-requires-clause-seen
free-requires-clause-seen c = c.requires.there.own

pub give_both-requires-clause-both : goal.give_both-requires-clause-both
give_both-requires-clause-both c = c.in-Ok.ensures.lets.both

pub give_both-requires-clause-settled : goal.give_both-requires-clause-settled
give_both-requires-clause-settled c =
    settled_freed c.args.floor.now.description c.args.l c.args.mode c.args.seen c.args.pass.now.view
    c.free.new.pass.view c.requires.there c.in-Ok.ensures.lets

pub give_both-requires-clause-unbound : goal.give_both-requires-clause-unbound
give_both-requires-clause-unbound c =
    unbound_freed c.args.floor.now.description c.args.l c.args.mode c.args.seen c.args.pass.now.view
    c.free.new.pass.view c.requires.there c.in-Ok.ensures.lets

pub give_both-requires-clause-going : goal.give_both-requires-clause-going
give_both-requires-clause-going c =
    going_freed c.args.floor.now.description c.args.l c.args.mode c.args.seen c.args.pass.now.view c.free.new.pass.view
    c.requires.there c.in-Ok.ensures.lets

pub returns-in-Ok-clause-on : goal.returns-in-Ok-clause-on
returns-in-Ok-clause-on c =
    frees_on c.args.floor.now.description c.args.l c.args.mode c.args.seen c.args.pass.now.view c.free.new.pass.view
    c.requires.there c.in-Ok.ensures.lets
    c.give_both.new.pass.view c.give_both.ensures.view c.give_both.ensures.steps

pub returns-in-Err-clause-on : goal.returns-in-Err-clause-on
returns-in-Err-clause-on c =
    misses_on c.args.floor.now.description c.args.l c.args.mode c.args.seen c.args.pass.now.view c.free.new.pass.view
    c.requires.there c.in-Err.found c.in-Err.ensures.missed
