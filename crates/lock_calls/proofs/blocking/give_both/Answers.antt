use Rattle.lock_calls.proofs.Names.{length, subst, Description}
use Rattle.std.proofs.Common.{◌<◌}
use Rattle.lock_calls.proofs.Given.{record_last, may_give_record, chain_last, may_give_chain, given_both, given_steps}
use Rattle.lock_calls.proofs.blocking.give_both.Goals as goal

pub give_rec-requires-clause-thread : goal.give_rec-requires-clause-thread
give_rec-requires-clause-thread c =
    subst (λ (d : Description). c.thread-who.result.0 < length d.threads) c.requires.own.description
    c.thread-who.ensures.of_floor

pub give_rec-requires-clause-last : goal.give_rec-requires-clause-last
give_rec-requires-clause-last c =
    record_last c.args.floor.now.description c.args.l.0 c.args.pass.now.view c.requires.both c.requires.settled
    c.requires.unbound c.requires.going c.thread-who.result.0 c.thread-who.ensures.same

pub give_rec-requires-clause-may : goal.give_rec-requires-clause-may
give_rec-requires-clause-may c =
    may_give_record c.args.floor.now.description c.args.l.0 c.args.pass.now.view c.requires.both c.requires.settled
    c.requires.unbound c.requires.going c.thread-who.result.0 c.thread-who.ensures.same

pub give_chain-requires-clause-last : goal.give_chain-requires-clause-last
give_chain-requires-clause-last c =
    chain_last c.args.floor.now.description c.args.l.0 c.args.pass.now.view c.requires.both c.requires.settled
    c.requires.unbound c.requires.going c.thread-who.result.0 c.thread-who.ensures.same c.give_rec.new.pass.view
    c.give_rec.ensures.view

pub give_chain-requires-clause-may : goal.give_chain-requires-clause-may
give_chain-requires-clause-may c =
    may_give_chain c.args.floor.now.description c.args.l.0 c.args.pass.now.view c.requires.both c.requires.settled
    c.requires.unbound c.requires.going c.thread-who.result.0 c.thread-who.ensures.same c.give_rec.new.pass.view
    c.give_rec.ensures.view

pub returns-clause-view : goal.returns-clause-view
returns-clause-view c =
    given_both c.args.floor.now.description c.args.l.0 c.args.pass.now.view c.requires.both c.requires.settled
    c.requires.unbound c.requires.going c.thread-who.result.0 c.thread-who.ensures.same c.give_rec.new.pass.view
    c.give_rec.ensures.view c.give_chain.new.pass.view c.give_chain.ensures.view

pub returns-clause-steps : goal.returns-clause-steps
returns-clause-steps c =
    given_steps c.args.floor.now.description c.args.l.0 c.args.pass.now.view c.requires.both c.requires.settled
    c.requires.unbound c.requires.going c.thread-who.result.0 c.thread-who.ensures.same c.give_rec.new.pass.view
    c.give_rec.ensures.view c.give_chain.new.pass.view c.give_chain.ensures.view c.give_rec.ensures.step
    c.give_chain.ensures.step
