use Rattle.lock_calls.proofs.TriedOn.{chain_on, chain_away}
use Rattle.lock_calls.proofs.TriedRound.{may_take_chain_by_try}
use Rattle.lock_calls.proofs.trying.come.Goals as goal

pub try_take_chain-requires-clause-queue : goal.try_take_chain-requires-clause-queue
try_take_chain-requires-clause-queue c = c.requires.under_way.covered.lock

pub try_take_chain-requires-clause-first : goal.try_take_chain-requires-clause-first
try_take_chain-requires-clause-first c = c.requires.under_way.there.0.nothing_out

pub try_take_chain-requires-clause-may : goal.try_take_chain-requires-clause-may
try_take_chain-requires-clause-may c =
    may_take_chain_by_try c.args.floor.now.description c.args.l.0 c.args.pass.now.view c.requires.under_way.there.0
    c.requires.under_way.calling

pub returns-then-try_take_chain-clause-on : goal.returns-then-try_take_chain-clause-on
returns-then-try_take_chain-clause-on c =
    chain_on c.args.floor.now.description c.args.l c.args.mode c.args.pass.now.view c.try_take_chain.new.pass.view
    c.requires.under_way.there.0 c.requires.under_way.there.1
    (c.try_take_chain.ensures.out c.if-try_take_chain.true)

pub returns-else-try_take_chain-clause-on : goal.returns-else-try_take_chain-clause-on
returns-else-try_take_chain-clause-on c =
    chain_away c.args.floor.now.description c.args.l c.args.mode c.args.pass.now.view c.try_take_chain.new.pass.view
    c.requires.under_way.there.0 c.requires.under_way.there.1
    (c.try_take_chain.ensures.left c.if-try_take_chain.false)
    (c.try_take_chain.ensures.elsewhere c.if-try_take_chain.false)
