use Rattle.lock_calls.proofs.Leaving.{may_take_there, comes_on, stays_coming_to}
use Rattle.lock_calls.proofs.freeing.come_to.Goals as goal

pub try_take_chain-requires-clause-queue : goal.try_take_chain-requires-clause-queue
try_take_chain-requires-clause-queue c = c.requires.lock

pub try_take_chain-requires-clause-first : goal.try_take_chain-requires-clause-first
try_take_chain-requires-clause-first c = c.requires.there.nothing_out

pub try_take_chain-requires-clause-may : goal.try_take_chain-requires-clause-may
try_take_chain-requires-clause-may c =
    may_take_there c.args.floor.now.description c.args.l c.args.mode c.args.pass.now.view c.requires.there

pub returns-then-try_take_chain-clause-on : goal.returns-then-try_take_chain-clause-on
returns-then-try_take_chain-clause-on c =
    comes_on c.args.floor.now.description c.args.l c.args.mode c.args.pass.now.view c.requires.there
    c.try_take_chain.new.pass.view (c.try_take_chain.ensures.out c.if-try_take_chain.true)

pub returns-else-try_take_chain-clause-on : goal.returns-else-try_take_chain-clause-on
returns-else-try_take_chain-clause-on c =
    stays_coming_to c.args.floor.now.description c.args.l c.args.mode c.args.pass.now.view c.requires.there
    c.try_take_chain.new.pass.view
    (c.try_take_chain.ensures.left c.if-try_take_chain.false)
    (c.try_take_chain.ensures.elsewhere c.if-try_take_chain.false)
