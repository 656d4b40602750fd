use Rattle.cond_vars.proofs.Coming.{may_come}
use Rattle.cond_vars.proofs.WaitParts.{comes_in, missed_chain, still_coming, took_chain}
use Rattle.cond_vars.proofs.parts.come_to.Goals as goal

pub try_take_chain-requires-clause-queue : goal.try_take_chain-requires-clause-queue
try_take_chain-requires-clause-queue c = c.requires.there.1.chan

pub try_take_chain-requires-clause-first : goal.try_take_chain-requires-clause-first
try_take_chain-requires-clause-first c = c.requires.there.0.nothing_out

pub try_take_chain-requires-clause-may : goal.try_take_chain-requires-clause-may
try_take_chain-requires-clause-may c = may_come c.args.floor.now.description c.args.c.0 c.args.pass.now.view
    c.requires.there.0

pub returns-then-try_take_chain-clause-then : goal.returns-then-try_take_chain-clause-then
returns-then-try_take_chain-clause-then c =
    comes_in c.args.floor.now.description c.args.c c.args.pass.now.view c.requires.there c.try_take_chain.new.pass.view
    (c.try_take_chain.ensures.out c.if-try_take_chain.true)

pub returns-then-try_take_chain-clause-part : goal.returns-then-try_take_chain-clause-part
returns-then-try_take_chain-clause-part c =
    took_chain c.args.floor.now.description c.args.c c.args.pass.now.view c.requires.there
    c.try_take_chain.new.pass.view
    (c.try_take_chain.ensures.out c.if-try_take_chain.true)

pub returns-else-try_take_chain-clause-then : goal.returns-else-try_take_chain-clause-then
returns-else-try_take_chain-clause-then c =
    still_coming c.args.floor.now.description c.args.c c.args.pass.now.view c.requires.there
    c.try_take_chain.new.pass.view
    (c.try_take_chain.ensures.left c.if-try_take_chain.false)

pub returns-else-try_take_chain-clause-part : goal.returns-else-try_take_chain-clause-part
returns-else-try_take_chain-clause-part c =
    missed_chain c.args.floor.now.description c.args.c c.args.pass.now.view c.requires.there
    c.try_take_chain.new.pass.view
    (c.try_take_chain.ensures.left c.if-try_take_chain.false)
    (c.try_take_chain.ensures.elsewhere c.if-try_take_chain.false)
