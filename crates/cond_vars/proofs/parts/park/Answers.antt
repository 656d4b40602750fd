use Rattle.halting.proofs.Counted.{may_count}
use Rattle.cond_vars.proofs.WaitParts.{counted_last, counted_out, then_halts, then_sleeps}
use Rattle.cond_vars.proofs.parts.park.Goals as goal

pub count-requires-clause-may : goal.count-requires-clause-may
count-requires-clause-may c = may_count c.args.floor.now.description c.args.pass.now.view c.requires.there.1

pub returns-then-count-eq1-clause-then : goal.returns-then-count-eq1-clause-then
returns-then-count-eq1-clause-then c =
    then_halts c.args.floor.now.description c.args.c c.args.pass.now.view c.requires.there.0 c.count.new.pass.view
    c.requires.there.1 c.count.result c.count.ensures.view c.count.ensures.step c.if-count-eq1.true

pub returns-then-count-eq1-clause-part : goal.returns-then-count-eq1-clause-part
returns-then-count-eq1-clause-part c =
    counted_last c.args.floor.now.description c.args.c c.args.pass.now.view c.requires.there.0 c.count.new.pass.view
    c.requires.there.1 c.count.result c.count.ensures.view c.count.ensures.step c.if-count-eq1.true

pub returns-else-count-eq1-clause-then : goal.returns-else-count-eq1-clause-then
returns-else-count-eq1-clause-then c =
    then_sleeps c.args.floor.now.description c.args.c c.args.pass.now.view c.requires.there.0 c.count.new.pass.view
    c.requires.there.1 c.count.result c.count.ensures.view c.count.ensures.step c.if-count-eq1.false

pub returns-else-count-eq1-clause-part : goal.returns-else-count-eq1-clause-part
returns-else-count-eq1-clause-part c =
    counted_out c.args.floor.now.description c.args.c c.args.pass.now.view c.requires.there.0 c.count.new.pass.view
    c.requires.there.1 c.count.result c.count.ensures.view c.count.ensures.step c.if-count-eq1.false
