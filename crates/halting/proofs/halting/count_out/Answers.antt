use Rattle.halting.proofs.Counted.{counts_last, counts_others, is_counted_out, is_last_of, may_count}
use Rattle.halting.proofs.halting.count_out.Goals as goal

pub count-requires-clause-may : goal.count-requires-clause-may
count-requires-clause-may g c = may_count c.args.floor.now.description c.args.pass.now.view c.requires.may

pub halt_others-requires-clause-last : goal.halt_others-requires-clause-last
halt_others-requires-clause-last g c =
    (is_last_of c.args.floor.now.description c.count.result c.args.pass.now.view c.count.new.pass.view c.requires.may
    c.count.ensures.view c.if-count-eq1.true).0

pub returns-then-count-eq1-clause-halted : goal.returns-then-count-eq1-clause-halted
returns-then-count-eq1-clause-halted g c =
    (counts_last c.args.floor.now.description c.count.result c.args.pass.now.view c.count.new.pass.view c.requires.may
    c.count.ensures.view c.if-count-eq1.true c.count.ensures.step c.halt_others.new.pass.view
    c.halt_others.ensures.halted c.halt_others.ensures.steps).0

pub returns-then-count-eq1-clause-counts : goal.returns-then-count-eq1-clause-counts
returns-then-count-eq1-clause-counts g c =
    (counts_last c.args.floor.now.description c.count.result c.args.pass.now.view c.count.new.pass.view c.requires.may
    c.count.ensures.view c.if-count-eq1.true c.count.ensures.step c.halt_others.new.pass.view
    c.halt_others.ensures.halted c.halt_others.ensures.steps).1

pub returns-else-count-eq1-clause-halted : goal.returns-else-count-eq1-clause-halted
returns-else-count-eq1-clause-halted g c =
    (is_counted_out c.args.floor.now.description c.count.result c.args.pass.now.view c.count.new.pass.view
    c.requires.may c.count.ensures.view c.if-count-eq1.false).0

pub returns-else-count-eq1-clause-counts : goal.returns-else-count-eq1-clause-counts
returns-else-count-eq1-clause-counts g c =
    counts_others c.args.floor.now.description c.count.result c.args.pass.now.view c.count.new.pass.view
    c.requires.may c.count.ensures.view c.if-count-eq1.false c.count.ensures.step
