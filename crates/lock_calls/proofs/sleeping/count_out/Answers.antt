use Rattle.lock_calls.proofs.Standing.{may_park, goes_to_sleep, begins_halting}
use Rattle.lock_calls.proofs.sleeping.count_out.Goals as goal

pub count-requires-clause-may : goal.count-requires-clause-may
count-requires-clause-may c =
    may_park c.args.floor.now.description c.args.l c.args.mode c.args.pass.now.view c.requires.under_way.there.0
    c.requires.under_way.there.1 c.requires.under_way.calling

pub returns-then-count-eq1-clause-on : goal.returns-then-count-eq1-clause-on
returns-then-count-eq1-clause-on c =
    begins_halting c.args.floor.now.description c.args.l c.args.mode c.args.pass.now.view c.requires.under_way.there.0
    c.requires.under_way.there.1 c.requires.under_way.calling c.count.new.pass.view c.count.result c.count.ensures.view
    c.count.ensures.step c.if-count-eq1.true

pub returns-else-count-eq1-clause-on : goal.returns-else-count-eq1-clause-on
returns-else-count-eq1-clause-on c =
    goes_to_sleep c.args.floor.now.description c.args.l c.args.mode c.args.pass.now.view c.requires.under_way.there.0
    c.requires.under_way.there.1 c.requires.under_way.calling c.count.new.pass.view c.count.result c.count.ensures.view
    c.count.ensures.step c.if-count-eq1.false
