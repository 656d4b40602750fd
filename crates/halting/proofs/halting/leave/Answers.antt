use Rattle.halting.proofs.Coming.{ends_itself, leaves_last, leaves_others, may_leave, wakes_nobody}
use Rattle.halting.proofs.halting.leave.Goals as goal

pub returns-then-itself-clause-went : goal.returns-then-itself-clause-went
returns-then-itself-clause-went c =
    ends_itself c.args.floor.now.description c.args.over c.args.itself c.args.pass.now.view c.requires.there.0
    c.requires.there.1 c.requires.there.2 c.requires.over c.if-itself.true

pub count-requires-clause-may : goal.count-requires-clause-may
count-requires-clause-may c =
    may_leave c.args.floor.now.description c.args.over c.args.itself c.args.pass.now.view c.requires.there.0
    c.requires.there.1 c.requires.there.2 c.requires.over c.if-itself.false

pub returns-then-count-eq1-clause-went : goal.returns-then-count-eq1-clause-went
returns-then-count-eq1-clause-went c = (
  leaves_last c.args.floor.now.description c.args.over c.args.itself c.args.pass.now.view c.requires.there.0
      c.requires.there.1 c.requires.there.2 c.requires.over c.if-itself.false c.count.result c.count.new.pass.view
      c.count.ensures.view c.count.ensures.step c.if-count-eq1.true,
  wakes_nobody c.args.pass.now.view c.count.new.pass.view c.requires.there.2,
)

pub returns-else-count-eq1-clause-went : goal.returns-else-count-eq1-clause-went
returns-else-count-eq1-clause-went c =
    leaves_others c.args.floor.now.description c.args.over c.args.itself c.args.pass.now.view c.requires.there.0
    c.requires.there.1 c.requires.there.2 c.requires.over c.if-itself.false c.count.result c.count.new.pass.view
    c.count.ensures.view c.count.ensures.step c.if-count-eq1.false
