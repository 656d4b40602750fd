use Rattle.std.proofs.Common.{subst}
use Rattle.lock_floor.specs.Ends.{FindsWhetherLeft}
use Rattle.halting.proofs.Coming.{wakes_nobody}
use Rattle.halting.proofs.Finding.{begins, ends_at_once, may_count_in_now, may_halt_now}
use Rattle.halting.proofs.halting.begin.Goals as goal

pub returns-then-not-find_left-clause-went : goal.returns-then-not-find_left-clause-went
returns-then-not-find_left-clause-went c =
    ends_at_once c.args.floor.now.description c.args.pass.now.view c.find_left.new.pass.view c.requires.there
    c.find_left.ensures.view
    (subst (λ b. FindsWhetherLeft c.args.floor.now.description b c.args.pass.now.view c.find_left.new.pass.view)
    c.if-not-find_left.true c.find_left.ensures.found)

pub count-requires-clause-may : goal.count-requires-clause-may
count-requires-clause-may c =
    may_count_in_now c.args.floor.now.description c.args.pass.now.view c.find_left.new.pass.view c.requires.there
    c.find_left.ensures.view
    (subst (λ b. FindsWhetherLeft c.args.floor.now.description b c.args.pass.now.view c.find_left.new.pass.view)
    c.if-not-find_left.false c.find_left.ensures.found)

pub halt-requires-clause-may : goal.halt-requires-clause-may
halt-requires-clause-may c =
    may_halt_now c.args.floor.now.description c.args.pass.now.view c.find_left.new.pass.view c.requires.there
    c.find_left.ensures.view
    (subst (λ b. FindsWhetherLeft c.args.floor.now.description b c.args.pass.now.view c.find_left.new.pass.view)
    c.if-not-find_left.false c.find_left.ensures.found)
    c.count.result c.count.new.pass.view c.count.ensures.view c.count.ensures.step

pub returns-clause-went : goal.returns-clause-went
returns-clause-went c = (
  begins c.args.floor.now.description c.args.pass.now.view c.find_left.new.pass.view c.requires.there
      c.find_left.ensures.view
      (subst (λ b. FindsWhetherLeft c.args.floor.now.description b c.args.pass.now.view c.find_left.new.pass.view)
      c.if-not-find_left.false c.find_left.ensures.found)
      c.count.result c.count.new.pass.view c.count.ensures.view c.count.ensures.step
      c.halt.new.pass.view c.halt.ensures.view c.halt.ensures.step,
  wakes_nobody c.args.pass.now.view c.halt.new.pass.view c.requires.there.unmarked,
)
