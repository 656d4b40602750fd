use Rattle.std.proofs.Common.{sym, ap}
use Rattle.floor_table.specs.Views.{Knowledge}
use Rattle.lock_floor.specs.Floors.{Pass}
use Rattle.halting.proofs.Aborted.{told_halting, told_may_give, told_aborts, told_gives}
use Rattle.halting.proofs.Coming.{wakes_nobody}
use Rattle.halting.proofs.halting.abort_next.Goals as goal

pub abort-requires-clause-halting : goal.abort-requires-clause-halting
abort-requires-clause-halting c =
    told_halting c.args.floor.now.description c.args.over c.args.itself c.args.pass.now.view c.requires.there.0
    c.requires.there.1 c.requires.there.2 c.in-Some.q (sym c.in-Some.ensures.queue) c.first_sleeper.new.pass.view
    (ap (λ (p : Pass Knowledge). p.view) c.first_sleeper.ensures.same)

pub returns-in-Some-first_sleeper-clause-went : goal.returns-in-Some-first_sleeper-clause-went
returns-in-Some-first_sleeper-clause-went c = (
  told_aborts c.args.floor.now.description c.args.over c.args.itself c.args.pass.now.view c.requires.there.0
      c.requires.there.1 c.requires.there.2 c.in-Some.q (sym c.in-Some.ensures.queue) c.first_sleeper.new.pass.view
      (ap (λ (p : Pass Knowledge). p.view) c.first_sleeper.ensures.same) c.in-Some-first_sleeper.first
      c.in-Some-first_sleeper.ensures.some c.abort.new.pass.view c.abort.ensures.aborts,
  wakes_nobody c.args.pass.now.view c.abort.new.pass.view c.requires.there.2,
)

pub give_chain-requires-clause-may : goal.give_chain-requires-clause-may
give_chain-requires-clause-may c =
    told_may_give c.args.floor.now.description c.args.over c.args.itself c.args.pass.now.view c.requires.there.0
    c.requires.there.1 c.requires.there.2 c.in-Some.q (sym c.in-Some.ensures.queue) c.first_sleeper.new.pass.view
    (ap (λ (p : Pass Knowledge). p.view) c.first_sleeper.ensures.same)

pub returns-in-None-clause-went : goal.returns-in-None-clause-went
returns-in-None-clause-went c = (
  told_gives c.args.floor.now.description c.args.over c.args.itself c.args.pass.now.view c.requires.there.0
      c.requires.there.1 c.requires.there.2 c.in-Some.q (sym c.in-Some.ensures.queue) c.first_sleeper.new.pass.view
      (ap (λ (p : Pass Knowledge). p.view) c.first_sleeper.ensures.same) c.in-None.ensures.none
      c.give_chain.new.pass.view c.give_chain.ensures.view c.give_chain.ensures.step,
  wakes_nobody c.args.pass.now.view c.give_chain.new.pass.view c.requires.there.2,
)
