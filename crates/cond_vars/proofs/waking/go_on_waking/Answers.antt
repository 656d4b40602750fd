use Rattle.std.proofs.Common.{◌<◌, length, [], sym, subst}
use Rattle.floor_table.specs.Views.{Knowledge}
use Rattle.floor_table.specs.declared.description.Description.{Description}
use Rattle.lock_floor.specs.Marks.{with_marks}
use Rattle.lock_floor.specs.Passes.{IsAtRest}
use Rattle.lock_floor.proofs.Resting.{rest_seeing}
use Rattle.cond_vars.specs.declared.waking.WakeNext.TheVariants.{Wake}
use Rattle.cond_vars.proofs.Woken.{can_mark, rests_on}
use Rattle.cond_vars.proofs.waking.go_on_waking.Goals as goal

pub try_wake-requires-clause-may : goal.try_wake-requires-clause-may
try_wake-requires-clause-may c = can_mark c.args.floor.now.description c.args.pass.now.view c.requires.rest

pub try_wake-requires-clause-thread : goal.try_wake-requires-clause-thread
try_wake-requires-clause-thread c =
    subst (λ (d : Description). c.in-Some.t.0 < length d.threads) c.requires.own.description c.in-Some.ensures.of_floor

pub returns-then-try_wake-clause-wakes : goal.returns-then-try_wake-clause-wakes
returns-then-try_wake-clause-wakes c = (
  subst (λ (d : Description). c.in-Some.t.0 < length d.threads) c.requires.own.description c.in-Some.ensures.of_floor,
  c.try_wake.ensures.woken c.if-try_wake.true,
)

pub returns-then-try_wake-clause-rest : goal.returns-then-try_wake-clause-rest
returns-then-try_wake-clause-rest c =
    rests_on c.args.floor.now.description (Wake c.in-Some.t) c.args.pass.now.view c.try_wake.new.pass.view
    c.requires.rest (
      subst (λ (d : Description). c.in-Some.t.0 < length d.threads) c.requires.own.description
          c.in-Some.ensures.of_floor,
      c.try_wake.ensures.woken c.if-try_wake.true,
    )

pub returns-else-try_wake-clause-rest : goal.returns-else-try_wake-clause-rest
returns-else-try_wake-clause-rest c =
    let floor = c.args.floor.now.description in
    let new = c.try_wake.new.pass.view in
    subst (λ (k : Knowledge). IsAtRest floor (with_marks k [])) (sym (c.try_wake.ensures.left c.if-try_wake.false))
    (rest_seeing floor (with_marks c.args.pass.now.view []) new.seen c.requires.rest)
