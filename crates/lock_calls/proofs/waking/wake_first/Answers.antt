use Rattle.lock_calls.proofs.Names.{length, refl, sym, subst, Description, RecordOf, FindsOut}
use Rattle.std.proofs.Common.{◌<◌}
use Rattle.lock_calls.proofs.waking.wake_first.Goals as goal

pub returns-in-None-clause-wakes : goal.returns-in-None-clause-wakes
returns-in-None-clause-wakes c = (c.in-None.ensures.none, refl)

pub try_wake-requires-clause-may : goal.try_wake-requires-clause-may
try_wake-requires-clause-may c = c.requires.may

pub try_wake-requires-clause-first : goal.try_wake-requires-clause-first
try_wake-requires-clause-first c = c.in-Some.ensures.some

pub try_wake-requires-clause-thread : goal.try_wake-requires-clause-thread
try_wake-requires-clause-thread c =
    subst (λ (d : Description). c.in-Some.t.0 < length d.threads) c.requires.own.description
    c.in-Some.ensures.of_floor

pub returns-then-try_wake-clause-wakes : goal.returns-then-try_wake-clause-wakes
returns-then-try_wake-clause-wakes c = (
  subst (λ (d : Description). c.in-Some.t.0 < length d.threads) c.requires.own.description
      c.in-Some.ensures.of_floor,
  c.try_wake.ensures.woken c.if-try_wake.true,
)

pub returns-else-try_wake-clause-wakes : goal.returns-else-try_wake-clause-wakes
returns-else-try_wake-clause-wakes c =
    let first = c.in-Some.ensures.some in
    let missed = c.if-try_wake.false in (
      refl,
      first.0,
      first.1,
      first.2,
      c.try_wake.ensures.left missed,
      subst (λ u. FindsOut c.args.floor.now.description (RecordOf u) c.args.pass.now.view c.try_wake.new.pass.view)
          (sym first.3)
          (c.try_wake.ensures.elsewhere missed),
    )
