use Rattle.lock_floor.proofs.Names.{sym, ap, places_of}
use Rattle.std.proofs.Common.{◌∙◌}
use Rattle.lock_floor.proofs.marking.first_of.Goals as goal

pub returns-in_ok-first-in-Waiters-clause-some : goal.returns-in_ok-first-in-Waiters-clause-some
returns-in_ok-first-in-Waiters-clause-some c =
    let n = c.in_ok-first-in-Waiters.field-0.now in
    (n.place, n.next, ap places_of c.in-Waiters.is ∙ c.in_ok-first-in-Waiters.ensures.some, sym c.thread.ensures)

pub returns-in_ok-first-in-Sleepers-clause-some : goal.returns-in_ok-first-in-Sleepers-clause-some
returns-in_ok-first-in-Sleepers-clause-some c =
    let n = c.in_ok-first-in-Sleepers.field-0.now in (
      n.place,
      n.next,
      ap places_of c.in-Sleepers.is
          ∙ c.in_ok-first-in-Sleepers.ensures.some,
      sym c.thread-in-Sleepers.ensures,
    )

pub returns-in_ok-first-in-AbortedSleepers-clause-some : goal.returns-in_ok-first-in-AbortedSleepers-clause-some
returns-in_ok-first-in-AbortedSleepers-clause-some c =
    let n = c.in_ok-first-in-AbortedSleepers.field-0.now in (
      n.place,
      n.next,
      ap places_of c.in-AbortedSleepers.is
          ∙ c.in_ok-first-in-AbortedSleepers.ensures.some,
      sym c.thread-in-AbortedSleepers.ensures,
    )
