use Rattle.std.proofs.Common.{rules, ◌≢◌, []}
use Rattle.wait_objects.specs.SleepQueues.Changes.{waiters}
use Rattle.wait_objects.proofs.Taken.{some_places}
use Rattle.wait_objects.proofs.Best.{some_best}
use Rattle.wait_objects.proofs.sleep_queue.Object+Sleeping.signal.Goals as goal

pub returns-clause-some : goal.returns-clause-some
returns-clause-some c =
    let some : waiters c.args.side c.args.self.now.contents ≢ [] = search rules in (
      some,
      rw c.take.ensures.taken
          (some_places _ c.args.self.now.contents.free (some_best (waiters c.args.side c.args.self.now.contents) some)),
      record { taken = c.take.ensures.taken; others = c.take.ensures.others; last = c.take.ensures.last },
    )
