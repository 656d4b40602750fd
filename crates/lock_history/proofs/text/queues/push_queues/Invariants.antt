use Rattle.std.proofs.Common.{◌≡◌, ◌++◌, take, map, flat_map}
use Rattle.lock_model.specs.Text.{queue_line}
use Rattle.lock_history.specs.Outcomes.{line_seen}
use Rattle.lock_history.proofs.text.queues.push_queues.Given as goal

abbrev pub invariant-loop-queue : goal.invariant-loop-queue
invariant-loop-queue l =
    l.out.items ≡ l.initial.out.items ++ flat_map (queue_line l.plan) (map line_seen (take l.queue-index l.queues))
