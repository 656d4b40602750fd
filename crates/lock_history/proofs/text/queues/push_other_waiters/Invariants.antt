use Rattle.std.proofs.Common.{◌≡◌, ◌++◌, drop, map}
use Rattle.lock_model.specs.Text.{waiter_word}
use Rattle.lock_history.specs.Outcomes.{others_joined, waiter_seen}
use Rattle.lock_history.proofs.text.queues.push_other_waiters.Given as goal

abbrev pub invariant-loop-waiter : goal.invariant-loop-waiter
invariant-loop-waiter l =
    l.out.items ++ others_joined (map (waiter_word l.plan) (map waiter_seen (drop l.waiter-index l.others)))
    ≡ l.initial.out.items ++ others_joined (map (waiter_word l.plan) (map waiter_seen l.others))
