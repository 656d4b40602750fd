use Rattle.std.proofs.Common.{◌≡◌, ◌++◌, drop, map}
use Rattle.lock_model.specs.Text.{thread_name}
use Rattle.lock_history.specs.Outcomes.{others_joined}
use Rattle.lock_history.proofs.text.queues.push_other_threads.Given as goal

abbrev pub invariant-loop-t : goal.invariant-loop-t
invariant-loop-t l =
    l.out.items ++ others_joined (map (thread_name l.plan) (map (λ t. t.0) (drop l.t-index l.others)))
    ≡ l.initial.out.items ++ others_joined (map (thread_name l.plan) (map (λ t. t.0) l.others))
