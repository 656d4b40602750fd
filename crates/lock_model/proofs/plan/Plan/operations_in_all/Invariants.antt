use Rattle.std.proofs.Common.{◌≡◌, ◌+◌, drop, length, map, sum}
use Rattle.lock_model.specs.Operations.{operations_in_all}
use Rattle.lock_model.proofs.plan.Plan.operations_in_all.Given as goal

-- those so far, and those of the threads to come
abbrev pub invariant-loop-thread : goal.invariant-loop-thread
invariant-loop-thread l =
    l.all + sum (map (λ d. length d.ops) (drop l.thread-index l.self.threads)) ≡ operations_in_all l.self
