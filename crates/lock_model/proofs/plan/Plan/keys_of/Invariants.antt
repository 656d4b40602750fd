use Rattle.std.proofs.Common.{◌≡◌, ℕ, eqb, take}
use Rattle.std.specs.List.{list_any}
use Rattle.lock_model.specs.Keys.{op_names}
use Rattle.lock_model.proofs.plan.Plan.keys_of.Given as goal

-- the keys of the threads so far
abbrev pub invariant-loop-thread : goal.invariant-loop-thread
invariant-loop-thread l = (key : ℕ) → list_any (λ k. eqb k key) l.keys.items
    ≡ list_any (λ d. list_any (op_names l.fn.l.0 key) d.ops) (take l.thread-index l.self.threads)
