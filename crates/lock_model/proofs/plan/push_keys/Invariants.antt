use Rattle.std.proofs.Common.{◌≡◌, ℕ, ◌||◌, eqb, take}
use Rattle.std.specs.List.{list_any}
use Rattle.lock_model.specs.Keys.{op_names}
use Rattle.lock_model.proofs.plan.push_keys.Given as goal

abbrev pub invariant-loop-op : goal.invariant-loop-op
invariant-loop-op l = (key : ℕ) → list_any (λ k. eqb k key) l.keys.items
    ≡ (list_any (λ k. eqb k key) l.initial.keys.items || list_any (op_names l.l.0 key) (take l.op-index l.ops))
