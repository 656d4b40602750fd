use Rattle.std.proofs.Common.{◌≡◌, ℕ, ◌+◌, ◌<◌, eqb, take, length, get_or}
use Rattle.std.specs.List.{count_by}
use Rattle.lock_model.specs.Plans.{lock_class}
use Rattle.hold_profile.proofs.orders.count_held.Given as goal

abbrev pub invariant-loop-l : goal.invariant-loop-l
invariant-loop-l l = record {
  len : length l.row.items ≡ length l.initial.row.items;
  counted : (a : ℕ) → a < length l.initial.row.items
      → get_or l.row.items a 0 ≡ get_or l.initial.row.items a 0 + count_by (λ k. eqb (lock_class l.plan k.0) a)
      (take l.l-index l.held);
}
