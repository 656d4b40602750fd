use Rattle.std.proofs.Common.{◌≡◌, ◌++◌, flat_map}
use Rattle.std.specs.List.{zip}
use Rattle.hold_profile.specs.ProfileText.{lock_text}
use Rattle.hold_profile.proofs.text.push_locks.Given as goal

abbrev pub invariant-loop-lock : goal.invariant-loop-lock
invariant-loop-lock l =
    l.out.items
    ++ flat_map (lock_text l.plan) (zip l.lock-iterator.a.rest.now l.lock-iterator.b.rest.now)
    ≡ l.initial.out.items ++ flat_map (lock_text l.plan) (zip l.locks l.lines)
