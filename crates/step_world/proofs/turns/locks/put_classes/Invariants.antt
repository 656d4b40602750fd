use Rattle.step_world.proofs.Names.{map, take, lock_class, numbers_of}
use Rattle.std.proofs.Common.{◌≡◌}
use Rattle.step_world.proofs.turns.locks.put_classes.Given as goal

abbrev pub invariant-loop-i : goal.invariant-loop-i
invariant-loop-i l = numbers_of (take l.i l.classes) ≡ map (λ h. lock_class l.plan h.l.0) (take l.i l.held)
