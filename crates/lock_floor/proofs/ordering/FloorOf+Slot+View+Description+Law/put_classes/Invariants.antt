use Rattle.lock_floor.proofs.Names.{map, take, config_in, numbers_of}
use Rattle.std.proofs.Common.{◌≡◌}
use Rattle.lock_floor.proofs.ordering.FloorOf+Slot+View+Description+Law.put_classes.Given as goal

abbrev pub invariant-loop-i : goal.invariant-loop-i
invariant-loop-i l =
    numbers_of (take l.i l.classes) ≡ map (λ h. (config_in l.self.description).class h.l.0) (take l.i l.held)
