use Rattle.lock_floor.proofs.Taking.{Taken}
use Rattle.lock_floor.proofs.latches.FloorOf+Slot+View+Description+Law.try_take.Given as goal

abbrev pub ghosts-take_latch : goal.ghosts-take_latch
ghosts-take_latch a = record { told = Taken a.board.now.shared.key a.slot }
