use Rattle.lock_floor.proofs.Taking.{Given}
use Rattle.lock_floor.proofs.latches.FloorOf+Slot+View+Description+Law.give.Given as goal

abbrev pub ghosts-give_latch : goal.ghosts-give_latch
ghosts-give_latch a = record { told = Given a.board.now.shared.key a.slot }
