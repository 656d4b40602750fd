use Rattle.lock_floor.proofs.AbortStep.{ToldAborted}
use Rattle.lock_floor.proofs.aborting.FloorOf+Slot+View+Description+Law.abort.Given as goal

abbrev pub ghosts-abort_off : goal.ghosts-abort_off
ghosts-abort_off a = record { told = ToldAborted a.board.now.shared.key a._q a._t.0 }
