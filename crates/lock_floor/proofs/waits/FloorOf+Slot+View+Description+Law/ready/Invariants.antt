use Rattle.lock_floor.proofs.Readying.{Readied}
use Rattle.lock_floor.proofs.waits.FloorOf+Slot+View+Description+Law.ready.Given as goal

abbrev pub ghosts-say_wait : goal.ghosts-say_wait
ghosts-say_wait a = record { told = Readied a.board.now.shared.key a._q a.queued }
