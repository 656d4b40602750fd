use Rattle.lock_floor.proofs.FoundQueued.{FoundQueued}
use Rattle.lock_floor.proofs.parking.FloorOf+Slot+View+Description+Law.find_queued.Given as goal

abbrev pub ghosts-read_wait : goal.ghosts-read_wait
ghosts-read_wait a = record { told = FoundQueued a.board.now.shared.key a.t.0 }
