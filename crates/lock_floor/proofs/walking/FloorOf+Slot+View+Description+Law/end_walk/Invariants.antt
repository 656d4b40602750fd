use Rattle.lock_floor.proofs.WalkEnd.{Ended}
use Rattle.lock_floor.proofs.walking.FloorOf+Slot+View+Description+Law.end_walk.Given as goal

abbrev pub ghosts-ended : goal.ghosts-ended
ghosts-ended a = record { told = Ended a.board.now.shared.key }
