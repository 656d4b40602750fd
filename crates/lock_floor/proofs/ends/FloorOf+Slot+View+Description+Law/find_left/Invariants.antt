use Rattle.lock_floor.proofs.EndStep.{FoundLeft}
use Rattle.lock_floor.proofs.ends.FloorOf+Slot+View+Description+Law.find_left.Given as goal

abbrev pub ghosts-read_ended : goal.ghosts-read_ended
ghosts-read_ended a = record { told = FoundLeft a.board.now.shared.key }
