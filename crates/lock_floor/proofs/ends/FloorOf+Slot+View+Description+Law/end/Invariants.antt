use Rattle.lock_floor.proofs.EndStep.{HasEnded}
use Rattle.lock_floor.proofs.ends.FloorOf+Slot+View+Description+Law.end.Given as goal

abbrev pub ghosts-add_ended : goal.ghosts-add_ended
ghosts-add_ended a = record { told = HasEnded a.board.now.shared.key }
