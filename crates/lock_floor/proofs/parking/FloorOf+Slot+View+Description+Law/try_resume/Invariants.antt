use Rattle.lock_floor.proofs.Resuming.{ResumedOff}
use Rattle.lock_floor.proofs.parking.FloorOf+Slot+View+Description+Law.try_resume.Given as goal

abbrev pub ghosts-run_again : goal.ghosts-run_again
ghosts-run_again a = record { told = ResumedOff a.board.now.shared.key }
