use Rattle.lock_floor.proofs.Looking.{Looked}
use Rattle.lock_floor.proofs.steps.FloorOf+Slot+View+Description+Law.look.Given as goal

abbrev pub ghosts-read_word : goal.ghosts-read_word
ghosts-read_word a = record { told = Looked a.board.now.shared.key a.l.0 }
