use Rattle.lock_floor.proofs.Gaining.{Gained}
use Rattle.lock_floor.proofs.steps.FloorOf+Slot+View+Description+Law.gain.Given as goal

abbrev pub ghosts-gain_word : goal.ghosts-gain_word
ghosts-gain_word a = record { told = Gained a.board.now.shared.key a.hold a.seen }
