use Rattle.lock_floor.proofs.Gaining.{Dropped}
use Rattle.lock_floor.proofs.steps.FloorOf+Slot+View+Description+Law.put_down.Given as goal

abbrev pub ghosts-drop_word : goal.ghosts-drop_word
ghosts-drop_word a = record { told = Dropped a.board.now.shared.key a.l.0 a.mode a.seen }
