use Rattle.lock_floor.proofs.Entering.{EnteredAny}
use Rattle.lock_floor.proofs.waits.FloorOf+Slot+View+Description+Law.enter.Given as goal

abbrev pub ghosts-enter_word : goal.ghosts-enter_word
ghosts-enter_word a = record { told = EnteredAny a.board.now.shared.key a.l.0 a.mode a.seen }
