use Rattle.lock_floor.proofs.SleepEnterStep.{ToldEntered}
use Rattle.lock_floor.proofs.sleeping.FloorOf+Slot+View+Description+Law.enter_sleep.Given as goal

abbrev pub ghosts-enter_word : goal.ghosts-enter_word
ghosts-enter_word a = record { told = ToldEntered a.board.now.shared.key a.l.0 a.mode a.seen }
