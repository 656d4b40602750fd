use Rattle.lock_floor.proofs.MarkStep.{MarkedFirst}
use Rattle.lock_floor.proofs.marking.FloorOf+Slot+View+Description+Law.mark.Given as goal

abbrev pub ghosts-say_woken : goal.ghosts-say_woken
ghosts-say_woken a = record { told = MarkedFirst a.board.now.shared.key }
