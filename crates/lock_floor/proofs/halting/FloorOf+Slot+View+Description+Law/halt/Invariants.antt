use Rattle.lock_floor.proofs.HaltStep.{HasHalted}
use Rattle.lock_floor.proofs.halting.FloorOf+Slot+View+Description+Law.halt.Given as goal

abbrev pub ghosts-set_halt : goal.ghosts-set_halt
ghosts-set_halt a = record { told = λ me found behind. HasHalted a.board.now.shared.key me behind }
