use Rattle.lock_floor.proofs.LastStep.{LastOff}
use Rattle.lock_floor.proofs.halting.FloorOf+Slot+View+Description+Law.abort_last.Given as goal

abbrev pub ghosts-hide : goal.ghosts-hide
ghosts-hide a = record { told = λ me found behind. LastOff a.board.now.shared.key a.l.0 a._side a._t.0 me behind }
