use Rattle.lock_floor.proofs.WalkEnd.{Ended}
use Rattle.lock_floor.proofs.WalkSort.{Shifted}
use Rattle.lock_floor.proofs.walking.FloorOf+Slot+View+Description+Law.sort.Given as goal

abbrev pub ghosts-shifted : goal.ghosts-shifted
ghosts-shifted a = record { told = Shifted a.board.now.shared.key a._l.0 a._o.0 a._walk }

abbrev pub ghosts-ended : goal.ghosts-ended
ghosts-ended a = record { told = Ended a.board.now.shared.key }
