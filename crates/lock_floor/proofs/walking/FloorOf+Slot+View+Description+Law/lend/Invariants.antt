use Rattle.lock_floor.proofs.WalkLend.{Lent}
use Rattle.lock_floor.proofs.walking.FloorOf+Slot+View+Description+Law.lend.Given as goal

abbrev pub ghosts-lent : goal.ghosts-lent
ghosts-lent a = record { told = Lent a.board.now.shared.key a._l.0 a._o.0 a._walk }
