use Rattle.lock_floor.proofs.Stamping.{Stamped}
use Rattle.lock_floor.proofs.stamps.FloorOf+Slot+View+Description+Law.stamp.Given as goal

abbrev pub ghosts-next_ticket : goal.ghosts-next_ticket
ghosts-next_ticket a = record { told = Stamped a.board.now.shared.key a._event }
