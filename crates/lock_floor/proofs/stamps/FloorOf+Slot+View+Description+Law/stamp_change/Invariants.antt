use Rattle.lock_floor.proofs.Stamping.{StampedWith}
use Rattle.lock_floor.proofs.stamps.FloorOf+Slot+View+Description+Law.stamp_change.Given as goal

abbrev pub ghosts-next_ticket : goal.ghosts-next_ticket
ghosts-next_ticket a = record { told = StampedWith a.board.now.shared.key a._event (λ me. me.1) }
