use Rattle.lock_floor.proofs.AddStep.{ToldAdded}
use Rattle.lock_floor.proofs.channels.FloorOf+Slot+View+Description+Law.add.Given as goal

abbrev pub ghosts-added_to : goal.ghosts-added_to
ghosts-added_to a = record { told = ToldAdded a.board.now.shared.key a._d.0 }
