use Rattle.lock_floor.proofs.CountStep.{CountedBy}
use Rattle.lock_floor.proofs.counts.FloorOf+Slot+View+Description+Law.count.Given as goal

abbrev pub ghosts-add_awake : goal.ghosts-add_awake
ghosts-add_awake a = record { told = CountedBy a.board.now.shared.key a._how }
