use Rattle.lock_floor.proofs.Beginning.{FirstGained}
use Rattle.lock_floor.proofs.rounds.FloorOf+Slot+View+Description+Law.gain_first.Given as goal

abbrev pub ghosts-gain_word : goal.ghosts-gain_word
ghosts-gain_word a = record { told = FirstGained a.board.now.shared.key a.hold a.seen }
