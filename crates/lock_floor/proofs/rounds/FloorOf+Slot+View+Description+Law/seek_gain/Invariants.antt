use Rattle.lock_floor.proofs.Beginning.{SoughtGained}
use Rattle.lock_floor.proofs.rounds.FloorOf+Slot+View+Description+Law.seek_gain.Given as goal

abbrev pub ghosts-gain_word : goal.ghosts-gain_word
ghosts-gain_word a = record { told = SoughtGained a.board.now.shared.key a.hold a.seen }
