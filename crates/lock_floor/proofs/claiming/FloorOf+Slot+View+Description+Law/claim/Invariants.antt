use Rattle.lock_floor.proofs.ClaimStep.{Claimed}
use Rattle.lock_floor.proofs.claiming.FloorOf+Slot+View+Description+Law.claim.Given as goal

abbrev pub ghosts-claim_word : goal.ghosts-claim_word
ghosts-claim_word a = record { told = Claimed a.board.now.shared.key a.l a._by_try a.seen }
