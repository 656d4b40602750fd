use Rattle.lock_floor.proofs.Joining.{Asked}
use Rattle.lock_floor.proofs.keeper.Keeper.gather.Given as goal

abbrev pub ghosts-ask : goal.ghosts-ask
ghosts-ask a = record { told = Asked a.board.now.shared.key }
