use Rattle.lock_floor.proofs.Names.{word_of, side_woken, config_in}
use Rattle.lock_floor.proofs.OpenStep.{Opened}
use Rattle.lock_floor.proofs.opening.FloorOf+Slot+View+Description+Law.open_up.Given as goal

abbrev pub ghosts-open_word : goal.ghosts-open_word
ghosts-open_word a = record {
  told = Opened a.board.now.shared.key a.l.0
      (side_woken ((config_in a.board.now.shared.key).kind a.l.0) (word_of a.seen)) a.seen;
}
