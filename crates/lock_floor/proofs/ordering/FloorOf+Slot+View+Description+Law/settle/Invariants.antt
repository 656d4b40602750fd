use Rattle.lock_floor.proofs.Names.{option_map}
use Rattle.lock_floor.proofs.OrderStep.{SettledGraph}
use Rattle.lock_floor.proofs.ordering.FloorOf+Slot+View+Description+Law.settle.Given as goal

abbrev pub ghosts-give_graph : goal.ghosts-give_graph
ghosts-give_graph a =
    record { told = SettledGraph a.board.now.shared.key a._l.0 (option_map (λ k. k.0) a._against) }
