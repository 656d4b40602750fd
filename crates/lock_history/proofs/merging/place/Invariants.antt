use Rattle.std.proofs.Common.{◌≡◌, drop}
use Rattle.lock_history.specs.Tickets.{placed_by}
use Rattle.lock_history.proofs.merging.place.Given as goal

-- what is left to put gives what all of it gives
abbrev pub invariant-loop-entry : goal.invariant-loop-entry
invariant-loop-entry l = placed_by l.places (drop l.entry-index l.log) ≡ placed_by l.initial.places l.log
