use Rattle.std.proofs.Common.{◌≡◌, drop}
use Rattle.lock_history.specs.Tickets.{entries_in, placed_by}
use Rattle.lock_history.proofs.merging.place_all.Given as goal

-- what is left to put gives what all of it gives
abbrev pub invariant-loop-log : goal.invariant-loop-log
invariant-loop-log l =
    placed_by l.places (entries_in (drop l.log-index l.logs)) ≡ placed_by l.initial.places (entries_in l.logs)
