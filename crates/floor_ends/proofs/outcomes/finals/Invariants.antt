use Rattle.std.proofs.Common.{◌≡◌, map, take}
use Rattle.lock_history.specs.Endings.{numbers_of}
use Rattle.floor_ends.specs.Outcomes.{bases_of}
use Rattle.floor_ends.proofs.outcomes.finals.Given as goal

abbrev pub invariant-loop-rec : goal.invariant-loop-rec
invariant-loop-rec l = numbers_of l.pairs.items ≡ map bases_of (take l.rec-index l.recs)
