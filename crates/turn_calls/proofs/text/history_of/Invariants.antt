use Rattle.std.proofs.Common.{◌≡◌, ◌+◌, length, take}
use Rattle.turn_calls.proofs.text.history_of.Given as goal

-- the first entries are in the log, which has room for the others
abbrev pub invariant-loop-entry : goal.invariant-loop-entry
invariant-loop-entry l =
    (l.log.entries ≡ take l.entry-index l.entries) × (l.log.spare + l.entry-index ≡ length l.entries)
