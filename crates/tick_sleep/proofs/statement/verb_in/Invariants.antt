use Rattle.std.proofs.Common.{◌≡◌, map, drop}
use Rattle.std.specs.Map.{lookup}
use Rattle.lock_model.specs.Script.Lines.{is_same}
use Rattle.tick_sleep.specs.Words.{row}
use Rattle.tick_sleep.proofs.statement.verb_in.Given as goal

abbrev pub invariant-loop-verb : goal.invariant-loop-verb
invariant-loop-verb l =
    lookup (is_same l.word) (map row (drop l.verb-index l.table)) ≡ lookup (is_same l.word) (map row l.table)
