use Rattle.std.proofs.Common.{◌≡◌, ◌<◌, ℕ, take}
use Rattle.std.specs.List.{slice_index_or}
use Rattle.clap.specs.Words.{app_of}
use Rattle.option_words.specs.Rule.{FitsKind, app_with, rules_with}
use Rattle.option_words.specs.declared.synopsis.LongOption.{LongOption}
use Rattle.option_words.proofs.rule.rule.Given as goal

abbrev pub invariant-loop-long : goal.invariant-loop-long
invariant-loop-long l =
    (app_of l.command ≡ app_with l.synopsis (rules_with l.synopsis (take l.long-index l.long-items)))
    × ((k : ℕ) (d : LongOption) → k < l.long-index → FitsKind (slice_index_or l.long-items k d).kind)
