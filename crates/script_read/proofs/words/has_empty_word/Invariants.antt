use Rattle.std.proofs.Common.{◌≡◌, drop}
use Rattle.std.specs.List.{list_any}
use Rattle.lock_model.specs.Counts.{is_empty}
use Rattle.lock_model.specs.Script.Lines.{words_of}
use Rattle.script_read.proofs.Cuts.{any_empty}
use Rattle.script_read.proofs.words.has_empty_word.Given as goal

abbrev pub invariant-loop-b : goal.invariant-loop-b
invariant-loop-b l = any_empty l.begins (words_of (drop l.b-index l.text)) ≡ list_any is_empty (words_of l.text)
