use Rattle.std.proofs.Common.{◌∙◌, sym}
use Rattle.lock_model.specs.Script.Statements.{Schedules}
use Rattle.script_read.proofs.Cuts.{some_filled}
use Rattle.script_read.proofs.statement.some_words.Goals as goal

pub returns : goal.returns
returns c = rw c.in_ok-names.was
    (some_filled Schedules c.in_ok-names.names.now (sym c.has_empty_word.ensures ∙ c.if-has_empty_word.false))
