-- The words that were read, as contracts see them.
use Rattle.plan_command.specs.Forms.{Asking, AsksForHelp, AsksSchedule}
use Rattle.plan_command.specs.declared.words.Asked.{Asked}
use Rattle.plan_command.specs.declared.words.Asked.TheVariants.{Help, Schedule}

-- what they ask for
abbrev pub asking : Asked → Asking
asking (Schedule policy) = AsksSchedule policy
asking (Help text) = AsksForHelp
