use Rattle.std.proofs.Common.{arith}
use Rattle.std.proofs.lemmas.Grind.{common_steps}
use Rattle.std.proofs.lemmas.Str.{IsUtf8-from_is_utf8, is_utf8-from_IsUtf8}
use Rattle.chart_top.proofs.heading.text_of.Goals as goal

pub returns : goal.returns
returns c = grind (arith, common_steps, IsUtf8-from_is_utf8, is_utf8-from_IsUtf8)
