use Rattle.std.proofs.Common.{sym}
use Rattle.script_read.proofs.Cuts.{printable-before}
use Rattle.script_read.proofs.lines.printable_line.Goals as goal

pub returns-clause-judged : goal.returns-clause-judged
returns-clause-judged c = printable-before c.args.bytes.now c.in_ok-place.place (sym c.in_ok-place.ensures)
