use Rattle.std.proofs.Common.{◌∙◌, ap}
use Rattle.lock_model.specs.Script.Lines.{lines_of}
use Rattle.script_read.proofs.Cuts.{lines-cut, printable-lacks}
use Rattle.script_read.proofs.lines.split_judged.Goals as goal

pub returns-in-Some-clause-lines : goal.returns-in-Some-clause-lines
returns-in-Some-clause-lines c = ap lines_of c.in-Some.ensures.cut
    ∙ lines-cut c.in-Some.line.now c.in-Some.rest.now (printable-lacks c.in-Some.line.now c.in-Some.ensures.judged)
