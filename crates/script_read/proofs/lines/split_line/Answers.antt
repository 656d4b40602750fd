use Rattle.std.proofs.Common.{◌∙◌, ap, sym}
use Rattle.lock_model.specs.Script.Lines.{lines_of}
use Rattle.script_read.proofs.Cuts.{lines-cut, lines-whole}
use Rattle.script_read.proofs.lines.split_line.Goals as goal

pub returns-in-Some-clause-lines : goal.returns-in-Some-clause-lines
returns-in-Some-clause-lines c = ap lines_of c.in-Some.ensures.cut
    ∙ lines-cut c.in-Some.line.now c.in-Some.rest.now c.in-Some.ensures.first

pub returns-in-None-clause-lines : goal.returns-in-None-clause-lines
returns-in-None-clause-lines c =
    lines-whole c.args.bytes.now (sym c.is_empty.ensures ∙ c.if-is_empty.false) c.in-None.ensures.none
