use Rattle.std.proofs.Common.{◌∙◌, arith}
use Rattle.lock_model.specs.Script.Lines.{lines_of}
use Rattle.script_read.specs.Readers.{known}
use Rattle.script_read.proofs.ToldLines.{next_reading, error_tells}
use Rattle.script_read.proofs.reader.Reader.read.Goals as goal

pub returns-in-Err : goal.returns-in-Err
returns-in-Err c =
    rw c.at.ensures (error_tells c.loop-line.number (known c.loop-line.reader) c.in-Some.line.now
    (lines_of c.in-Some.after.now) (lines_of c.loop-line.rest.now) c.in-Err.e _
    c.in-Some.ensures.lines c.loop-line.invariant.small c.in-Err.ensures c.loop-line.invariant.reads)

pub loop-line-preserved : goal.loop-line-preserved
loop-line-preserved c = record {
  reads =
      let n = c.saturating_add-number.ensures in
      next_reading c.loop-line.number c.saturating_add-number.result (known c.loop-line.reader)
      (known c.read_line.new.self) c.in-Some.line.now (lines_of c.in-Some.after.now) (lines_of c.loop-line.rest.now)
      c.in-Some.ensures.lines c.in_default-read_line.ensures.0 c.in_default-read_line.ensures.1 (omega (arith, n))
      ∙ c.loop-line.invariant.reads;
  small = omega (arith, c.saturating_add-number.ensures);
}
