use Rattle.std.proofs.Common.{sym, ◌∙◌, arith}
use Rattle.lock_model.specs.Script.Lines.{lines_of}
use Rattle.tick_sleep.specs.Readers.{known}
use Rattle.tick_sleep.proofs.ToldLines.{next_reading, faulty_reading, numbered_still}
use Rattle.tick_sleep.proofs.reader.Reader.read.Goals as goal

pub returns-in-Err-clause-told : goal.returns-in-Err-clause-told
returns-in-Err-clause-told c =
    rw c.at.ensures (sym c.loop-line.invariant.reads
    ∙ faulty_reading c.loop-line.number (known c.loop-line.reader) c.in-Some.line.now (lines_of c.in-Some.after.now)
    (lines_of c.loop-line.rest.now) c.in-Err.code.0 c.in-Some.ensures.lines c.in-Err.ensures.fault
    c.loop-line.invariant.small)

pub loop-line-preserved : goal.loop-line-preserved
loop-line-preserved c = record {
  reads =
      let n = c.saturating_add-number.ensures in
      next_reading c.loop-line.number c.saturating_add-number.result (known c.loop-line.reader) (known c.learn.new.self)
      c.in-Some.line.now (lines_of c.in-Some.after.now) (lines_of c.loop-line.rest.now)
      c.in-Some.ensures.lines c.in-Ok.ensures.fault (c.in-Ok.ensures.taught ∙ sym c.in_ok-learn-in-Ok.ensures)
      (omega (arith, n)) ∙ c.loop-line.invariant.reads;
  small = omega (arith, c.saturating_add-number.ensures);
  numbered = numbered_still (known c.loop-line.reader) (known c.learn.new.self) c.in-Ok.lesson
      c.in_ok-learn-in-Ok.ensures c.loop-line.invariant.numbered;
}
