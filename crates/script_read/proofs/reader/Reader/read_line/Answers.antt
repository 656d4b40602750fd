use Rattle.std.proofs.Common.{sym, ◌∙◌, arith}
use Rattle.script_read.specs.Readers.{known}
use Rattle.script_read.specs.Statements.{meant}
use Rattle.script_read.proofs.LineStages.{bytes_fault, no_fault, nothing_learned, words_fault, later_fault, learned_behind}
use Rattle.script_read.proofs.reader.Reader.read_line.Goals as goal

pub returns-in_err-test_bytes : goal.returns-in_err-test_bytes
returns-in_err-test_bytes c =
    let f = bytes_fault (known c.args.self.now) c.args.line.now _ c.in_err-test_bytes.ensures in
    grind (arith, f)

pub returns-then-not-has_meaning : goal.returns-then-not-has_meaning
returns-then-not-has_meaning c =
    let h = sym c.has_meaning.ensures ∙ c.if-not-has_meaning.true in (
      no_fault (known c.args.self.now) c.args.line.now c.in_ok-test_bytes.ensures h,
      nothing_learned (known c.args.self.now) c.args.line.now h,
    )

pub returns-in_err-statement : goal.returns-in_err-statement
returns-in_err-statement c =
    let h = sym c.has_meaning.ensures ∙ c.if-not-has_meaning.false in
    let f = words_fault
    (known c.args.self.now) c.args.line.now _ c.in_ok-test_bytes.ensures h c.in_err-statement.ensures.fault in
    grind (arith, f)

pub returns : goal.returns
returns c =
    let h = sym c.has_meaning.ensures ∙ c.if-not-has_meaning.false in
    let s = meant c.in_ok-statement.statement in
    rw (
      later_fault (known c.args.self.now) c.args.line.now s c.in_ok-test_bytes.ensures h c.in_ok-statement.ensures.fault
          c.in_ok-statement.ensures.said,
      learned_behind (known c.args.self.now) c.args.line.now s h c.in_ok-statement.ensures.said,
    ) c.apply.ensures
