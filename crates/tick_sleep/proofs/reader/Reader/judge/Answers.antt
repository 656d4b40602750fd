use Rattle.std.proofs.Common.{sym, ◌∙◌, arith}
use Rattle.tick_sleep.specs.Readers.{known}
use Rattle.tick_sleep.specs.Words.{meant}
use Rattle.tick_sleep.proofs.LineStages.{bytes_fault, no_fault, nothing_learned, words_fault, later_fault, learned_behind}
use Rattle.tick_sleep.proofs.reader.Reader.judge.Goals as goal

pub returns-in_err-test_bytes-clause-fault : goal.returns-in_err-test_bytes-clause-fault
returns-in_err-test_bytes-clause-fault c = let f =
    bytes_fault (known c.args.self.now) c.args.line.now _ c.in_err-test_bytes.ensures in grind (arith, f)

pub returns-then-not-has_meaning-clause-fault : goal.returns-then-not-has_meaning-clause-fault
returns-then-not-has_meaning-clause-fault c =
    let h = sym c.has_meaning.ensures ∙ c.if-not-has_meaning.true in
    no_fault (known c.args.self.now) c.args.line.now c.in_ok-test_bytes.ensures h

pub returns-then-not-has_meaning-clause-taught : goal.returns-then-not-has_meaning-clause-taught
returns-then-not-has_meaning-clause-taught c =
    let h = sym c.has_meaning.ensures ∙ c.if-not-has_meaning.true in
    nothing_learned (known c.args.self.now) c.args.line.now h

pub returns-in_err-statement-clause-fault : goal.returns-in_err-statement-clause-fault
returns-in_err-statement-clause-fault c =
    let h = sym c.has_meaning.ensures ∙ c.if-not-has_meaning.false in
    let f = words_fault (known c.args.self.now) c.args.line.now _ c.in_ok-test_bytes.ensures h
    c.in_err-statement.ensures.fault in grind (arith, f)

pub returns-clause-fault : goal.returns-clause-fault
returns-clause-fault c =
    let h = sym c.has_meaning.ensures ∙ c.if-not-has_meaning.false in
    rw (later_fault (known c.args.self.now) c.args.line.now (meant c.in_ok-statement.statement)
    c.in_ok-test_bytes.ensures h c.in_ok-statement.ensures.fault c.in_ok-statement.ensures.said)
    c.judge_statement.ensures.fault

pub returns-clause-taught : goal.returns-clause-taught
returns-clause-taught c =
    let h = sym c.has_meaning.ensures ∙ c.if-not-has_meaning.false in
    rw (learned_behind (known c.args.self.now) c.args.line.now (meant c.in_ok-statement.statement) h
    c.in_ok-statement.ensures.said) c.judge_statement.ensures.taught
