use Rattle.std.proofs.Common.{List, ℕ, Option, Bor, Some, option_copied, ap, ◌∙◌}
use Rattle.script_read.specs.Reading.{words_behind}
use Rattle.tick_sleep.specs.Statements.{WithOne, said}
use Rattle.tick_sleep.proofs.Cuts.{three_more}
use Rattle.tick_sleep.proofs.statement.two_or_three_words.Goals as goal

pub returns-in_err-one_word-in-Some : goal.returns-in_err-one_word-in-Some
returns-in_err-one_word-in-Some c = λ f.
    let v = c.cut_word.result.0.now in
    let w = c.cut_word-2.result.0.now in
    let third = ap (λ (o : Option (Bor (List ℕ))). said (WithOne (λ (x : List ℕ). f v w (Some x)))
    (words_behind (option_copied o))) c.in-Some.is in
    rw (
      c.from_residual-in_err-one_word-in-Some.ensures,
      c.in_ok-rest.was,
      c.cut_word.ensures,
      c.in_ok-behind.was,
      c.cut_word-2.ensures,
      c.in-Some.is,
    )
    (c.in_err-one_word-in-Some.ensures (λ (x : List ℕ). f v w (Some x)) ∙ third
    ∙ three_more f v w c.in-Some.field-0.now)

pub returns-in_ok-one_word-in-Some : goal.returns-in_ok-one_word-in-Some
returns-in_ok-one_word-in-Some c = λ f.
    let v = c.cut_word.result.0.now in
    let w = c.cut_word-2.result.0.now in
    let third = ap (λ (o : Option (Bor (List ℕ))). said (WithOne (λ (x : List ℕ). f v w (Some x)))
    (words_behind (option_copied o))) c.in-Some.is in
    rw (c.in_ok-rest.was, c.cut_word.ensures, c.in_ok-behind.was, c.cut_word-2.ensures, c.in-Some.is)
    (c.in_ok-one_word-in-Some.ensures (λ (x : List ℕ). f v w (Some x)) ∙ third ∙ three_more f v w c.in-Some.field-0.now)
