-- What a line's stages come to: its bytes, its words, and what it says.
use Rattle.std.proofs.Common.{◌≡◌, ℕ, true, false, List, Some, None, refl}
use Rattle.lock_model.specs.Tests.{least_code, first_fault}
use Rattle.lock_model.specs.Script.Lines.{has_meaning}
use Rattle.lock_model.specs.Script.Statements.{Statement, statement_of}
use Rattle.lock_model.specs.Script.Learning.{Known, learned}
use Rattle.lock_model.specs.Script.Faults.{byte_tests, word_tests, statement_stages, line_fault, behind_line}

module _ (k : Known) (line : List ℕ) where
  pub bytes_fault : (code : ℕ) → least_code (byte_tests line) ≡ Some code → line_fault k line ≡ Some code
  unfolding line_fault
  bytes_fault code e = rw e refl

  -- without a meaning
  pub no_fault : least_code (byte_tests line) ≡ None → has_meaning line ≡ false → line_fault k line ≡ None
  unfolding line_fault
  no_fault e m = rw (e, m) refl

  pub nothing_learned : has_meaning line ≡ false → behind_line k line ≡ k
  unfolding behind_line
  nothing_learned m = rw m refl

  -- with one
  pub words_fault : (code : ℕ) → least_code (byte_tests line) ≡ None → has_meaning line ≡ true
      → least_code (word_tests k line) ≡ Some code → line_fault k line ≡ Some code
  unfolding line_fault
  words_fault code e m w = rw (e, m, w) refl

  pub later_fault : (s : Statement) → least_code (byte_tests line) ≡ None → has_meaning line ≡ true
      → least_code (word_tests k line) ≡ None → statement_of line ≡ Some s
      → line_fault k line ≡ first_fault (statement_stages k (Some s))
  unfolding line_fault
  later_fault s e m w i = rw (e, m, w, i) refl

  pub learned_behind : (s : Statement) → has_meaning line ≡ true → statement_of line ≡ Some s
      → behind_line k line ≡ learned k s
  unfolding behind_line
  learned_behind s m i = rw (m, i) refl
