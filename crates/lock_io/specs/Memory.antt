-- A source and a sink in memory, as contracts see them, and which of their calls fail. They are this project's own.
use Rattle.std.specs.Prelude.{ℕ, Bool, ◌&&◌, ◌==◌, nat_lt, List, length}
use Rattle.std.specs.List.{list_any}
use Rattle.lock_io.specs.Faults.{one_more}

-- the calls of an end: the numbers, from 0, of those that are to fail, how many were made, and how many failed. Both
-- counts stop at the last value of a u64
pub record CallCount : Type 0 where
  pub fails : List ℕ
  pub made : ℕ
  pub faults : ℕ

-- no call was made yet
abbrev pub uncalled : List ℕ → CallCount
uncalled fails = record { fails = fails; made = 0; faults = 0 }

-- whether the next call is to fail
abbrev pub is_due : CallCount → Bool
is_due c = list_any (λ k. k == c.made) c.fails

-- the calls after one more that didn't fail
abbrev pub passed : CallCount → CallCount
passed c = record c { made = one_more c.made }

-- the calls after one more that failed
abbrev pub failed : CallCount → CallCount
failed c = record c { made = one_more c.made; faults = one_more c.faults }

-- a source: the bytes that are left, the most that one read moves, and its calls
pub record Supply : Type 0 where
  pub left : List ℕ
  pub piece : ℕ
  pub calls : CallCount

-- a sink: the bytes that it holds, the most that it has room for, the most that one write moves, and its calls
pub record Store : Type 0 where
  pub held : List ℕ
  pub room : ℕ
  pub piece : ℕ
  pub calls : CallCount

-- whether a full sink refuses a piece: each that isn't empty
abbrev pub is_refused : Store → List ℕ → Bool
is_refused s from = nat_lt 0 (length from) && (length s.held == s.room)
