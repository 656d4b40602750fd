-- A row of counts while locks are counted in it, one by one.
use Rattle.std.proofs.Common.{◌≡◌, ℕ, ◌+◌, ◌^◌, ◌<◌, eqb, List, length, take, get_or, arith}
use Rattle.std.specs.List.{count_by, All}
use Rattle.std.proofs.lemmas.List.{get_or_default, length-take-le}
use Rattle.std.proofs.lemmas.List.Sums.{count_by-le-length}
use Rattle.lock_model.specs.declared.numbers.LockNo.{LockNo}

module _ (row init : List ℕ) (held : List LockNo) (class : LockNo → ℕ) (i : ℕ) (same : length row ≡ length init)
    (counted : (a : ℕ) → a < length init
    → get_or row a 0 ≡ get_or init a 0 + count_by (λ k. eqb (class k) a) (take i held)) where
  -- there is room for one more
  pub row_fits_one : All (λ n. n + length held < 2 ^ 32) init → i < length held → All (λ n. n + 1 < 2 ^ 32) row
  row_fits_one fits lt a z la =
      let inside : a < length init = omega (arith, same) in
      let few = count_by-le-length (λ k. eqb (class k) a) (take i held) in
      let long : length (take i held) ≡ i = length-take-le i held (omega arith) in
      omega (arith, get_or_default row a z 0 la, counted a inside, few, long, fits a 0 inside)
