-- Sets of threads whose numbers are below 32, as the bits of a number: the lowest is that of thread 0.
use Rattle.std.specs.Prelude.{◌≡◌, ℕ, ◌-◌, ◌^◌, ◌<◌, ◌≤◌, true, false, List, ◌++◌, length, filter}
use Rattle.std.specs.List.{All, range_with_len}
use Rattle.lock_model.specs.Counts.{has_bit}

-- the threads of a set, by number
unfoldable pub members : ℕ → List ℕ
members bits = filter (λ t. has_bit t bits) (range_with_len 0 32)

-- So many threads were taken off the front of a set, each of them one of another set.
pub record Passes (passed old new number : ℕ) : Type 0 where
  pub front : List ℕ
  pub are : members old ≡ front ++ members new
  pub number_is : length front ≡ number
  pub each : All (λ t. has_bit t passed ≡ true) front

-- So many of the lowest bits are set, and another number has none of these.
pub record IsBelow (other mask : ℕ) : Type 0 where
  pub k : ℕ
  pub few : k ≤ 32
  pub mask_is : mask ≡ 2 ^ k - 1
  pub none : (t : ℕ) → t < k → has_bit t other ≡ false
