-- The draws of chance: those of the generator SplitMix64 of Steele, Lea and Flood. Its state is one number below 2 ^
-- 64, at first the seed. Each draw adds a constant to the state, and mixes the sum.
use Rattle.std.specs.Prelude.{ℕ, zero, suc}
use Rattle.rand_xoshiro.specs.SplitMix64.{mix_u64}

-- the state behind so many draws
unfoldable pub state_behind : ℕ → ℕ → ℕ
state_behind seed zero = seed
state_behind seed (suc n) = (mix_u64 (state_behind seed n)).1

-- the n-th draw, from 0
unfoldable pub draw : ℕ → ℕ → ℕ
draw seed n = (mix_u64 (state_behind seed n)).0
