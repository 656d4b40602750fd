-- The draws of a generator, one by one.
use Rattle.std.proofs.Common.{◌≡◌, ℕ, suc, ap, ◌∙◌}
use Rattle.rand_xoshiro.specs.SplitMix64.{mix_u64}
use Rattle.turn_policy.specs.Chance.{draw, state_behind}

pub this_draw : (seed n state word behind : ℕ) → state ≡ state_behind seed n → (word, behind) ≡ mix_u64 state
    → word ≡ draw seed n
unfolding draw
this_draw seed n state word behind e f = ap (λ (p : ℕ × ℕ). p.0) f ∙ ap (λ (s : ℕ). (mix_u64 s).0) e

pub next_draw : (seed n state word behind : ℕ) → state ≡ state_behind seed n → (word, behind) ≡ mix_u64 state
    → behind ≡ state_behind seed (suc n)
unfolding state_behind
next_draw seed n state word behind e f = ap (λ (p : ℕ × ℕ). p.1) f ∙ ap (λ (s : ℕ). (mix_u64 s).1) e
