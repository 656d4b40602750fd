-- What is so of numbers where its contrary isn't.
use Rattle.floor_calls.proofs.Names.{ℕ, zero, suc, true, false, Option, Some, None, refl, sym, ap, arith, eq-eqb}
use Rattle.floor_calls.proofs.Names.{eqb-true}
use Rattle.std.proofs.Common.{◌≡◌, ◌≢◌, ◌<◌, ◌≤◌, ◌∙◌}
use Rattle.std.specs.Prelude.{◌==◌}

pub below : (a b : ℕ) → (a ≤ b → ⊥) → b < a
below a b n = omega (arith, n)

pub at_most : (a b : ℕ) → (a < b → ⊥) → b ≤ a
at_most a b n = omega (arith, n)

pub is_there : (o : Option ℕ) (a : ℕ) → ((o ≡ Some a → ⊥) → ⊥) → o ≡ Some a
is_there None a n = absurd (n (λ e. cc))
is_there (Some b) a n =
    elim (b == a) as (λ t. (b == a) ≡ t → Some b ≡ Some a) [
      | true ↦ λ e. ap Some (eqb-true b a e)
      | false ↦ λ e. absurd (n (λ is.
          let same : b ≡ a = cc in
          let z : true ≡ false = sym (eq-eqb b a same) ∙ e in
          cc))
    ] refl

pub is_one : (a : ℕ) → (a ≢ 1 → ⊥) → a ≡ 1
is_one zero n = absurd (n (λ e. cc))
is_one (suc zero) n = refl
is_one (suc (suc a)) n = absurd (n (λ e. omega (arith, e)))
