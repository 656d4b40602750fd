-- Places of tables, each a lock and a key, and what a map of them holds after one of them was set.
use Rattle.std.proofs.Common.{◌≡◌, ◌≢◌, ℕ, Bool, true, false, cond, Some, refl, ap, ◌∙◌, is_eq}
use Rattle.std.specs.Cmp.{IsTotalOrder, Equal-is, nat_cmp_total, on_total, then_total}
use Rattle.std.specs.FinMap.{FinMap, IsAntisymmetric, get, insert, get-insert}
use Rattle.std.specs.Ordering.{nat_cmp, eq_by_cmp}
use Rattle.std.proofs.lemmas.Cmp.{tied_itself}
use Rattle.std.proofs.lemmas.Map.Lookups.{exact_pairs, exact_unsigned}
use Rattle.lock_model.specs.History.{place_cmp}

pub place_total : IsTotalOrder place_cmp
place_total = then_total (on_total (λ (p : ℕ × ℕ). p.0) nat_cmp_total) (on_total (λ (p : ℕ × ℕ). p.1) nat_cmp_total)

pub place_exact : IsAntisymmetric place_cmp
place_exact = exact_pairs nat_cmp nat_cmp exact_unsigned exact_unsigned

-- a place that was set holds its value
pub get-insert_same : (m : FinMap place_cmp ℕ) (p : ℕ × ℕ) (v : ℕ) → get (insert m p v) p ≡ Some v
get-insert_same m p v = get-insert place_total m p v p
    ∙ ap (λ r. cond (is_eq r) (Some v) (get m p)) (tied_itself place_total p)

-- another place holds what it held
pub get-insert_other : (m : FinMap place_cmp ℕ) (p q : ℕ × ℕ) (v : ℕ) → q ≢ p → get (insert m p v) q ≡ get m q
get-insert_other m p q v apart = get-insert place_total m p v q ∙ go (eq_by_cmp place_cmp q p) refl
  where
    go : (b : Bool) → eq_by_cmp place_cmp q p ≡ b → cond b (Some v) (get m q) ≡ get m q
    go true e = absurd (apart (place_exact q p ((Equal-is (place_cmp q p)).0 e)))
    go false e = refl
