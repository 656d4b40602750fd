-- The first held class that forbids, in a walk over the held ones in order.
use Rattle.std.proofs.Common.{◌≡◌, ℕ, zero, suc, ◌+◌, ◌<◌, List, [], ◌∷◌, length, take, get_or, refl, subst, inl, inr, arith}
use Rattle.lock_model.specs.Orders.{Forbids, IsAdmitted, IsFirstToForbid}
use Rattle.lock_model.specs.declared.numbers.ClassNo.{ClassNo}
use Rattle.witness_orders.specs.Graph.{numbers_of}

module _ (es : List (ℕ × ℕ)) (w : ℕ) (d : ClassNo) where
  pub first_at : (held : List ClassNo) (i : ℕ) → i < length held → IsAdmitted es (numbers_of (take i held)) w
      → Forbids es (get_or held i d).0 w → IsFirstToForbid es (numbers_of held) w (get_or held i d).0
  first_at [] i l g f = absurd (omega arith)
  first_at (h ∷ held) zero l g f = inl (f, refl)
  first_at (h ∷ held) (suc i) l g f = inr (g.0, first_at held i (omega arith) g.1 f)

  admitted_so_far : (held : List ClassNo) (i : ℕ) → i < length held → IsAdmitted es (numbers_of (take i held)) w
      → (Forbids es (get_or held i d).0 w → ⊥) → IsAdmitted es (numbers_of (take (suc i) held)) w
  admitted_so_far [] i l g f = absurd (omega arith)
  admitted_so_far (h ∷ held) zero l g f = (f, tt)
  admitted_so_far (h ∷ held) (suc i) l g f = (g.0, admitted_so_far held i (omega arith) g.1 f)

  pub admitted_more : (held : List ClassNo) (i : ℕ) → i < length held → IsAdmitted es (numbers_of (take i held)) w
      → (Forbids es (get_or held i d).0 w → ⊥) → IsAdmitted es (numbers_of (take (i + 1) held)) w
  admitted_more held i l g f =
      let next : suc i ≡ i + 1 = omega arith in
      subst (λ n. IsAdmitted es (numbers_of (take n held)) w) next (admitted_so_far held i l g f)
