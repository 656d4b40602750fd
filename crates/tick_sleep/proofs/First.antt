-- The first item that passes a test: its place, itself, and the list without it.
use Rattle.std.proofs.Common.{◌≡◌, ℕ, suc, ◌+◌, ◌<◌, ◌≤◌, Bool, true, false, not, cond, nat_lt, List, [], ◌∷◌, length, get_or, Some, None, find, refl, ap, subst, arith, inl, inr}
use Rattle.std.specs.Prelude.{remove, position}
use Rattle.std.specs.List.{position_or_len}
use Rattle.std.proofs.lemmas.Bool.{cases_Bool, ltb-true}
use Rattle.std.proofs.lemmas.Bool.Decides.{nat_tests}
use Rattle.std.proofs.lemmas.Option.{cond_some}
use Rattle.tick_sleep.specs.Ticks.{without_first}

module _ {A : Type 0} (p : A → Bool) where
  at_place : (xs : List A) (d : A) → position_or_len p xs < length xs
      → (remove xs (position_or_len p xs) ≡ without_first p xs)
      × (Some (get_or xs (position_or_len p xs) d) ≡ find p xs)
  at_place [] d e = absurd (omega arith)
  at_place (x ∷ xs) d e =
      let n = position_or_len p xs in
      elim (p x) as (λ b. cond (not b) (1 + n) 0 < length (x ∷ xs)
      → (remove (x ∷ xs) (cond (not b) (1 + n) 0) ≡ cond b xs (x ∷ without_first p xs))
      × (Some (get_or (x ∷ xs) (cond (not b) (1 + n) 0) d) ≡ cond b (Some x) (find p xs))) [
        | true ↦ λ q. (refl, refl)
        | false ↦ λ q.
            let next : suc n ≡ 1 + n = omega arith in
            let rest = at_place xs d (omega arith) in
            subst (λ m. (remove (x ∷ xs) m ≡ x ∷ without_first p xs) × (Some (get_or (x ∷ xs) m d) ≡ find p xs)) next
            (ap (λ ys. x ∷ ys) rest.0, rest.1)
      ] e

  found_place : (n k i : ℕ) → cond (nat_lt n k) (Some n) None ≡ Some i → (n < k) × (n ≡ i)
  found_place n k i e = let f = cond_some (nat_lt n k) n i e in (ltb-true n k f.0, f.1)

  -- the item at the place is taken out, and is the one that is found
  pub taken_out : (xs : List A) (i : ℕ) (d : A) → position p xs ≡ Some i → (remove xs i ≡ without_first p xs)
      × (Some (get_or xs i d) ≡ find p xs)
  taken_out xs i d e =
      let f = found_place (position_or_len p xs) (length xs) i e in
      subst (λ (k : ℕ). (remove xs k ≡ without_first p xs) × (Some (get_or xs k d) ≡ find p xs)) f.1 (at_place xs d f.0)

  no_place : (xs : List A) → length xs ≤ position_or_len p xs → (without_first p xs ≡ xs) × (find p xs ≡ None)
  no_place [] e = (refl, refl)
  no_place (x ∷ xs) e =
      elim (p x) as (λ b. length (x ∷ xs) ≤ cond (not b) (1 + position_or_len p xs) 0
      → (cond b xs (x ∷ without_first p xs) ≡ x ∷ xs) × (cond b (Some x) (find p xs) ≡ None)) [
        | true ↦ λ q. absurd (omega arith)
        | false ↦ λ q. let r = no_place xs (omega arith) in (ap (λ ys. x ∷ ys) r.0, r.1)
      ] e

  not_found : (n k : ℕ) → cond (nat_lt n k) (Some n) None ≡ None → k ≤ n
  not_found n k e = grind (arith, nat_tests)

  -- where it has no place, nothing is taken out or found
  pub none_out : (xs : List A) → position p xs ≡ None → (without_first p xs ≡ xs) × (find p xs ≡ None)
  none_out xs e = no_place xs (not_found (position_or_len p xs) (length xs) e)

  -- what is found passes
  pub found_passes : (xs : List A) (x : A) → find p xs ≡ Some x → p x ≡ true
  found_passes [] x e = absurd cc
  found_passes (y ∷ ys) x e = elim (cases_Bool (p y)) [
    | inl h ↦ let i = rw h at e in let same : y ≡ x = cc in subst (λ z. p z ≡ true) same h
    | inr h ↦ found_passes ys x (rw h at e)
  ]
