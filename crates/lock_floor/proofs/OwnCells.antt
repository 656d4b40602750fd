-- Whether a cell is one of the floor's shows by the key that the floor has for its place.
use Rattle.lock_floor.proofs.Names.{ℕ, true, nat_eq, length, get_or, Some, sym, ap, subst, arith, eq-eqb, eqb-true}
use Rattle.lock_floor.proofs.Names.{CellOf, IsSized, Description, slot_of, cell_place}
use Rattle.std.proofs.Common.{◌≡◌, ◌+◌, ◌-◌, ◌<◌, ◌≤◌, ◌∙◌}
use Rattle.std.specs.Prelude.{◌↔◌}
use Rattle.lock_floor.proofs.CellPlaces.{cell_at}

module _ (floor : Description) (sized : IsSized floor) (l key slot first : ℕ) (at : ℕ × ℕ)
    (many : first ≡ length floor.threads) (within : first ≤ slot) (low : slot - first < length floor.keys)
    (is : at ≡ get_or floor.keys (slot - first) at) where
  lies_there : at ≡ (l, key) → slot_of floor (CellOf l key) ≡ Some slot
  lies_there same =
      let place : length floor.threads + (slot - first) ≡ slot = omega (arith, many, within) in
      subst (λ (x : ℕ × ℕ). slot_of floor (CellOf x.0 x.1) ≡ Some (length floor.threads + (slot - first)))
      (sym is ∙ same) (cell_at floor sized (slot - first) at low)
      ∙ ap Some place

  its_key : slot_of floor (CellOf l key) ≡ Some slot → at ≡ (l, key)
  its_key e =
      let p = cell_place floor l key slot at e in
      let there : length floor.threads + p.0 ≡ slot = p.2 in
      let here : p.0 ≡ slot - first = omega (arith, there, many, within) in
      is ∙ subst (λ n. get_or floor.keys n at ≡ (l, key)) here p.3

  -- where the key there is of that lock, it is the cell's or another
  pub by_key : at.0 ≡ l → (nat_eq at.1 key ≡ true) ↔ (slot_of floor (CellOf l key) ≡ Some slot)
  by_key same = (
    λ e. lies_there (λ j. (same j, eqb-true at.1 key e j)),
    λ e. eq-eqb at.1 key (ap (λ (x : ℕ × ℕ). x.1) (its_key e)),
  )

  -- where it is of another lock, it is another
  pub by_lock : (at.0 ≡ l → ⊥) → (nat_eq at.0 l ≡ true) ↔ (slot_of floor (CellOf l key) ≡ Some slot)
  by_lock other = (
    λ e. absurd (other (eqb-true at.0 l e)),
    λ e. absurd (other (ap (λ (x : ℕ × ℕ). x.0) (its_key e))),
  )
