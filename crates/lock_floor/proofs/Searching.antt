-- A binary search among the keys of a floor finds each of them, where its cell lies, and no other.
use Rattle.lock_floor.proofs.Names
use Names.{ℕ, true, false, cond, List, length, get_or, is_lt, is_eq, Some, None, Result, Ok, Err, refl, sym, ap, subst}
use Names.{inl, inr, arith, lt-ltb, Contains, position_or_len, list_any, IsSearchInRange, IsBinarySearchResult}
use Names.{IsPartitionPoint, ordering_reverse, MatchResult, nat_lt, option_map, Ordering, Less, Equal, Greater}
use Names.{cases_lt, tied_itself, list_any_none, searchable_from_sorted, position_or_len_is, Less-from_sorted}
use Names.{place_total, place_exact, place_cmp, CellOf, IsSized, Description, is_cell, slot_of, cell_test, key_found}
use Rattle.std.proofs.Common.{◌≡◌, ◌+◌, ◌<◌, ◌∙◌}
use Rattle.std.specs.List.{position}
use Rattle.std.specs.List.Sorted.{IsSorted}

module _ (floor : Description) (sized : IsSized floor) (l key : ℕ) where
  abbrev ks : List (ℕ × ℕ)
  ks = floor.keys

  abbrev q : ℕ × ℕ
  q = (l, key)

  in_order : IsSorted place_cmp ks
  in_order k d low high =
      let up = Less-from_sorted place_cmp ks k (k + 1) d sized.rising (omega arith) high in
      ap is_lt (place_total.antisymm (get_or ks (k + 1) d) (get_or ks k d) ∙ ap ordering_reverse up)

  -- a key that compares otherwise is another
  is_not : (x : ℕ × ℕ) (r : Ordering) → place_cmp x q ≡ r → is_eq (ordering_reverse r) ≡ false → is_cell l key x ≡ false
  is_not x r e other = grind arith

  at_place : (i : ℕ) → i < length ks → ((d : ℕ × ℕ) → place_cmp (get_or ks i d) q ≡ Equal)
      → position (is_cell l key) ks ≡ Some i
  at_place i low equal =
      let d : ℕ × ℕ = (0, 0) in
      let is : get_or ks i d ≡ q = place_exact (get_or ks i d) q (equal d) in
      let hit : is_cell l key (get_or ks i d) ≡ true = ap (is_cell l key) is ∙ ap (λ f. f q) (cell_test l key)
      ∙ ap is_eq (tied_itself place_total q) in
      let before : (k : ℕ) → k < i → is_cell l key (get_or ks k d) ≡ false =
      λ k lt. is_not (get_or ks k d) Less
      (subst (λ x. place_cmp (get_or ks k d) x ≡ Less) is (Less-from_sorted place_cmp ks k i d sized.rising lt low))
      refl in
      let first : position_or_len (is_cell l key) ks ≡ i =
      position_or_len_is (is_cell l key) ks i d (omega (arith, low)) before (λ _. hit) in
      ap (λ n. cond (nat_lt n (length ks)) (Some n) None) first
      ∙ ap (λ b. cond b (Some i) None) (lt-ltb i (length ks) low)

  -- what is found is one of them
  pub named_at : (i : ℕ) → IsSearchInRange (Ok i) (length ks) → IsBinarySearchResult (λ y. place_cmp y q) ks (Ok i)
      → Contains floor.keys (l, key)
  named_at i low equal = (i, low, place_exact (get_or ks i q) q (equal q))

  nowhere : (i : ℕ) → IsPartitionPoint (λ y. place_cmp y q ≡ Less) (λ y. place_cmp y q ≡ Greater) ks i
      → list_any (is_cell l key) ks ≡ false
  nowhere i parted =
      list_any_none (is_cell l key) ks (λ k d low.
      elim (cases_lt k i) [
        | inl lt ↦ is_not (get_or ks k d) Less (parted.0 k d (omega arith) lt) refl
        | inr le ↦ is_not (get_or ks k d) Greater (parted.1 k d le low) refl
      ])

  pub searched : (r : Result ℕ ℕ) → Contains floor.keys (l, key) → IsSearchInRange r (length ks)
      → IsBinarySearchResult (λ y. place_cmp y q) ks r
      → MatchResult r (λ i. slot_of floor (CellOf l key) ≡ Some (length floor.threads + i)) (λ i. ⊥)
  searched (Ok i) there low equal = ap (option_map (λ n. length floor.threads + n)) (at_place i low equal)
  searched (Err i) there low parted =
      let rises = searchable_from_sorted place_total (λ (x : ℕ × ℕ). x) ks q in_order in
      let z : false ≡ true = sym (nowhere i (parted rises)) ∙ key_found l key floor.keys there in
      cc
