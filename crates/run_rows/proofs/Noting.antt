-- What tracks tell, where one row more is noted or nothing changed.
use Rattle.std.proofs.Common.{◌≡◌, ◌⊎◌, ℕ, ◌+◌, ◌<◌, ◌≤◌, Bool, cond, List, [], ◌∷◌, ◌++◌, length, slice_get, slice_set, Option, Some, None, IsSomeAnd, refl, sym, ap, subst, inl, inr, arith, ◌∙◌}
use Rattle.std.specs.List.{All}
use Rattle.std.proofs.lemmas.Bool.{cases_eq, cases_lt, le-leb, lt-leb}
use Rattle.std.proofs.lemmas.List.{length-set}
use Rattle.std.proofs.lemmas.List.Elements.{All-push}
use Rattle.std.proofs.lemmas.List.Sums.{fold_push}
use Rattle.std.proofs.lemmas.Option.{same_Some, slice_get_within}
use Rattle.script_laws.proofs.AcceptedLists.{get_push, get_push_other, get_set, get_set_other}
use Rattle.run_tracks.specs.Tracks.{EachAt, Tells, value_in}
use Rattle.run_tracks.proofs.Changes.{replaced, same_behind}

module _ {T : Type 0} where
  -- 1. One change more, which is that of its row on

  value_before : (xs : List (ℕ × T)) (row : ℕ) (v : T) (n : ℕ) → n < row
      → value_in n (xs ++ (row, v) ∷ []) ≡ value_in n xs
  value_before xs row v n l = fold_push (replaced n) None xs (row, v)
      ∙ ap (λ (b : Bool). cond b (Some v) (value_in n xs)) (lt-leb row n l)

  value_there : (xs : List (ℕ × T)) (row : ℕ) (v : T) → value_in row (xs ++ (row, v) ∷ []) ≡ Some v
  value_there xs row v = fold_push (replaced row) None xs (row, v)
      ∙ ap (λ (b : Bool). cond b (Some v) (value_in row xs)) (le-leb row row (omega arith))

  -- 2. What is told of one row more

  module _ (IsSo : ℕ → T → Type 0) where
    -- by a change that was noted, or by none where the value is the same
    pub noted : (old new : List (ℕ × T)) (row : ℕ) (v : T) → Tells old row IsSo → value_in row new ≡ Some v
        → IsSo row v → (new ≡ old) ⊎ (new ≡ old ++ (row, v) ∷ []) → Tells new (row + 1) IsSo
    noted old new row v h is so kept = record {
      within = within kept;
      value = λ n l. elim (cases_lt n row) [
        | inl i ↦ subst (λ (o : Option T). IsSomeAnd o (IsSo n)) (sym (before n i kept)) (h.value n i)
        | inr i ↦ let e : n ≡ row = omega (arith, l, i) in rw (e, is) so
      ];
    }
      where
        within : (new ≡ old) ⊎ (new ≡ old ++ (row, v) ∷ []) → All (λ x. x.0 < row + 1) new
        within (inl e) = rw e (λ k d l. omega (arith, h.within k d l))
        within (inr e) =
            rw e (All-push (λ x. x.0 < row + 1) old (row, v) (λ k d l. omega (arith, h.within k d l)) (omega arith))

        before : (n : ℕ) → n < row → (new ≡ old) ⊎ (new ≡ old ++ (row, v) ∷ []) → value_in n new ≡ value_in n old
        before n l (inl e) = ap (value_in n) e
        before n l (inr e) = ap (value_in n) e ∙ value_before old row v n l

    -- so where the value of the row is told by its track alone
    pub noted_as : (old new : List (ℕ × T)) (row : ℕ) → Tells old row IsSo → IsSomeAnd (value_in row new)
        (λ v. IsSo row v × ((new ≡ old) ⊎ (new ≡ old ++ (row, v) ∷ []))) → Tells new (row + 1) IsSo
    noted_as old new row h is = go (value_in row new) refl is
      where
        go : (o : Option T) → value_in row new ≡ o
            → IsSomeAnd o (λ v. IsSo row v × ((new ≡ old) ⊎ (new ≡ old ++ (row, v) ∷ []))) → Tells new (row + 1) IsSo
        go None e none = absurd none
        go (Some v) e is = noted old new row v h e is.0 is.1

    -- by a change that was kept
    pub kept : (old new : List (ℕ × T)) (row : ℕ) (v : T) → Tells old row IsSo → new ≡ old ++ (row, v) ∷ [] → IsSo row v
        → Tells new (row + 1) IsSo
    kept old new row v h e so = noted old new row v h (ap (value_in row) e ∙ value_there old row v) so (inr e)

    -- by the first value
    pub first_told : (track : List (ℕ × T)) (v : T) → track ≡ (0, v) ∷ [] → IsSo 0 v → Tells track 1 IsSo
    first_told track v e so =
        kept [] track 0 v (record { within = λ k d l. absurd (omega arith); value = λ n l. absurd (omega arith) }) e so

    -- and by no change
    pub stays : (xs : List (ℕ × T)) (n : ℕ) → Tells xs (n + 1) IsSo → ((v : T) → IsSo n v → IsSo (n + 1) v)
        → Tells xs (n + 1 + 1) IsSo
    stays xs n h same = record {
      within = λ k d l. omega (arith, h.within k d l);
      value = λ m l. elim (cases_lt m (n + 1)) [
        | inl i ↦ h.value m i
        | inr i ↦ let e : m ≡ n + 1 = omega (arith, l, i) in
            rw (e, same_behind n (n + 1) None xs (omega arith) (λ k d j. omega (arith, h.within k d j)))
            (go (value_in n xs) (h.value n (omega arith)))
      ];
    }
      where
        go : (o : Option T) → IsSomeAnd o (IsSo n) → IsSomeAnd o (IsSo (n + 1))
        go None so = so
        go (Some v) so = same v so

-- 3. Things of which something holds by their number

module _ {A : Type 0} (P : ℕ → A → Type 0) where
  -- one more
  pub each_push : (xs : List A) (y : A) → EachAt P xs → P (length xs) y → EachAt P (xs ++ y ∷ [])
  each_push xs y each there i x e = elim (cases_eq i (length xs)) [
    | inl n ↦ let same : y ≡ x = same_Some y x (sym (get_push xs y) ∙ ap (slice_get (xs ++ y ∷ [])) (sym n) ∙ e) in
        rw n (subst (P (length xs)) same there)
    | inr n ↦ each i x (sym (get_push_other xs y i n) ∙ e)
  ]

  -- and where they are changed one by one, from the front,
  -- those from i on are as before, and of those below something holds
  pub record AreChanged (before xs : List A) (i : ℕ) : Type 0 where
    pub number : length xs ≡ length before
    pub left : (k : ℕ) → i ≤ k → slice_get xs k ≡ slice_get before k
    pub done : (k : ℕ) (x : A) → k < i → slice_get xs k ≡ Some x → P k x

  pub none_changed : (xs : List A) → AreChanged xs xs 0
  none_changed xs = record { number = refl; left = λ k l. refl; done = λ k x l. absurd (omega arith) }

  pub one_changed : (before xs : List A) (i j : ℕ) (x y : A) → j ≡ i → slice_get xs i ≡ Some x → AreChanged before xs i
      → P i y → AreChanged before (slice_set xs j y) (i + 1)
  one_changed before xs i j x y same within h there = rw same (record {
    number = length-set xs i y ∙ h.number;
    left = λ k n. get_set_other xs i y k (λ e. omega (arith, n, e)) ∙ h.left k (omega (arith, n));
    done = λ k z below e. elim (cases_eq k i) [
      | inl n ↦ let is : y
          ≡ z = same_Some y z (sym (get_set xs i y x within) ∙ ap (slice_get (slice_set xs i y)) (sym n) ∙ e) in
          rw n (subst (P i) is there)
      | inr n ↦ h.done k z (omega (arith, below, n)) (sym (get_set_other xs i y k n) ∙ e)
    ];
  })

  pub all_changed : (before xs : List A) (i : ℕ) → length xs ≤ i → AreChanged before xs i → EachAt P xs
  all_changed before xs i n h k x e = h.done k x (omega (arith, slice_get_within xs k x e, n)) e
