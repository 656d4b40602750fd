-- Values that go out with a thread, change there and come home.
use Rattle.std.proofs.Common.{◌≡◌, ◌≢◌, ◌⊎◌, ℕ, suc, ◌<◌, cond, List, [], ◌∷◌, refl, sym, ap, ◌∙◌, subst, inl, inr, arith, eq-eqb}
use Rattle.std.proofs.lemmas.Bool.{cases_eq, ne_eqb}
use mathlib.Core.Option.{Option, none, some, some-injective, some-ne-none}
use Rattle.lock_state.specs.State.{put}
use Rattle.lock_laws.proofs.Kit.{put_same, put_other, at_put, each_place}
use Rattle.floor_table.specs.declared.slot.Slot.{Slot}
use Rattle.floor_table.specs.Shelves.{found, AreApart, Shelves}

-- of two values that are put in one place the second stays
pub put_twice : {A : Type 0} (f : ℕ → A) (i : ℕ) (v w : A) → put (put f i v) i w ≡ put f i w
put_twice f i v w = λ k j. at_put (λ m x. x ≡ put f i w m) (put f i v) i w (sym (put_same f i w))
    (λ m ne. put_other f i v m ne ∙ sym (put_other f i w m ne)) j k

pub found_first : (j : ℕ) (x : Slot) (xs : List (ℕ × Slot)) → found j ((j, x) ∷ xs) ≡ some x
found_first j x xs = ap (λ b. cond b (some x) (found j xs)) (eq-eqb j j refl)

pub found_later : (k j : ℕ) (x : Slot) (xs : List (ℕ × Slot)) → k ≢ j → found j ((k, x) ∷ xs) ≡ found j xs
found_later k j x xs ne = ap (λ b. cond b (some x) (found j xs)) (ne_eqb k j ne)

-- it is there, or not
pub found_or_not : (j : ℕ) (xs : List (ℕ × Slot)) → (found j xs ≡ none) ⊎ ((x : Slot) × (found j xs ≡ some x))
found_or_not j [] = inl refl
found_or_not j (x ∷ xs) =
    elim (cases_eq x.0 j) [
      | inl e ↦ inr (x.1, ap (λ b. cond b (some x.1) (found j xs)) (eq-eqb x.0 j e))
      | inr ne ↦ let same = found_later x.0 j x.1 xs ne in
          elim (found_or_not j xs) [ inl e ↦ inl (same ∙ e) | inr t ↦ inr (t.0, same ∙ t.1) ]
    ]

module _ (n : ℕ) (latch : ℕ → ℕ) (home : ℕ → Option Slot) (out : ℕ → List (ℕ × Slot)) (content : ℕ → Slot)
    (k : Shelves n latch home out content) where
  -- what is at home is out with nobody
  at_home_nowhere : (j t : ℕ) → latch j ≡ 0 → found j (out t) ≡ none
  at_home_nowhere j t free = elim (found_or_not j
      (out t)) [ inl e ↦ e | inr p ↦ absurd (let q = k.taken j t p.0 p.1 in let r = q.1 in omega arith) ]

  -- the value of a free latch goes out
  pub shelf_taken : (j t : ℕ) → j < n → latch j ≡ 0
      → Shelves n (put latch j (suc t)) (put home j none) (put out t ((j, content j) ∷ out t)) content
  shelf_taken j t low free = record {
    at_home = at_put (λ m w. m < n → w ≡ 0 → put home j none m ≡ some (content m)) latch j (suc t)
        (λ l z. absurd (omega arith)) (λ m ne l z. put_other home j none m ne ∙ k.at_home m l z);
    away = λ m u. at_put (λ m w. m < n → w ≡ suc u → found m (put out t ((j, content j) ∷ out t) u) ≡ some (content m))
        latch j (suc t)
        (λ l z. let e : t ≡ u = omega arith in
        subst (λ v. found j (put out t ((j, content j) ∷ out t) v) ≡ some (content j)) e
        (ap (found j) (put_same out t ((j, content j) ∷ out t)) ∙ found_first j (content j) (out t)))
        (λ m ne l z. at_put (λ v xs. latch m ≡ suc v → found m xs ≡ some (content m)) out t ((j, content j) ∷ out t)
        (λ q. found_later j m (content j) (out t) ne ∙ k.away m t l q) (λ v nv q. k.away m v l q) u z) m;
    taken = λ m u x. at_put (λ v xs. found m xs ≡ some x → (m < n) × (put latch j (suc t) m ≡ suc v) × (x ≡ content m))
        out t ((j, content j) ∷ out t)
        (λ h. each_place j (λ m. found m ((j, content j) ∷ out t) ≡ some x → (m < n) × (put latch j (suc t) m ≡ suc t)
        × (x ≡ content m))
        (λ h. (low, put_same latch j (suc t), some-injective x (content j) (sym h ∙ found_first j (content j) (out t))))
        (λ m ne h. let q = k.taken m t x (sym (found_later j m (content j) (out t) ne) ∙ h) in
        (q.0, put_other latch j (suc t) m ne ∙ q.1, q.2)) m h)
        (λ v nv h. let q = k.taken m v x h in (
          q.0,
          put_other latch j (suc t) m
              (λ e. let z : latch m ≡ 0 = ap latch (sym e) ∙ free in let y = q.1 in omega arith) ∙ q.1,
          q.2,
        )) u;
    apart = at_put (λ v xs. AreApart xs) out t ((j, content j) ∷ out t) (at_home_nowhere j t free, k.apart t)
        (λ v ne. k.apart v);
  }

  -- the value taken last comes home
  pub shelf_given : (j t : ℕ) (x : Slot) (xs : List (ℕ × Slot)) → out t ≡ (j, x) ∷ xs
      → Shelves n (put latch j 0) (put home j (some x)) (put out t xs) content
  shelf_given j t x xs is =
      let here : found j (out t) ≡ some x = ap (found j) is ∙ found_first j x xs in
      let was = k.taken j t x here in
      let gone : found j xs ≡ none = (subst AreApart is (k.apart t)).0 in
      record {
        at_home = at_put (λ m w. m < n → w ≡ 0 → put home j (some x) m ≡ some (content m)) latch j 0
            (λ l z. put_same home j (some x) ∙ ap some was.2)
            (λ m ne l z. put_other home j (some x) m ne ∙ k.at_home m l z);
        away = λ m u. at_put (λ m w. m < n → w ≡ suc u → found m (put out t xs u) ≡ some (content m)) latch j 0
            (λ l z. absurd (omega arith))
            (λ m ne l z. at_put (λ v ys. latch m ≡ suc v → found m ys ≡ some (content m)) out t xs
            (λ q. sym (found_later j m x xs ne) ∙ ap (found m) (sym is) ∙ k.away m t l q)
            (λ v nv q. k.away m v l q) u z) m;
        taken = λ m u y. at_put (λ v ys. found m ys ≡ some y → (m < n) × (put latch j 0 m ≡ suc v) × (y ≡ content m))
            out t xs
            (λ h. elim (cases_eq j m) [
              | inl e ↦ absurd (some-ne-none y (sym h ∙ subst (λ i. found i xs ≡ none) e gone))
              | inr ne ↦ let q = k.taken m t y (ap (found m) is ∙ found_later j m x xs ne ∙ h) in
                  (q.0, put_other latch j 0 m ne ∙ q.1, q.2)
            ])
            (λ v nv h. let q = k.taken m v y h in (
              q.0,
              put_other latch j 0 m
                  (λ e. nv (
                  let a = q.1 in let b = was.1 in let c : latch m ≡ latch j = ap latch (sym e) in omega arith))
                  ∙ q.1,
              q.2,
            )) u;
        apart = at_put (λ v ys. AreApart ys) out t xs (subst AreApart is (k.apart t)).1 (λ v ne. k.apart v);
      }

  -- the value taken last changes where it is
  pub shelf_changed : (j t : ℕ) (x y : Slot) (xs : List (ℕ × Slot)) → out t ≡ (j, x) ∷ xs
      → Shelves n latch home (put out t ((j, y) ∷ xs)) (put content j y)
  shelf_changed j t x y xs is =
      let here : found j (out t) ≡ some x = ap (found j) is ∙ found_first j x xs in
      let was = k.taken j t x here in
      record {
        at_home = λ m l z. k.at_home m l z
            ∙ ap some (sym (put_other content j y m
            (λ e. let a = was.1 in let c : latch m ≡ latch j = ap latch (sym e) in omega arith)));
        away = λ m u l z. at_put (λ v ys. latch m ≡ suc v → found m ys ≡ some (put content j y m)) out t ((j, y) ∷ xs)
            (λ q. each_place j (λ m. m < n → latch m ≡ suc t → found m ((j, y) ∷ xs) ≡ some (put content j y m))
            (λ l q. found_first j y xs ∙ ap some (sym (put_same content j y)))
            (λ m ne l q. found_later j m y xs ne ∙ sym (found_later j m x xs ne) ∙ ap (found m) (sym is)
            ∙ k.away m t l q ∙ ap some (sym (put_other content j y m ne))) m l q)
            (λ v nv q. k.away m v l q
            ∙ ap some (sym (put_other content j y m
            (λ e. nv (let a = was.1 in let c : latch m ≡ latch j = ap latch (sym e) in omega arith))))) u z;
        taken = λ m u w. at_put (λ v ys. found m ys ≡ some w → (m < n) × (latch m ≡ suc v) × (w ≡ put content j y m))
            out t ((j, y) ∷ xs)
            (λ h. each_place j (λ m. found m ((j, y) ∷ xs) ≡ some w → (m < n) × (latch m ≡ suc t)
            × (w ≡ put content j y m))
            (λ h. (was.0, was.1, some-injective w y (sym h ∙ found_first j y xs) ∙ sym (put_same content j y)))
            (λ m ne h.
            let q = k.taken m t w (ap (found m) is ∙ found_later j m x xs ne ∙ sym (found_later j m y xs ne) ∙ h) in
            (q.0, q.1, q.2 ∙ sym (put_other content j y m ne))) m h)
            (λ v nv h. let q = k.taken m v w h in (
              q.0,
              q.1,
              q.2 ∙ sym (put_other content j y m
                  (λ e. nv (let a = q.1 in let b = was.1 in let c : latch m ≡ latch j = ap latch (sym e) in
                  omega arith))),
            )) u;
        apart = at_put (λ v ys. AreApart ys) out t ((j, y) ∷ xs) (subst AreApart is (k.apart t)) (λ v ne. k.apart v);
      }
