-- What spans say of a row, with one more, and of a track's changes; and where something is so for the first time.
use Rattle.std.proofs.Common.{◌≡◌, ℕ, zero, suc, ◌+◌, ◌-◌, ◌<◌, ◌≤◌, Bool, true, false, cond, leb, List, [], ◌∷◌, ◌++◌, length, map, get_or, take, Option, Some, None, refl, sym, ap, subst, inl, inr, arith, append-nil, ◌∙◌}
use Rattle.std.specs.Prelude.{find, fold, option_map, IsSomeAnd}
use Rattle.std.specs.List.{All, range_with_len}
use Rattle.std.proofs.lemmas.Bool.{cases_Bool, cases_lt, le-leb, lt-leb}
use Rattle.std.proofs.lemmas.List.{get_or_default, map-append}
use Rattle.std.proofs.lemmas.List.Elements.{filter-append, All-nil, All-push, All-tail}
use Rattle.run_chart.specs.Spans.{covers, values_at, IsWithin, Makes}
use Rattle.run_chart.specs.declared.spans.Span.{Span}
use Rattle.run_tracks.proofs.Changes.{first_tell, one_more, replaced, still_told, unchanged}
use Rattle.run_tracks.specs.Tracks.{value_in, Ascend, IsTrack, LieUpTo}

module _ {U : Type 0} where
  -- 1. Spans

  map_cond : (b : Bool) (s : Span U) → map (λ (t : Span U). t.value) (cond b (s ∷ []) []) ≡ cond b (s.value ∷ []) []
  map_cond true s = refl
  map_cond false s = refl

  values_push : (n : ℕ) (ss : List (Span U)) (s : Span U)
      → values_at n (ss ++ s ∷ []) ≡ values_at n ss ++ cond (covers n s) (s.value ∷ []) []
  values_push n ss s =
      simp (filter-append, map-append) (ap (λ vs. values_at n ss ++ vs) (map_cond (covers n s) s))

  -- what they say, with one that goes on from its first row
  abbrev pub shown : ℕ → List (Span U) → ℕ → U → List U
  shown n ss first v = values_at n ss ++ cond (leb first n) (v ∷ []) []

  -- that says so alone where the others say nothing,
  pub last_shown : (n : ℕ) (ss : List (Span U)) (first : ℕ) (v : U) → values_at n ss ≡ [] → first ≤ n
      → shown n ss first v ≡ v ∷ []
  last_shown n ss first v none l = ap (λ vs. vs ++ cond (leb first n) (v ∷ []) []) none
      ∙ ap (λ b. cond b (v ∷ []) []) (le-leb first n l)

  -- and as one more up to its last row,
  pub values_more : (n : ℕ) (ss : List (Span U)) (s : Span U) → n ≤ s.last
      → values_at n (ss ++ s ∷ []) ≡ shown n ss s.first s.value
  values_more n ss s l = values_push n ss s
      ∙ ap (λ b. values_at n ss ++ cond b (s.value ∷ []) []) (let e : covers n s ≡ leb s.first n = grind arith in e)

  pub shown_before : (n : ℕ) (ss : List (Span U)) (s : Span U) (row : ℕ) (v : U) → n < row → n ≤ s.last
      → shown n (ss ++ s ∷ []) row v ≡ shown n ss s.first s.value
  shown_before n ss s row v less l =
      ap (λ b. values_at n (ss ++ s ∷ []) ++ cond b (v ∷ []) []) (lt-leb row n less)
      ∙ append-nil (values_at n (ss ++ s ∷ [])) ∙ values_more n ss s l

  -- behind which that says nothing
  pub values_past : (n : ℕ) (ss : List (Span U)) (s : Span U) → s.last < n → values_at n ss ≡ []
      → values_at n (ss ++ s ∷ []) ≡ []
  values_past n ss s l none = values_push n ss s ∙ ap (λ vs. vs ++ cond (covers n s) (s.value ∷ []) []) none
      ∙ ap (λ b. cond b (s.value ∷ []) []) (let e : covers n s ≡ false = grind arith in e)

-- 2. The spans of a track's changes up to a row

module _ {T U : Type 0} (Returns : T → U → Type 0) (xs : List (ℕ × T)) (from to up_to : ℕ) where
  -- just what is made of the value is said
  abbrev Says : Option T → List U → Type 0
  Says value us = IsSomeAnd value (λ v. (u : U) × Returns v u × (us ≡ u ∷ []))

  -- the spans so far and the one that goes on tell the first changes
  pub record AreTold (i first : ℕ) (ss : List (Span U)) (value : U) : Type 0 where
    pub within : All (IsWithin from to) ss
    pub begins : from ≤ first
    pub ends : first ≤ to
    pub ahead : (k : ℕ) (d : ℕ × T) → i ≤ k → k < up_to → first < (get_or xs k d).0
    pub behind : (n : ℕ) → first ≤ n → values_at n ss ≡ []
    pub tells : (n : ℕ) → from ≤ n → Says (value_in n (take i xs)) (shown n ss first value)

  says_at : (o : Option T) (v : T) (us : List U) (u : U) → o ≡ Some v → Returns v u → us ≡ u ∷ [] → Says o us
  says_at o v us u is made alone = subst (λ p. Says p us) (sym is) (u, made, alone)

  says_more : (n i : ℕ) (d e : ℕ × T) (us : List U) (u : U) → i < length xs → Returns (get_or xs i e).1 u
      → (n < (get_or xs i d).0 → Says (value_in n (take i xs)) us) → ((get_or xs i d).0 ≤ n → us ≡ u ∷ [])
      → Says (value_in n (take (i + 1) xs)) us
  says_more n i d e us u l made had alone =
      let v = (get_or xs i e).1 in
      let row : ℕ = (get_or xs i d).0 in
      let is = λ (b : Bool) (at : leb row n ≡ b). one_more n xs i d e l
      ∙ ap (λ c. cond c (Some v) (value_in n (take i xs))) at in
      elim (cases_lt n row) [
        | inl m ↦ subst (λ p. Says p us) (sym (is false (lt-leb row n m))) (had m)
        | inr m ↦ says_at (value_in n (take (i + 1) xs)) v us u (is true (le-leb row n m)) made (alone m)
      ]

  pub told_first : (i : ℕ) (ss : List (Span U)) (v : T) (value : U) → from ≤ to → up_to ≤ length xs
      → LieUpTo from xs i → ss ≡ [] → value_in from xs ≡ Some v → Returns v value → AreTold i from ss value
  told_first i ss v value order within lies none is made = rw none (record {
    within = All-nil (IsWithin from to);
    begins = omega arith;
    ends = order;
    ahead = λ k d a b. lies.1 k d a (omega (arith, b));
    behind = λ n l. refl;
    tells = λ n a. says_at (value_in n (take i xs)) v (shown n [] from value) value
        (still_told from n xs i lies a ∙ is) made (last_shown n [] from value refl a);
  })

  -- a change to what is made the same of,
  pub told_same : (i first : ℕ) (ss : List (Span U)) (value next : U) (e : ℕ × T) → i < up_to → up_to ≤ length xs
      → AreTold i first ss value → Returns (get_or xs i e).1 next → value ≡ next → AreTold (i + 1) first ss value
  told_same i first ss value next e l within h made same =
      let less : first < (get_or xs i e).0 = h.ahead i e (omega arith) l in
      record {
        within = h.within;
        begins = h.begins;
        ends = h.ends;
        ahead = λ k f a b. h.ahead k f (omega (arith, a)) b;
        behind = h.behind;
        tells = λ n a. says_more n i e e (shown n ss first value) next (omega arith) made (λ m. h.tells n a)
            (λ m. last_shown n ss first value (h.behind n (omega (arith, m, less))) (omega (arith, m, less))
            ∙ ap (λ u. u ∷ []) same);
      }

  -- and to another
  pub told_other : (i first : ℕ) (ss new : List (Span U)) (value next : U) (d e : ℕ × T) → i < up_to → IsTrack xs
      → LieUpTo to xs up_to → up_to ≤ length xs → AreTold i first ss value → Returns (get_or xs i e).1 next
      → new ≡ ss ++ record { first = first; last = (get_or xs i d).0 - 1; value = value } ∷ []
      → AreTold (i + 1) (get_or xs i d).0 new next
  told_other i first ss new value next d e l track lies within h made more =
      let row : ℕ = (get_or xs i d).0 in
      let less : first < row = h.ahead i d (omega arith) l in
      let low : row ≤ to = lies.0 i d (omega arith) l in
      let s : Span U = record { first = first; last = row - 1; value = value } in
      let behind = λ (n : ℕ) (m : row ≤ n).
      values_past n ss s (omega (arith, m, less)) (h.behind n (omega (arith, m, less))) in
      rw more (record {
        within = All-push (IsWithin from to) ss s h.within
            (record { begins = h.begins; goes_on = omega (arith, less); ends = omega (arith, low) });
        begins = omega (arith, less, h.begins);
        ends = low;
        ahead = λ k f a b. let rises = track.ascends i k f (omega (arith, a)) (omega (arith, b, within)) in
            let at = ap (λ (x : ℕ × T). x.0) (get_or_default xs i d f (omega arith)) in omega (arith, rises, at);
        behind = behind;
        tells = λ n a. says_more n i d e (shown n (ss ++ s ∷ []) row next) next (omega arith) made
            (λ m. subst (Says (value_in n (take i xs)))
            (sym (shown_before n ss s row next m (omega (arith, m)))) (h.tells n a))
            (λ m. last_shown n (ss ++ s ∷ []) row next (behind n m) m);
      })

  -- so all of them tell it in the window
  pub told_all : (i first : ℕ) (ss : List (Span U)) (value : U) (track : List (ℕ × T)) (is : ℕ → U) (n : ℕ) → up_to ≤ i
      → LieUpTo to xs up_to → AreTold i first ss value → xs ≡ track → Makes Returns track from to is → from ≤ n → n ≤ to
      → shown n ss first value ≡ is n ∷ []
  told_all i first ss value track is n over lies h same makes a b = go (value_in n (take i xs)) refl (h.tells n a)
    where
      past : (k : ℕ) (d : ℕ × T) → i ≤ k → k < length xs → n < (get_or xs k d).0
      past k d l m = let behind = lies.1 k d (omega (arith, l)) m in omega (arith, behind)

      go : (o : Option T) → value_in n (take i xs) ≡ o → Says o (shown n ss first value)
          → shown n ss first value ≡ is n ∷ []
      go None e says = absurd says
      go (Some v) e says = says.2 ∙ ap (λ u. u ∷ []) (makes n v says.0 a b
          (ap (value_in n) (sym same) ∙ sym (first_tell n xs i past) ∙ e) says.1)

-- 3. The first of numbers, and of changes, of which something is so

pub find_is : (p : ℕ → Bool) (a n m : ℕ) → a ≤ m → m < a + n → p m ≡ true → ((k : ℕ) → a ≤ k → k < m → p k ≡ false)
    → find p (range_with_len a n) ≡ Some m
find_is p a zero m low high so not = absurd (omega arith)
find_is p a (suc n) m low high so not = elim (cases_lt a m) [
  | inl l ↦
      ap (λ (b : Bool). cond b (Some a) (find p (range_with_len (a + 1) n))) (not a (omega arith) l)
      ∙ find_is p (a + 1) n m (omega arith) (omega arith) so (λ k i j. not k (omega arith) j)
  | inr l ↦ let e : a ≡ m = omega arith in
      ap (λ (b : Bool). cond b (Some a) (find p (range_with_len (a + 1) n))) (ap p e ∙ so) ∙ ap Some e
]

pub find_none : (p : ℕ → Bool) (a n : ℕ) → ((k : ℕ) → a ≤ k → k < a + n → p k ≡ false)
    → None ≡ find p (range_with_len a n)
find_none p a zero not = refl
find_none p a (suc n) not =
    find_none p (a + 1) n (λ k i j. not k (omega arith) (omega arith))
    ∙ sym (ap (λ (b : Bool). cond b (Some a) (find p (range_with_len (a + 1) n)))
    (not a (omega arith) (omega arith)))

module _ {T : Type 0} (is_so : T → Bool) where
  abbrev pub so_of : Option T → Bool
  so_of None = false
  so_of (Some v) = is_so v

  -- where it isn't so of the values before the changes, whichever row they are asked for
  pub first_so : (so_in : ℕ → Bool) (rows : ℕ) (before : ℕ → Option T) (xs : List (ℕ × T))
      → ((n : ℕ) → so_of (before n) ≡ false) → Ascend xs → All (λ x. x.0 < rows) xs
      → ((n : ℕ) → n < rows → so_in n ≡ so_of (fold (replaced n) (before n) xs))
      → option_map (λ x. x.0) (find (λ x. is_so x.1) xs) ≡ find so_in (range_with_len 0 rows)
  first_so so_in rows before [] not up low told = find_none so_in 0 rows (λ n a b. told n (omega (arith, b)) ∙ not n)
  first_so so_in rows before (x ∷ xs) not up low told = elim (cases_Bool (is_so x.1)) [
    | inl so ↦ rw so (sym (find_is so_in 0 rows x.0 (omega arith) (omega (arith, here))
        (told x.0 here ∙ ap so_of (unchanged x.0 (replaced x.0 (before x.0) x) xs (later x.0 (omega arith))
        ∙ ap (λ (b : Bool). cond b (Some x.1) (before x.0)) (le-leb x.0 x.0 (omega arith))) ∙ so)
        (λ n a b. told n (omega (arith, b, here))
        ∙ ap so_of (unchanged n (replaced n (before n) x) xs (later n (omega arith))
        ∙ ap (λ (c : Bool). cond c (Some x.1) (before n)) (lt-leb x.0 n b)) ∙ not n)))
    | inr not_so ↦ rw not_so (first_so so_in rows (λ n. replaced n (before n) x) xs (λ n. still n not_so (leb x.0 n))
        (λ i j d l m. up (suc i) (suc j) d (omega arith) (omega arith)) (All-tail (λ y. y.0 < rows) x xs low) told)
  ]
    where
      here : x.0 < rows
      here = low 0 x (omega arith)

      later : (n : ℕ) → n ≤ x.0 → (k : ℕ) (d : ℕ × T) → k < length xs → n < (get_or xs k d).0
      later n l k d m = let rises = up 0 (suc k) d (omega arith) (omega arith) in omega (arith, rises, l)

      still : (n : ℕ) → is_so x.1 ≡ false → (b : Bool) → so_of (cond b (Some x.1) (before n)) ≡ false
      still n e true = e
      still n e false = not n
