-- What bars and steps say of threads: what spans say, what two calls add, and one thread more.
use Rattle.std.proofs.Common.{◌≡◌, ℕ, ◌+◌, ◌<◌, ◌≤◌, Bool, true, false, cond, ◌&&◌, ◌==◌, List, [], ◌∷◌, ◌++◌, map, filter, flat_map, Option, Some, None, append-nil, append_assoc, refl, sym, ap, subst, inl, inr, arith, eq-eqb, ◌∙◌}
use Rattle.std.specs.Prelude.{option_map, option_to_list}
use Rattle.std.specs.List.{All}
use Rattle.std.proofs.lemmas.Bool.{cases_eq, ne_eqb}
use Rattle.std.proofs.lemmas.List.{map-append}
use Rattle.std.proofs.lemmas.List.Elements.{filter-append, All-append, All-cons, All-nil, All-tail}
use Rattle.chart_layout.specs.declared.layout.BarKind.{BarKind}
use Rattle.run_chart.specs.Spans.{covers, drawn_at, is_drawn, values_at, Adds, Drawn, Draws, IsDrawnIn, IsWithin}
use Rattle.run_chart.specs.declared.bars.Shown.{Shown}
use Rattle.run_chart.specs.declared.spans.Span.{Span}

cond_append : {V : Type 0} (e : Bool) (us vs : List V) → cond e (us ++ vs) [] ≡ cond e us [] ++ cond e vs []
cond_append true us vs = refl
cond_append false us vs = refl

cond_same : {V : Type 0} (e : Bool) (vs : List V) → cond e vs vs ≡ vs
cond_same true vs = refl
cond_same false vs = refl

module _ {X V : Type 0} (drawn : X → Drawn V) where
  drawn-append : (t n : ℕ) (xs ys : List X)
      → drawn_at drawn t n (xs ++ ys) ≡ drawn_at drawn t n xs ++ drawn_at drawn t n ys
  drawn-append t n xs ys = simp (map-append, filter-append)

  module _ (thread from to : ℕ) where
    -- 1. What calls add: nothing,
    pub adds_none : (xs : List X) → Adds drawn thread from to xs xs (λ n. [])
    adds_none xs = record {
      says = λ t n a b. sym
          (ap (λ vs. drawn_at drawn t n xs ++ vs) (cond_same (t == thread) []) ∙ append-nil (drawn_at drawn t n xs));
      within = λ threads l all. all;
    }

    -- what two of them do, one behind the other,
    pub adds_both : {init old new : List X} {before here : ℕ → List V} (is : ℕ → List V)
        → Adds drawn thread from to init old before → Adds drawn thread from to old new here
        → ((n : ℕ) → before n ++ here n ≡ is n) → Adds drawn thread from to init new is
    adds_both {init} {old} {new} {before} {here} is had pushed same = record {
      says = λ t n a b.
          pushed.says t n a b ∙ ap (λ vs. vs ++ cond (t == thread) (here n) []) (had.says t n a b)
          ∙ append_assoc (drawn_at drawn t n init) (cond (t == thread) (before n) []) (cond (t == thread) (here n) [])
          ∙ ap (λ vs. drawn_at drawn t n init ++ vs) (sym (cond_append (t == thread) (before n) (here n))
          ∙ ap (λ vs. cond (t == thread) vs []) (same n));
      within = λ threads l all. pushed.within threads l (had.within threads l all);
    }

    -- and what spans say, each of which draws what it has, if it has something
    module _ {U : Type 0} (value : U → Option V) (draw : Span U → V → X) (is : (s : Span U) (v : V)
        → drawn (draw s v) ≡ record { thread = thread; first = s.first; last = s.last; value = v }) where
      abbrev of_value : U → List V
      of_value u = option_to_list (value u)

      abbrev of_span : Span U → List X
      of_span s = option_to_list (option_map (draw s) (value s.value))

      one : (t n : ℕ) (s : Span U) (o : Option V) (xs : List X) (vs : List V)
          → drawn_at drawn t n xs ≡ cond (t == thread) vs []
          → drawn_at drawn t n (option_to_list (option_map (draw s) o) ++ xs)
          ≡ cond (t == thread) (cond (covers n s) (option_to_list o ++ vs) vs) []
      one t n s None xs vs e = e ∙ ap (λ us. cond (t == thread) us []) (sym (cond_same (covers n s) vs))
      one t n s (Some v) xs vs e =
          ap (λ d. map (λ d. d.value) (filter (is_drawn t n) (d ∷ map drawn xs))) (is s v)
          ∙ go (t == thread) (covers n s) e
        where
          go : (b c : Bool) → drawn_at drawn t n xs ≡ cond b vs [] → map (λ (d : Drawn V). d.value) (cond (b && c)
              (record { thread = thread; first = s.first; last = s.last; value = v }
              ∷ filter (is_drawn t n) (map drawn xs))
              (filter (is_drawn t n) (map drawn xs))) ≡ cond b (cond c (v ∷ vs) vs) []
          go true true e = ap (λ us. v ∷ us) e
          go true false e = e
          go false c e = e

      each : (t n : ℕ) (ss : List (Span U))
          → drawn_at drawn t n (flat_map of_span ss) ≡ cond (t == thread) (flat_map of_value (values_at n ss)) []
      each t n [] = sym (cond_same (t == thread) [])
      each t n (s ∷ ss) =
          one t n s (value s.value) (flat_map of_span ss) (flat_map of_value (values_at n ss)) (each t n ss)
          ∙ ap (λ vs. cond (t == thread) vs []) (first (covers n s))
        where
          first : (c : Bool)
              → cond c (of_value s.value ++ flat_map of_value (values_at n ss)) (flat_map of_value (values_at n ss))
              ≡ flat_map of_value
              (map (λ (r : Span U). r.value) (cond c (s ∷ filter (covers n) ss) (filter (covers n) ss)))
          first true = refl
          first false = refl

      within : (threads : ℕ) → thread < threads → (ss : List (Span U)) → All (IsWithin from to) ss
          → All (λ x. IsDrawnIn threads from to (drawn x)) (flat_map of_span ss)
      within threads l [] all = All-nil (λ x. IsDrawnIn threads from to (drawn x))
      within threads l (s ∷ ss) all =
          All-append (λ x. IsDrawnIn threads from to (drawn x)) (of_span s) (flat_map of_span ss) (go (value s.value))
          (within threads l ss (All-tail (IsWithin from to) s ss all))
        where
          go : (o : Option V)
              → All (λ x. IsDrawnIn threads from to (drawn x)) (option_to_list (option_map (draw s) o))
          go None = All-nil (λ x. IsDrawnIn threads from to (drawn x))
          go (Some v) = let here = all 0 s (omega arith) in
              All-cons (λ x. IsDrawnIn threads from to (drawn x)) (draw s v) [] (subst (IsDrawnIn threads from to)
              (sym (is s v)) (record { thread = l; begins = here.begins; goes_on = here.goes_on; ends = here.ends }))
              (All-nil (λ x. IsDrawnIn threads from to (drawn x)))

      pub adds_spans : (old new : List X) (ss : List (Span U)) (so : ℕ → U) → All (IsWithin from to) ss
          → ((n : ℕ) → from ≤ n → n ≤ to → values_at n ss ≡ so n ∷ [])
          → new ≡ old ++ flat_map of_span ss
          → Adds drawn thread from to old new (λ n. of_value (so n))
      adds_spans old new ss so inside values e = rw e (record {
        says = λ t n a b.
            drawn-append t n old (flat_map of_span ss) ∙ ap (λ vs. drawn_at drawn t n old ++ vs) (each t n ss
            ∙ ap (λ us. cond (t == thread) (flat_map of_value us) []) (values n a b)
            ∙ ap (λ vs. cond (t == thread) vs []) (append-nil (of_value (so n))));
        within = λ threads l all. All-append (λ x. IsDrawnIn threads from to (drawn x)) old (flat_map of_span ss) all
            (within threads l ss inside);
      })

  -- 2. No thread, and one more

  pub draws_none : (threads from to : ℕ) (is : ℕ → ℕ → List V) → Draws drawn threads from to is 0 []
  draws_none threads from to is =
      record {
        says = λ t n a b l. absurd (omega arith);
        none = λ t n a b l. refl;
        within = All-nil (λ x. IsDrawnIn threads from to (drawn x));
      }

  pub draws_more : (threads from to : ℕ) (is : ℕ → ℕ → List V) (t : ℕ) (old new : List X) → t < threads
      → Draws drawn threads from to is t old → Adds drawn t from to old new (is t)
      → Draws drawn threads from to is (t + 1) new
  draws_more threads from to is t old new l had pushed = record {
    says = λ u n a b k. pushed.says u n a b ∙ elim (cases_eq u t) [
      | inl e ↦ rw (eq-eqb u t e, had.none u n a b (omega (arith, e))) (ap (λ (w : ℕ). is w n) (sym e))
      | inr e ↦ rw (ne_eqb u t e, had.says u n a b (omega (arith, e, k))) (append-nil (is u n))
    ];
    none = λ u n a b k. pushed.says u n a b
        ∙ rw (ne_eqb u t (λ e. omega (arith, e, k)), had.none u n a b (omega (arith, k))) refl;
    within = pushed.within threads l had.within;
  }

-- 3. What is shown of a value by bars

pub shown_is : (shown : Shown) (kind is : Option BarKind) → shown.0 ≡ kind → kind ≡ is → shown ≡ record { 0 = is }
shown_is shown kind is e same = ap (λ (o : Option BarKind). record { 0 = o }) (e ∙ same)
