-- The changes of a column: what they tell in each row.
use Rattle.std.proofs.Common.{◌≡◌, ℕ, suc, ◌<◌, Bool, true, cond, List, [], ◌∷◌, Option, Some, None, refl, sym, ap, inl, inr, arith, ◌∙◌}
use Rattle.std.specs.Prelude.{fold, option_map, slice_get}
use Rattle.std.specs.List.{All}
use Rattle.std.proofs.lemmas.Bool.{cases_Bool, cases_lt, le-leb}
use Rattle.std.proofs.lemmas.List.Elements.{All-cons}
use Rattle.std.proofs.lemmas.List.Kept.{AllPairs-cons}
use Rattle.std.proofs.lemmas.Slice.Eq.{bytes_eq-Decides}
use Rattle.chart_html.specs.Tracks.{changed, is_told}
use Rattle.run_tracks.proofs.Changes.{replaced, unchanged}
use Rattle.run_tracks.specs.Tracks.{value_in, Ascend, IsTrack}

told_is : (last : Option (List ℕ)) (text : List ℕ) → is_told last text ≡ true → last ≡ Some text
told_is None text e = absurd cc
told_is (Some last) text e = ap Some ((bytes_eq-Decides last text).0 e)

module _ {T : Type 0} (tells : T → List ℕ) where
  -- rows ascend behind the first
  rest_ascends : (x : ℕ × T) (rows : List (ℕ × T)) → Ascend (x ∷ rows) → Ascend rows
  rest_ascends x rows up i j d l m = up (suc i) (suc j) d (omega arith) (omega arith)

  -- a change that is left is one of the rows',
  all_changed : (P : ℕ × T → Type 0) (last : Option (List ℕ)) (rows : List (ℕ × T)) → All P rows
      → All P (changed tells last rows)
  all_changed P last [] h = h
  all_changed P last (x ∷ rows) h =
      let later : All P rows = λ k d l. h (suc k) d (omega arith) in
      elim (cases_Bool (is_told last (tells x.1))) [
        | inl so ↦ rw so (all_changed P last rows later)
        | inr not ↦
            let new = all_changed P (Some (tells x.1)) rows later in
            rw not (All-cons P x (changed tells (Some (tells x.1)) rows) (h 0 x (omega arith)) new)
      ]

  -- so they ascend too
  ascend : (last : Option (List ℕ)) (rows : List (ℕ × T)) → Ascend rows → Ascend (changed tells last rows)
  ascend last [] up = up
  ascend last (x ∷ rows) up =
      let rest = rest_ascends x rows up in
      let above = all_changed (λ y. x.0 < y.0) (Some (tells x.1)) rows
      (λ k d l. up 0 (suc k) d (omega arith) (omega arith)) in
      elim (cases_Bool (is_told last (tells x.1))) [
        | inl so ↦ rw so (ascend last rows rest)
        | inr not ↦
            rw not (AllPairs-cons (λ change later. change.0 < later.0) x (changed tells (Some (tells x.1)) rows) above
            (ascend (Some (tells x.1)) rows rest))
      ]

  pub is_track : (rows : List (ℕ × T)) → IsTrack rows → IsTrack (changed tells None rows)
  is_track rows h = record { begins = begins rows h.begins; ascends = ascend None rows h.ascends }
    where
      begins : (rows : List (ℕ × T)) → option_map (λ change. change.0) (slice_get rows 0) ≡ Some 0
          → option_map (λ change. change.0) (slice_get (changed tells None rows) 0) ≡ Some 0
      begins [] e = e
      begins (x ∷ rows) e = e

  -- what is told behind rows, where this was the value
  abbrev told_by : ℕ → Option T → List (ℕ × T) → Option (List ℕ)
  told_by n o rows = option_map tells (fold (replaced n) o rows)

  -- Both values tell what was told last: so they do behind the rows that come.
  agree : (n : ℕ) (last : Option (List ℕ)) (mine its : Option T) (rows : List (ℕ × T)) → Ascend rows
      → last ≡ option_map tells mine → last ≡ option_map tells its
      → told_by n mine (changed tells last rows) ≡ told_by n its rows
  agree n last mine its [] up is same = sym is ∙ same
  agree n last mine its (x ∷ rows) up is same = elim (cases_lt n x.0) [
    | inl l ↦
        let behind : All (λ y. n < y.0) (x ∷ rows) = All-cons (λ y. n < y.0) x rows l
        (λ k d j. let later = up 0 (suc k) d (omega arith) (omega arith) in omega (arith, l, later)) in
        ap (option_map tells)
        (unchanged n mine (changed tells last (x ∷ rows)) (all_changed (λ y. n < y.0) last (x ∷ rows) behind))
        ∙ sym is ∙ same ∙ sym (ap (option_map tells) (unchanged n its (x ∷ rows) behind))
    | inr l ↦
        let here : (o : Option T)
        → replaced n o x ≡ Some x.1 = λ o. ap (λ (b : Bool). cond b (Some x.1) o) (le-leb x.0 n l) in
        let theirs = ap (λ o. told_by n o rows) (sym (here its)) in
        elim (cases_Bool (is_told last (tells x.1))) [
          | inl so ↦ rw so (agree n last mine (Some x.1) rows rest is (told_is last (tells x.1) so) ∙ theirs)
          | inr not ↦
              rw not (ap (λ o. told_by n o (changed tells (Some (tells x.1)) rows)) (here mine)
              ∙ agree n (Some (tells x.1)) (Some x.1) (Some x.1) rows rest refl refl ∙ theirs)
        ]
  ]
    where
      rest : Ascend rows
      rest = rest_ascends x rows up

  pub tells_as : (rows : List (ℕ × T)) (n : ℕ) → Ascend rows
      → option_map tells (value_in n (changed tells None rows)) ≡ option_map tells (value_in n rows)
  tells_as rows n up = agree n None None None rows up refl refl
