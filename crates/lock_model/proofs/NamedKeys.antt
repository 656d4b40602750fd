-- Which keys stand in a list that takes up those that operations name, and what a sort and a `dedup` make of it.
use Rattle.std.proofs.Common.{◌≡◌, ℕ, ◌+◌, ◌<◌, Bool, true, false, ◌||◌, IsTrue, ◌↔◌, List, ◌++◌, length, take, get_or, eqb, refl, sym, ap, subst, ◌∙◌}
use Rattle.std.specs.List.{list_any, Contains, dedup}
use Rattle.std.specs.List.Sorted.{IsPermutation}
use Rattle.std.proofs.lemmas.List.Folds.{list_any-append, list_any_more, list_any_at, Any-from_list_any}
use Rattle.std.proofs.lemmas.List.Sorted.{list_any-IsPermutation}
use Rattle.std.proofs.lemmas.List.Kept.{Contains-dedup_nat, Contains-from_dedup}
use Rattle.std.proofs.lemmas.Bool.{eqb-true, eq-eqb}

or_assoc : (a b c : Bool) → ((a || b) || c) ≡ (a || (b || c))
or_assoc true b c = refl
or_assoc false b c = refl

-- one item more, and with it some keys
pub any_more : {X : Type 0} (p : ℕ → Bool) (q : X → Bool) (start keys more new : List ℕ) (xs : List X) (i : ℕ) (d : X)
    → i < length xs
    → list_any p keys ≡ (list_any p start || list_any q (take i xs)) → list_any p more ≡ q (get_or xs i d)
    → new ≡ keys ++ more
    → list_any p new ≡ (list_any p start || list_any q (take (i + 1) xs))
any_more p q start keys more new xs i d lt before one e =
    ap (list_any p) e ∙ list_any-append p keys more ∙ ap (λ b. b || list_any p more) before
    ∙ ap (λ b. (list_any p start || list_any q (take i xs)) || b) one
    ∙ or_assoc (list_any p start) (list_any q (take i xs)) (q (get_or xs i d))
    ∙ ap (λ b. list_any p start || b) (sym (list_any_more q xs i d lt))

-- a key stands in a list exactly where a test of the elements finds it
pub contains_iff_any : (xs : List ℕ) (key : ℕ) → Contains xs key ↔ IsTrue (list_any (λ k. eqb k key) xs)
contains_iff_any xs key = (
  λ h. list_any_at (λ k. eqb k key) xs h.0 key h.1 (eq-eqb _ _ h.2),
  λ h. let a = Any-from_list_any (λ k. eqb k key) xs h in
      subst (Contains xs) (eqb-true a.1 key a.4) (a.0, a.2, a.3),
)

-- a key stands in the sorted list without repetitions exactly where it stood in the list
pub kept_keys : (keys sorted : List ℕ) (key : ℕ) → IsPermutation keys sorted
    → Contains (dedup eqb sorted) key ↔ IsTrue (list_any (λ k. eqb k key) keys)
kept_keys keys sorted key moved =
    let same : list_any (λ k. eqb k key) keys
    ≡ list_any (λ k. eqb k key) sorted = list_any-IsPermutation (λ k. eqb k key) keys sorted moved in (
      λ h. same ∙ (contains_iff_any sorted key).0 (Contains-from_dedup eqb sorted key h),
      λ h. Contains-dedup_nat sorted key ((contains_iff_any sorted key).1 (sym same ∙ h)),
    )
