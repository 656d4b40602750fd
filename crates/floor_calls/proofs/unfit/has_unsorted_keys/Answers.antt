use Rattle.floor_calls.proofs.Names.{ℕ, List, length, get_or, refl, ap, subst, arith, get_or_default, Less, place_cmp}
use Rattle.floor_calls.proofs.Names.{IsUnsorted}
use Rattle.std.proofs.Common.{◌≡◌, ◌+◌, ◌-◌, ◌<◌, ◌≤◌, ◌∙◌}
use Rattle.floor_calls.proofs.unfit.has_unsorted_keys.Goals as goal

less_there : (keys : List (ℕ × ℕ)) (i : ℕ) (d : ℕ × ℕ) → 1 ≤ i → i < length keys
    → place_cmp (get_or keys (i - 1) d) (get_or keys (i - 1 + 1) d) ≡ Less
    → place_cmp (get_or keys (i - 1) (0, 0)) (get_or keys i (0, 0)) ≡ Less
less_there keys i d low high less =
    let e : i - 1 + 1 ≡ i = omega arith in
    let one = get_or_default keys (i - 1) d (0, 0) (omega arith) in
    let next : get_or keys (i - 1 + 1) d ≡ get_or keys i (0, 0) =
    ap (λ k. get_or keys k d) e ∙ get_or_default keys i d (0, 0) high in
    subst (λ (p : ℕ × ℕ). place_cmp p (get_or keys i (0, 0)) ≡ Less) one
    (subst (λ (q : ℕ × ℕ). place_cmp (get_or keys (i - 1) d) q ≡ Less) next less)

pub returns-then-not-comes_before : goal.returns-then-not-comes_before
returns-then-not-comes_before c =
    let i = c.loop-i.i in
    let keys = c.as_slice-keys.result.now in
    let low : 1 ≤ i = c.loop-i.auto.i in
    let high : i < length keys = c.loop-i-test.true in (
      λ _. subst IsUnsorted c.as_slice-keys.ensures (
        i - 1,
        omega arith,
        λ d less. let z = c.comes_before.ensures.1 (less_there keys i d low high less) in cc,
      ),
      λ _. refl,
    )
