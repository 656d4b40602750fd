-- What `Name::of` makes is spelled as the bytes that it was given.
use Rattle.std.proofs.Common.{◌≡◌, ℕ, ◌-◌, ◌+◌, ◌≤◌, length, List, [], ◌∷◌, ◌++◌, take, drop, replicate, refl, true, IsTrue, ap, ◌∙◌, sym, arith, subst}
use Rattle.std.proofs.lemmas.List.{take_at, drop-replicate, length-replicate}
use Rattle.lock_model.specs.Names.{is_name}
use Rattle.lock_model.specs.Spelling.{IsSpelled}
use Rattle.std.proofs.Common.{length-append}
use Rattle.std.proofs.lemmas.Bool.Decides.{nat_tests}

-- bytes that spell a name, with the rest of 16 zeros behind them
pub spelled_by : (bs : List ℕ) → length bs ≤ 16 → IsTrue (is_name bs)
    → IsSpelled (record { bytes = bs ++ drop (length bs) (replicate 16 0); len = length bs })
spelled_by bs short named =
    let front : take (length bs) (bs ++ drop (length bs) (replicate 16 0))
    ≡ bs = take_at bs (drop (length bs) (replicate 16 0)) (length bs) refl in
    let zeros : drop (length bs) (replicate 16 0) ≡ replicate (16 - length bs) 0 = drop-replicate (length bs) 16 0 in
    let all : length (bs ++ drop (length bs) (replicate 16 0)) ≡ length bs + length (replicate (16 - length bs) 0) =
    length-append bs (drop (length bs) (replicate 16 0)) ∙ ap (λ (r : List ℕ). length bs + length r) zeros in
    record {
      named = let P : List ℕ → Type 0 = λ xs. IsTrue (is_name xs) in subst P (sym front) named;
      within = short;
      size = omega (arith, all, length-replicate {A = ℕ} (16 - length bs) 0);
      padded = ap (λ (r : List ℕ). bs ++ r) zeros ∙ ap (λ (f : List ℕ). f ++ replicate (16 - length bs) 0) (sym front);
    }

-- a spelling has at most 16 bytes
pub length-spelling : (bs : List ℕ) → is_name bs ≡ true → length bs ≤ 16
length-spelling [] h = omega arith
length-spelling (b ∷ bs) h = grind (arith, nat_tests)
