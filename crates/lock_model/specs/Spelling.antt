-- How a name lies in its 16 bytes: the spelling, and zeros behind it.
use Rattle.std.specs.Prelude.{◌≡◌, ℕ, ◌-◌, ◌≤◌, List, ◌++◌, length, take, replicate, IsTrue}
use Rattle.std.proofs.Common.{arith, sym, ap, ◌∙◌}
use Rattle.std.proofs.lemmas.List.{length-take-le}
use Rattle.lock_model.specs.declared.name.Name.TheInside.{Inside}
use Rattle.lock_model.specs.Names.{is_name}

-- a spelling and the zeros behind it
pub record IsSpelled (n : Inside) : Type 0 where
  pub named : IsTrue (is_name (take n.len n.bytes))
  pub within : n.len ≤ 16
  pub size : length n.bytes ≡ 16
  pub padded : n.bytes ≡ take n.len n.bytes ++ replicate (16 - n.len) 0

-- the spelling gives its 16 bytes again
pub spelled_again : (n : Inside) → IsSpelled n
    → record {
      bytes = take n.len n.bytes ++ replicate (16 - length (take n.len n.bytes)) 0;
      len = length (take n.len n.bytes);
    } ≡ n
spelled_again n h =
    let taken : length (take n.len n.bytes) ≡ n.len = length-take-le n.len n.bytes
    (omega (arith, h.within, h.size)) in
    let at : (k : ℕ) → k ≡ n.len
    → ◌≡◌ {A = Inside} (record {
      bytes = take n.len n.bytes ++ replicate (16 - k) 0;
      len = k;
    }) n =
    λ k e. ap (λ (j : ℕ). let i : Inside =
    record { bytes = take n.len n.bytes ++ replicate (16 - j) 0; len = j } in i) e ∙ ap
    (λ (bs : List ℕ). let i : Inside = record { bytes = bs; len = n.len } in i) (sym h.padded)
    in
    at _ taken
