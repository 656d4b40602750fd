use Rattle.std.proofs.Common.{◌≡◌, ℕ, length, ◌++◌, List, drop, replicate, true, ◌∙◌, sym, subst}
use Rattle.lock_model.specs.Names.{is_name}
use Rattle.lock_model.specs.Spelling.{IsSpelled}
use Rattle.lock_model.proofs.Spelled.{spelled_by, length-spelling}
use Rattle.lock_model.proofs.name.Name.of.Goals as goal

pub invariant_of-result : goal.invariant_of-result
invariant_of-result c =
    let bs : List ℕ = c.args.bytes.now in
    let P : List ℕ
    → Type 0 = λ xs. IsSpelled (record { bytes = xs ++ drop (length bs) (replicate 16 0); len = length bs }) in
    let named : is_name bs ≡ true = sym c.is_spelling.ensures ∙ c.if-not-is_spelling.false in
    subst P (sym c.copy_from_slice.ensures.after) (spelled_by bs (length-spelling bs named) named)
