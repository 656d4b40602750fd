-- A handle that says so has something.
use Rattle.std.proofs.Common.{◌≡◌, ◌≢◌, ℕ, Bool, true, false, not, Option, None, eqb, refl, sym, ap, ◌∙◌}
use Rattle.std.specs.Prelude.{is_some}
use Rattle.std.proofs.lemmas.Bool.{eqb-true}

pub has_some : {A : Type 0} (home : Option A) (n : ℕ) → is_some home ≡ not (eqb n 0) → n ≢ 0 → home ≢ None
has_some {A} home n fits there none = go (eqb n 0) refl
  where
    go : (b : Bool) → eqb n 0 ≡ b → ⊥
    go true e = there (eqb-true n 0 e)
    go false e = absurd (let z : true ≡ false = sym (fits ∙ ap not e) ∙ ap is_some none in cc)
