-- The first of several things that may be so.
use Rattle.std.specs.Prelude.{List, [], ◌∷◌, Option, Some, None}

-- of these the first that is so; or none, where none is
pub data IsFirst {A : Type 0} (So : A → Type 0) : List A → Option A → Type 0 where
  none : IsFirst So [] None
  here : {x : A} {xs : List A} → So x → IsFirst So (x ∷ xs) (Some x)
  later : {x : A} {xs : List A} {found : Option A} → (So x → ⊥) → IsFirst So xs found
      → IsFirst So (x ∷ xs) found
