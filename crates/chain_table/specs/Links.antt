-- For what implements `Head`: a link with nothing behind it, in a model that has the rest as a list.
use Rattle.std.specs.Prelude.{◌≡◌, List, [], ◌∷◌, map, refl}

pub map_is_empty : {A B : Type 0} (f : A → B) (xs : List A) → map f xs ≡ [] → xs ≡ []
map_is_empty f [] e = refl
map_is_empty f (x ∷ xs) e = cc
