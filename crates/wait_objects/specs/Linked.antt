-- What a link leads to, in order.
use Rattle.std.specs.Prelude.{ℕ, List, [], ◌∷◌, Option, None, Some}
use Rattle.std.specs.declared.boxed.Box.{Box}
use Rattle.wait_objects.specs.Seen.{Place, Node, Contents, Object}

-- the waiters of a link
abbrev pub linked_places : {Z : Type 0} → Option (Box Node Z) → List Place
linked_places None = []
linked_places (Some b) = b.value.place ∷ b.value.next

-- the objects of a link
abbrev pub linked_contents : {E Z : Type 0} → Option (Box (Object E) Z) → List (Contents E)
linked_contents None = []
linked_contents (Some b) = b.value.contents ∷ b.value.next

-- the number of the object in a box, if there is one
abbrev pub number_in : {E Z : Type 0} → Option (Box (Object E) Z) → Option ℕ
number_in None = None
number_in (Some b) = Some b.value.contents.number
