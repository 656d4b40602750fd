-- A turnstile or a sleep queue as the head of a chain.
use Rattle.std.specs.Prelude.{◌≡◌, List, [], map}
use Rattle.std.proofs.Common.{ap, sym}
use Rattle.wait_objects.specs.Seen.{Contents, Object}
use Rattle.chain_table.specs.Links.{map_is_empty}
pub use Rattle.wait_objects.specs.Named.{bare}

-- the object without its link
abbrev pub unlinked : {E : Type 0} → Object E → Object E
unlinked t = bare t.contents

-- the objects behind it, each without its link
abbrev pub behind : {E : Type 0} → Object E → List (Object E)
behind t = map bare t.next

pub unlinked_is_itself : {E : Type 0} (t : Object E) → behind t ≡ [] → unlinked t ≡ t
unlinked_is_itself {E = E} t e =
    ap (λ (cs : List (Contents E)). let b : Object E = record { contents = t.contents; next = cs } in
    b) (sym (map_is_empty bare t.next e))
