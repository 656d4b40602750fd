-- How the front of a list is its first item.
use Rattle.std.proofs.Common.{◌≡◌, ◌==◌, ◌++◌, ℕ, false, refl, List, [], ◌∷◌}
use Rattle.script_read.specs.Reading.{Lacks}
use Rattle.script_read.proofs.Cuts.{lacks-first}
use Rattle.complaints.specs.Complaints.{items_of}

step : (b : ℕ) (bs item : List ℕ) (more : List (List ℕ)) → (b == 44) ≡ false → items_of bs ≡ item ∷ more
    → items_of (b ∷ bs) ≡ (b ∷ item) ∷ more
step b bs item more h e = rw (h, e) refl

-- an item with a comma behind it
pub items-cut : (item rest : List ℕ) → Lacks 44 item → items_of (item ++ 44 ∷ rest) ≡ item ∷ items_of rest
items-cut [] rest h = refl
items-cut (b ∷ item) rest h =
    let p = lacks-first 44 b item h in
    step b (item ++ 44 ∷ rest) item (items_of rest) p.0 (items-cut item rest p.1)

-- a last item
pub items-last : (item : List ℕ) → Lacks 44 item → items_of item ≡ item ∷ []
items-last [] h = refl
items-last (b ∷ item) h =
    let p = lacks-first 44 b item h in
    step b item item [] p.0 (items-last item p.1)
