-- What stands in a picture, by the shapes that stand there.
use Rattle.std.proofs.Common.{ℕ, ◌+◌, ◌<◌, ◌≤◌, length, take, get_or, subst, ◌≡◌, ◌∙◌, ◌++◌, ◌∷◌, ap, sym, List, [], append_assoc, append-nil, All}
use Rattle.std.proofs.lemmas.Grind.{flat_map-append}
use Rattle.std.proofs.lemmas.List.Elements.{All-more, All-same}
use Rattle.std.proofs.lemmas.List.{take_all}
use Rattle.chart_svg.specs.Drawn.{Stands}
use Rattle.chart_svg.specs.Shapes.{shape_bytes, shapes_bytes, AreOn, Show, ShowAll}
use Rattle.chart_svg.specs.declared.shapes.Shape.{Shape}

-- what stands in a part stands in the whole
pub within : (whole text part : List ℕ) → Stands whole text → Stands text part → Stands whole part
within whole text part h k = record {
  before = h.before ++ k.before;
  behind = k.behind ++ h.behind;
  is = h.is ∙ ap (λ t. h.before ++ (t ++ h.behind)) k.is ∙ simp append_assoc;
}

-- so does what a text begins with
pub begins : (text part behind : List ℕ) → text ≡ part ++ behind → Stands text part
begins text part behind is = record { before = []; behind = behind; is = is }

pub told : (picture part other : List ℕ) → part ≡ other → Stands picture part → Stands picture other
told picture part other same h = subst (λ p. Stands picture p) same h

joined : (old new more : List Shape) → new ≡ old ++ more → shapes_bytes new ≡ shapes_bytes old ++ shapes_bytes more
joined old new more e = ap (λ shapes. shapes_bytes shapes) e ∙ flat_map-append shape_bytes old more

-- where shapes stand, those before and those behind do
pub before : (picture : List ℕ) (old new more : List Shape) → new ≡ old ++ more → AreOn picture new → AreOn picture old
before picture old new more e on = within _ _ _ on (begins _ _ _ (joined old new more e))

pub behind : (picture : List ℕ) (old new more : List Shape) → new ≡ old ++ more → AreOn picture new → AreOn picture more
behind picture old new more e on = within _ _ _ on (record {
  before = shapes_bytes old;
  behind = [];
  is = joined old new more e ∙ ap (λ b. shapes_bytes old ++ b) (sym (append-nil (shapes_bytes more)));
})

-- and the last of them, as it is written
pub last : (picture : List ℕ) (old new : List Shape) (shape : Shape) (part : List ℕ) → new ≡ old ++ shape ∷ []
    → shape_bytes shape ≡ part → AreOn picture new → Stands picture part
last picture old new shape part e is on =
    within _ _ _ (behind picture old new (shape ∷ []) e on) (begins _ _ [] (ap (λ p. p ++ []) is))

-- it is shown of a thing more, by shapes behind those so far
pub shown_more : {X : Type 0} (Is : List ℕ → X → Type 0) (old new own : List Shape) → new ≡ old ++ own
    → (xs : List X) (i : ℕ) (x d : X) → i < length xs → x ≡ get_or xs i d
    → ShowAll old Is (take i xs) → Show own (λ picture. Is picture x) → ShowAll new Is (take (i + 1) xs)
shown_more Is old new own e xs i x d lt at so_far shown picture on =
    All-more (Is picture) xs i d lt (so_far picture (before picture old new own e on))
    (subst (Is picture) at (shown picture (behind picture old new own e on)))

-- it is so of all, where the loop has come to the end
pub all_drawn : {X : Type 0} (P : X → Type 0) (xs ys : List X) (i : ℕ) → length xs ≤ i → xs ≡ ys → All P (take i xs)
    → All P ys
all_drawn P xs ys i le same h = subst (All P) same (All-same P xs (take i xs) (sym (take_all i xs le)) h)
