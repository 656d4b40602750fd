-- What shapes are written as.
use Rattle.std.specs.Prelude.{ℕ, List, [], ◌∷◌, Option, Some, None, codes, decimal, flat_map, All}
use Rattle.std.specs.List.{concat}
use Rattle.chart_escape.specs.Markup.{escaped}
use Rattle.chart_svg.specs.Drawn.{class_bytes, curve_bytes, dot_bytes, rect_bytes, stroke_bytes, words_bytes, Stands}
use Rattle.chart_svg.specs.declared.shapes.Area.{Area}
use Rattle.chart_svg.specs.declared.shapes.Form.{Form}
use Rattle.chart_svg.specs.declared.shapes.Form.TheVariants as form
use Rattle.chart_svg.specs.declared.shapes.Shape.{Shape}

-- a rectangle that says nothing
unfoldable pub paper_bytes : List ℕ → Area → List ℕ
paper_bytes class area = concat (codes "<rect class='" ∷ escaped class
    ∷ codes "' x='" ∷ decimal area.x.0 ∷ codes "' y='" ∷ decimal area.y.0
    ∷ codes "' width='" ∷ decimal area.width ∷ codes "' height='" ∷ decimal area.height
    ∷ codes "' rx='3'></rect>\n" ∷ [])

-- what is read aloud of a picture
unfoldable pub heading_bytes : List ℕ → List ℕ → List ℕ
heading_bytes title words = concat (codes "<title>" ∷ escaped title
    ∷ codes "</title>\n<desc>" ∷ escaped words ∷ codes "</desc>\n" ∷ [])

-- the rules of a style
unfoldable pub style_bytes : List ℕ → List ℕ
style_bytes rules = concat (codes "<style>\n" ∷ escaped rules ∷ codes "</style>\n" ∷ [])

-- a hatching of that name
unfoldable pub hatch_bytes : List ℕ → List ℕ
hatch_bytes name = concat (codes "<pattern id='h" ∷ escaped name
    ∷ codes "' width='7' height='7' patternTransform='rotate(45)'"
    ∷ codes " patternUnits='userSpaceOnUse'><path class='paper' d='M0 0H7V7H0z'/>"
    ∷ codes "<path class='hatch" ∷ escaped name ∷ codes "' d='M0 0V7'/></pattern>\n" ∷ [])

-- what has a class is written so
abbrev pub form_bytes : List ℕ → Form → List ℕ
form_bytes class (form.Rect area None) = paper_bytes class area
form_bytes class (form.Rect area (Some said)) = rect_bytes class area said.items
form_bytes class (form.Dot at said) = dot_bytes class at.0.0 at.1.0 said.items
form_bytes class (form.Line from to) = stroke_bytes class from.0.0 from.1.0 to.0.0 to.1.0
form_bytes class (form.Curve path said) = curve_bytes class path.items said.items
form_bytes class (form.Words at words) = words_bytes class at.0.0 at.1.0 words.items
form_bytes class (form.Heading title words) = heading_bytes title.items words.items
form_bytes class (form.Style rules) = style_bytes rules.items
form_bytes class (form.Hatch name) = hatch_bytes name.items

-- a shape is its form, with its class
abbrev pub shape_bytes : Shape → List ℕ
shape_bytes shape = form_bytes (class_bytes shape.0) shape.1

-- shapes, one behind the other
abbrev pub shapes_bytes : List Shape → List ℕ
shapes_bytes shapes = flat_map shape_bytes shapes

-- the shapes stand in a picture, one behind the other
abbrev pub AreOn : List ℕ → List Shape → Type 0
AreOn picture shapes = Stands picture (shapes_bytes shapes)

-- the shapes show what is so of each picture in which they stand
abbrev pub Show : List Shape → (List ℕ → Type 0) → Type 0
Show shapes Is = (picture : List ℕ) → AreOn picture shapes → Is picture

-- they show it of each of the things
abbrev pub ShowAll : {X : Type 0} → List Shape → (List ℕ → X → Type 0) → List X → Type 0
ShowAll shapes Is things = Show shapes (λ picture. All (Is picture) things)

-- a shape, if there is one
abbrev pub shapes_in : Option Shape → List Shape
shapes_in None = []
shapes_in (Some shape) = shape ∷ []

-- how the element is called that is the picture, with its last byte first, as a reader keeps it
abbrev pub picture : List ℕ
picture = codes "gvs"
