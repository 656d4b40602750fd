use Rattle.std.proofs.Common.{ℕ, ◌≡◌, ◌∙◌, ap, List, [], ◌∷◌, codes}
use Rattle.std.proofs.lemmas.Result.{on_ok_weaker}
use Rattle.chart_escape.specs.Reader.{Between, InText, at, behind_pieces, read}
use Rattle.chart_escape.specs.declared.piece.Piece.{Piece}
use Rattle.chart_escape.specs.declared.piece.Piece.TheVariants as piece
use Rattle.chart_svg.specs.Shapes.{picture}
use Rattle.chart_svg.proofs.shapes.open_picture.Goals as goal

-- text of the program's own
abbrev own : List ℕ → Piece
own bytes = piece.Own (record { ref_ptr = (0, 0); now = bytes })

-- text, and a number behind it
abbrev numbered : List ℕ → ℕ → List Piece → List Piece
numbered name n ps = own name ∷ piece.Number n ∷ ps

abbrev begun : ℕ → ℕ → ℕ → ℕ → ℕ → ℕ → List Piece
begun width height left column top bottom =
    numbered (codes "<svg xmlns='http://www.w3.org/2000/svg' width='") width (numbered (codes "' height='") height
    (numbered (codes "' viewBox='0 0 ") width (numbered (codes " ") height
    (numbered (codes "' data-left='") left (numbered (codes "' data-column='") column
    (numbered (codes "' data-top='") top (numbered (codes "' data-bottom='") bottom (own (codes "'>\n") ∷ []))))))))

picture_opened : (old : List ℕ) (width height left column top bottom : ℕ) → old ≡ []
    → behind_pieces (read old) (begun width height left column top bottom) ≡ at (InText Between) (picture ∷ [])
picture_opened old width height left column top bottom none =
    ap (λ bytes. behind_pieces (read bytes) (begun width height left column top bottom)) none

pub returns : goal.returns
returns c = on_ok_weaker c.push_pieces.result (λ e. e ∙ picture_opened c.args.out.now.items _ _ _ _ _ _ c.requires)
    c.push_pieces.ensures.reads
