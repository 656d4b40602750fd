-- What is pushed part by part.
use Rattle.std.proofs.Common.{◌≡◌, ◌∙◌, ℕ, List, [], ◌∷◌, ◌++◌, append_assoc, refl}

-- parts before a text, and parts behind one
abbrev pub before : List (List ℕ) → List ℕ → List ℕ
before [] text = text
before (p ∷ ps) text = p ++ before ps text

abbrev pub behind : List ℕ → List (List ℕ) → List ℕ
behind text [] = text
behind text (p ∷ ps) = behind (text ++ p) ps

-- parts one by one, and a last one
pub joined : (start : List ℕ) (parts : List (List ℕ)) (last : List ℕ)
    → behind start parts ++ last ≡ start ++ before parts last
joined start [] last = refl
joined start (p ∷ ps) last = joined (start ++ p) ps last ∙ append_assoc start p (before ps last)
