-- What stands behind a first word: too many words, and the first of several.
use Rattle.std.proofs.Common.{◌≡◌, ℕ, Bool, true, false, ◌==◌, if◌then◌else◌, List, [], ◌∷◌, Option, Some, None, refl, sym, ap}
use Rattle.lock_model.specs.Script.Lines.{words_of, onto_first}
use Rattle.tick_sleep.specs.Statements.{Statement, Alone, WithOne, WithTwo, WithTwoOrThree, said}

-- a text has a word
words_are : (bs : List ℕ) → (w : List ℕ) × (ws : List (List ℕ)) × (words_of bs ≡ w ∷ ws)
words_are [] = ([], [], refl)
words_are (b ∷ bs) = by (b == 32) (words_of bs)
  where
    by : (t : Bool) (parts : List (List ℕ)) → (w : List ℕ) × (ws : List (List ℕ))
        × ((if t then [] ∷ parts else onto_first b parts) ≡ w ∷ ws)
    by true parts = ([], parts, refl)
    by false [] = (b ∷ [], [], refl)
    by false (part ∷ parts) = (b ∷ part, parts, refl)

pub alone_more : (s : Statement) (bs : List ℕ) → None ≡ said (Alone s) (words_of bs)
alone_more s bs = let w = words_are bs in ap (said (Alone s)) (sym w.2)

pub one_more : (f : List ℕ → Statement) (w bs : List ℕ) → None ≡ said (WithOne f) (w ∷ words_of bs)
one_more f w bs = let v = words_are bs in ap (λ (ws : List (List ℕ)). said (WithOne f) (w ∷ ws)) (sym v.2)

pub two_more : (f : List ℕ → List ℕ → Statement) (w : List ℕ) (ws : List (List ℕ))
    → said (WithOne (f w)) ws ≡ said (WithTwo f) (w ∷ ws)
two_more f w [] = refl
two_more f w (a ∷ []) = refl
two_more f w (a ∷ b ∷ ws) = refl

third : (f : List ℕ → List ℕ → Option (List ℕ) → Statement) (a b : List ℕ) (w : List ℕ) (ws : List (List ℕ))
    → said (WithOne (λ c. f a b (Some c))) (w ∷ ws) ≡ said (WithTwoOrThree f) (a ∷ b ∷ w ∷ ws)
third f a b w [] = refl
third f a b w (v ∷ ws) = refl

-- where there is a third word
pub three_more : (f : List ℕ → List ℕ → Option (List ℕ) → Statement) (a b bs : List ℕ)
    → said (WithOne (λ c. f a b (Some c))) (words_of bs) ≡ said (WithTwoOrThree f) (a ∷ b ∷ words_of bs)
three_more f a b bs = let w = words_are bs in rw w.2 (third f a b w.0 w.1)
