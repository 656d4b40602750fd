-- The blocks of tries that are open, as the definition has them: the innermost first.
use Rattle.std.proofs.Common.{◌≡◌, List, [], ◌∷◌, ◌++◌, length, map, reverse, refl, ap, ◌∙◌, arith}
use Rattle.std.specs.Prelude.{◌==◌}
use Rattle.std.proofs.lemmas.Bool.Decides.{nat_tests}
use Rattle.std.proofs.lemmas.List.{length-reverse, reverse-append, length-map}
use Rattle.lock_model.specs.Counts.{is_empty}
use Rattle.script_read.specs.OpenThreads.{block_of}
use Rattle.script_read.specs.declared.reader.open_thread.Block.{Block}

-- as many
pub as_many : (bs : List Block) → length (map block_of (reverse bs)) ≡ length bs
as_many bs = rw (length-map, length-reverse) refl

pub none_there : {A : Type 0} (xs : List A) → is_empty xs ≡ (length xs == 0)
none_there [] = refl
none_there (x ∷ xs) = grind (arith, nat_tests)

pub none_open : (bs : List Block) → is_empty (map block_of (reverse bs)) ≡ (length bs == 0)
none_open bs = none_there (map block_of (reverse bs)) ∙ ap (λ n. n == 0) (as_many bs)

-- the last one is the innermost
pub innermost : (bs : List Block) (b : Block)
    → map block_of (reverse (bs ++ b ∷ [])) ≡ block_of b ∷ map block_of (reverse bs)
innermost bs b = ap (map block_of) (reverse-append bs (b ∷ []))
