-- What a sink took of a line that is written piece by piece.
use Rattle.std.proofs.Common.{◌≡◌, ◌∙◌, ◌++◌, ◌+◌, ap, List, ℕ, length, take, Option, None, Some, IfSome, refl, sym, arith, append_assoc, length-append}
use Rattle.std.proofs.lemmas.List.{take-append-le}
use Rattle.std.proofs.Math.Seq.{take-append-add}
use Rattle.std.specs.Io.KnownBytes.{append_known}
use Rattle.lock_io.specs.Whole.{AddsFront}

-- a whole piece
pub whole : (o n : Option (List ℕ)) (a : List ℕ) → IfSome o (λ held. n ≡ Some (held ++ a)) → AddsFront o n a
    → n ≡ append_known o a
whole None n a written front = front.2
whole (Some held) n a written front = written

joined : (o : Option (List ℕ)) (a b : List ℕ) → append_known (append_known o a) b ≡ append_known o (a ++ b)
joined None a b = refl
joined (Some held) a b = ap Some (append_assoc held a b)

-- a front of the first piece
pub within : (o n : Option (List ℕ)) (a b : List ℕ) → AddsFront o n a → AddsFront o n (a ++ b)
within o n a b front = (
  front.0,
  omega (arith, front.1, length-append a b),
  front.2
      ∙ ap (append_known o) (sym (take-append-le front.0 a b front.1)),
)

-- and one of what stands behind a whole one
pub behind : (o m n : Option (List ℕ)) (a b : List ℕ) → m ≡ append_known o a → AddsFront m n b → AddsFront o n (a ++ b)
behind o m n a b first front = (
  length a + front.0,
  omega (arith, front.1, length-append a b),
  front.2 ∙ ap (λ x. append_known x (take front.0 b)) first ∙ joined o a (take front.0 b)
      ∙ ap (append_known o) (sym (take-append-add a b front.0)),
)
