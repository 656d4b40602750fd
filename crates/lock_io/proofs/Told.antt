-- Bytes that a sink tells: how a piece more changes what was added to them.
use Rattle.std.proofs.Common.{◌≡◌, ℕ, ◌+◌, List, ◌++◌, take, drop, ap, append_assoc, Option, Some, None, sym, ◌∙◌}
use Rattle.std.proofs.Math.Seq.{take-add}
use Rattle.std.specs.Io.KnownBytes.{append_known}

-- a piece more of a text was added
pub added_more : (o m n : Option (List ℕ)) (text : List ℕ) (i k : ℕ) → m ≡ append_known o (take i text)
    → n ≡ append_known m (take k (drop i text)) → n ≡ append_known o (take (i + k) text)
added_more None m n text i k h e = e ∙ ap (λ x. append_known x (take k (drop i text))) h
added_more (Some xs) m n text i k h e =
    e ∙ ap (λ x. append_known x (take k (drop i text))) h
    ∙ ap Some (append_assoc xs (take i text) (take k (drop i text)) ∙ ap (λ w. xs ++ w) (sym (take-add i k text)))
