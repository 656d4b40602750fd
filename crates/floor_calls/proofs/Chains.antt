-- Of causes that are tested one behind the other the first that is so is found.
use Rattle.floor_calls.proofs.Names.{List, [], Option, Some, None, IsFirst, none}
use Rattle.std.proofs.Common.{◌∷◌}
use Rattle.floor_calls.proofs.Tests.{at_first, behind, past, within}

-- no cause is left
pub no_more : {A : Type 0} {So : A → Type 0} → IsFirst So [] None
no_more = none

-- two causes, or three, were tested together before

pub within_two : {A : Type 0} {So : A → Type 0} {x y found : A} {zs : List A} → IsFirst So (x ∷ y ∷ []) (Some found)
    → IsFirst So (x ∷ y ∷ zs) (Some found)
within_two = within _

pub past_two : {A : Type 0} {So : A → Type 0} {x y : A} {zs : List A} {found : Option A} → IsFirst So (x ∷ y ∷ []) None
    → IsFirst So zs found → IsFirst So (x ∷ y ∷ zs) found
past_two = past

pub within_three : {A : Type 0} {So : A → Type 0} {w x y found : A} {zs : List A}
    → IsFirst So (w ∷ x ∷ y ∷ []) (Some found) → IsFirst So (w ∷ x ∷ y ∷ zs) (Some found)
within_three = within _

pub past_three : {A : Type 0} {So : A → Type 0} {w x y : A} {zs : List A} {found : Option A}
    → IsFirst So (w ∷ x ∷ y ∷ []) None → IsFirst So zs found → IsFirst So (w ∷ x ∷ y ∷ zs) found
past_three = past

pub ruleset chains = (at_first, behind, no_more, within_two, past_two, within_three, past_three)
