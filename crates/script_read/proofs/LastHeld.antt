-- The lock that a thread has gained last, by its place.
use Rattle.std.proofs.Common.{◌≡◌, ℕ, suc, ◌-◌, Bool, false, not, ◌&&◌, ◌==◌, List, [], ◌∷◌, length, Option, Some, None, slice_get, refl, arith}
use Rattle.lock_model.specs.Operations.{is_last}
use Rattle.lock_model.specs.declared.event.Held.{Held}

-- gained in its turn, and not by a try
abbrev pub is_taken : ℕ → Option Held → Bool
is_taken l None = false
is_taken l (Some h) = h.l.0 == l && not h.by_try

pub last_place : (l : ℕ) (hs : List Held) → is_last l hs ≡ is_taken l (slice_get hs (length hs - 1))
last_place l [] = refl
last_place l (h ∷ []) = refl
last_place l (h ∷ g ∷ hs) =
    let place : length (h ∷ g ∷ hs) - 1 ≡ suc (length (g ∷ hs) - 1) = omega arith in
    rw place (last_place l (g ∷ hs))
