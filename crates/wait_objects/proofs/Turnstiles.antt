-- The first of a side, in the words of turnstiles.
use Rattle.std.proofs.Common.{◌≡◌, ◌≢◌, false, List, [], ◌∷◌, length, drop, refl}
use Rattle.lock_model.specs.Queues.{Waiter as Waiting, taken_off, Ascends}
use Rattle.lock_model.specs.declared.plan.Side.{Side}
use Rattle.wait_objects.specs.declared.which.Which.TheVariants.{Best}
use Rattle.wait_objects.specs.Turnstiles.Seen.{Contents}
use Rattle.wait_objects.specs.Turnstiles.Changes.{waiters, left_by}
use Rattle.wait_objects.specs.Changes.{left}
use Rattle.wait_objects.proofs.Best.{rest_is_behind}

one_free : {A : Type 0} (ws : List Waiting) (xs : List A) → ws ≢ [] → Ascends ws
    → drop (length (taken_off false ws)) xs ≡ drop 1 xs
one_free [] xs ne a = absurd (ne refl)
one_free (w ∷ ws) xs ne a = refl

pub first_left : (side : Side) (c : Contents) → waiters side c ≢ [] → Ascends (waiters side c)
    → left Best side c ≡ left_by 1 side c
first_left side c ne a = rw (one_free (waiters side c) c.free ne a, rest_is_behind (waiters side c) a) refl
