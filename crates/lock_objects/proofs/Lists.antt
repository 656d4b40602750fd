-- The places of waiters that were taken off a queue, and their marks in the columns of the state.
use Rattle.lock_objects.proofs.Names
use Names.{ℕ, suc, List, [], length, map, None, Some, IsSome, refl, ap, arith, All, take-length, All-nil, All-cons}
use Names.{Waiter, handed_out, dealt, head_after, QueueName, Side, Contents, place, with_last, waiters, taken, mark_of}
use Rattle.std.proofs.Common.{◌≡◌, ◌∷◌, ◌≤◌}
use Rattle.turnstile_core.specs.Seen.{Place}

-- a place has an object
abbrev pub HasObject : Place → Type 0
HasObject p = IsSome p.object

-- waiters, each with the free object that it takes back
abbrev pub places : List Waiter → List ℕ → List Place
places ws xs = map place (handed_out ws xs None)

-- Where the free list is long enough

pub marks-dealt : (q : QueueName) (ws : List Waiter) (xs : List ℕ) (h : ℕ) → length ws ≤ length xs
    → map (mark_of q) (places ws xs) ≡ dealt q ws xs (Some h)
marks-dealt q [] xs h l = refl
marks-dealt q (w ∷ ws) [] h l = absurd (omega arith)
marks-dealt q (w ∷ ws) (x ∷ xs) h l =
    ap (λ ms. mark_of q (place (w, Some x)) ∷ ms) (marks-dealt q ws xs h (omega arith))

pub objects-dealt : (ws : List Waiter) (xs : List ℕ) → length ws ≤ length xs → All (λ p. IsSome p.object) (places ws xs)
objects-dealt [] xs l = All-nil HasObject
objects-dealt (w ∷ ws) [] l = absurd (omega arith)
objects-dealt (w ∷ ws) (x ∷ xs) l =
    All-cons HasObject (place (w, Some x)) (places ws xs) refl (objects-dealt ws xs (omega arith))

pub head_after-stays : (ws : List Waiter) (xs : List ℕ) (h : ℕ) → length ws ≤ length xs
    → head_after ws xs (Some h) ≡ Some h
head_after-stays [] xs h l = refl
head_after-stays (w ∷ ws) [] h l = absurd (omega arith)
head_after-stays (w ∷ ws) (x ∷ xs) h l = head_after-stays ws xs h (omega arith)

-- Where the free list is one too short: the last gets the head

pub marks-dealt_last : (q : QueueName) (ws : List Waiter) (xs : List ℕ) (h : ℕ) → length ws ≡ suc (length xs)
    → map (mark_of q) (with_last h (places ws xs)) ≡ dealt q ws xs (Some h)
marks-dealt_last q [] xs h e = absurd (omega arith)
marks-dealt_last q (w ∷ []) [] h e = refl
marks-dealt_last q (w ∷ []) (x ∷ xs) h e = absurd (omega arith)
marks-dealt_last q (w ∷ v ∷ ws) [] h e = absurd (omega arith)
marks-dealt_last q (w ∷ v ∷ ws) (x ∷ []) h e =
    ap (λ ms. mark_of q (place (w, Some x)) ∷ ms) (marks-dealt_last q (v ∷ ws) [] h (omega arith))
marks-dealt_last q (w ∷ v ∷ ws) (x ∷ y ∷ xs) h e =
    ap (λ ms. mark_of q (place (w, Some x)) ∷ ms) (marks-dealt_last q (v ∷ ws) (y ∷ xs) h (omega arith))

pub objects-dealt_last : (ws : List Waiter) (xs : List ℕ) (h : ℕ) → length ws ≡ suc (length xs)
    → All (λ p. IsSome p.object) (with_last h (places ws xs))
objects-dealt_last [] xs h e = absurd (omega arith)
objects-dealt_last (w ∷ []) [] h e = All-cons HasObject (place (w, Some h)) [] refl (All-nil HasObject)
objects-dealt_last (w ∷ []) (x ∷ xs) h e = absurd (omega arith)
objects-dealt_last (w ∷ v ∷ ws) [] h e = absurd (omega arith)
objects-dealt_last (w ∷ v ∷ ws) (x ∷ []) h e = All-cons HasObject (place (w, Some x))
    (with_last h (places (v ∷ ws) [])) refl (objects-dealt_last (v ∷ ws) [] h (omega arith))
objects-dealt_last (w ∷ v ∷ ws) (x ∷ y ∷ xs) h e =
    All-cons HasObject (place (w, Some x)) (with_last h (places (v ∷ ws) (y ∷ xs))) refl
    (objects-dealt_last (v ∷ ws) (y ∷ xs) h (omega arith))

pub head_after-none : (ws : List Waiter) (xs : List ℕ) (h : ℕ) → length ws ≡ suc (length xs)
    → head_after ws xs (Some h) ≡ None
head_after-none [] xs h e = absurd (omega arith)
head_after-none (w ∷ ws) [] h e = refl
head_after-none (w ∷ ws) (x ∷ xs) h e = head_after-none ws xs h (omega arith)

-- A whole side is taken

pub taken-whole : (side : Side) (h : Contents) → taken (length (waiters side h)) side h ≡ places (waiters side h) h.free
taken-whole side h = ap (λ ws. places ws h.free) (take-length (waiters side h))
