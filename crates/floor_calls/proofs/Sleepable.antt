-- A thread holds no lock of which something is so, as that it may not sleep over it, told of the list of those that it
-- holds, and lock by lock; and the lock that it gained last, by its place.
use Rattle.floor_calls.proofs.Names
use Names.{ℕ, zero, suc, Bool, true, false, not, List, [], length, get_or, slice_get, Option, Some, None, refl, sym}
use Names.{subst, arith, eq-eqb, eqb-true, Any, NotHeld, Holds, hold_in, HeldLock}
use Rattle.std.proofs.Common.{◌≡◌, ◌-◌, ◌<◌, ◌&&◌, ◌∷◌}
use Rattle.std.specs.Prelude.{◌==◌, if◌then◌else◌}
use Rattle.lock_model.specs.Operations.{is_last}

module _ (Is : ℕ → Type 0) where
  -- of one of these it is so
  abbrev pub HasOne : List HeldLock → Type 0
  HasOne hs = Any (λ (h : HeldLock). Is h.l.0) hs

  later_one : (h : HeldLock) (hs : List HeldLock) → HasOne hs → HasOne (h ∷ hs)
  later_one h hs (i, x, lt, at, is) = (suc i, x, omega (arith, lt), at, is)

  pub none_of : (hs : List HeldLock) (k : ℕ) → (HasOne hs → ⊥) → Is k → hold_in hs k ≡ NotHeld
  none_of [] k n is = refl
  none_of (h ∷ hs) k n is =
      elim (h.l.0 == k) as (λ b. (h.l.0 == k) ≡ b → (if b then Holds h.mode else hold_in hs k) ≡ NotHeld) [
        | true ↦ λ e. absurd (n (
          0,
          h,
          omega arith,
          refl,
          subst Is (sym (eqb-true h.l.0 k e)) is,
        ))
        | false ↦ λ e. none_of hs k (λ one. n (later_one h hs one)) is
      ] refl

  holds_each : (hs : List HeldLock) (i : ℕ) (d : HeldLock) → i < length hs
      → hold_in hs (get_or hs i d).l.0 ≡ NotHeld → ⊥
  holds_each [] i d lt e = omega (arith, lt)
  holds_each (h ∷ hs) zero d lt e =
      let is : Holds h.mode ≡ NotHeld =
      subst (λ (b : Bool). (if b then Holds h.mode else hold_in hs h.l.0) ≡ NotHeld)
      (eq-eqb h.l.0 h.l.0 refl) e in
      cc
  holds_each (h ∷ hs) (suc i) d lt e =
      let k : ℕ = (get_or hs i d).l.0 in
      elim (h.l.0 == k) as (λ b. (if b then Holds h.mode else hold_in hs k) ≡ NotHeld → ⊥) [
        | true ↦ λ f. cc
        | false ↦ λ f. holds_each hs i d (omega (arith, lt)) f
      ] e

  pub none_by_lock : (hs : List HeldLock)
      → ((k : ℕ) → Is k → hold_in hs k ≡ NotHeld) → HasOne hs → ⊥
  none_by_lock hs n (i, x, lt, at, is) =
      holds_each hs i x lt
      (subst (λ (h : HeldLock). hold_in hs h.l.0 ≡ NotHeld) (sym at) (n x.l.0 is))

-- gained in its turn, and not by a try
abbrev pub is_taken : ℕ → Option HeldLock → Bool
is_taken l None = false
is_taken l (Some h) = h.l.0 == l && not h.by_try

pub last_place : (l : ℕ) (hs : List HeldLock) → is_last l hs ≡ is_taken l (slice_get hs (length hs - 1))
last_place l [] = refl
last_place l (h ∷ []) = refl
last_place l (h ∷ g ∷ hs) =
    let place : length (h ∷ g ∷ hs) - 1 ≡ suc (length (g ∷ hs) - 1) = omega arith in
    rw place (last_place l (g ∷ hs))
