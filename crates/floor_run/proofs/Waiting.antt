-- A wait of a script is made under no other lock that blocks on a turnstile; and what a worker has of the calls of a
-- wait and of a waking.
use Rattle.floor_run.proofs.Names
use Names.{ℕ, zero, suc, Bool, true, false, cond, eqb, arith, List, [], length, slice_get, Option, Some, None}
use Names.{option_map, refl, sym, ap, unwrap_or, list_all, and_parts, eqb-true, ltb-true, slice_get-map, passed}
use Names.{NotHeld, Holds, hold_in, is_kind, is_of_kind, operation_tests, wait_tests, chan_lock, lock_kind, Cause}
use Names.{Passes, where_some, is_turnstile, Held, ChanNo, ThreadNo, ChanDecl, Kind, Mtx, Rw, Sx, LockDecl, Mode, Sleep}
use Names.{Plan, bits_of_threads, Knowledge, Description, Waits, Broadcasts, Signals, threads_woken, HasSlept}
use Names.{HasWokenAll, HasWokenOne}
use Rattle.std.proofs.Common.{◌≡◌, ◌≤◌, ◌||◌, ◌∷◌, ◌∙◌}
use Rattle.std.specs.Prelude.{◌==◌}

pub none_past : {A : Type 0} (xs : List A) (i : ℕ) → slice_get xs i ≡ None → length xs ≤ i
none_past [] i e = omega arith
none_past (x ∷ xs) zero e = absurd cc
none_past (x ∷ xs) (suc i) e = omega (arith, none_past xs i e)

-- an sx lock blocks on no turnstile
sleeps : (kind : Kind) → is_kind Sx (Some kind) ≡ true → is_turnstile kind ≡ false
sleeps Mtx e = absurd cc
sleeps Rw e = absurd cc
sleeps Sx e = refl

declared_sx : (o : Option LockDecl) → is_kind Sx (option_map (λ (d : LockDecl). d.kind) o) ≡ true
    → is_turnstile (unwrap_or (option_map (λ (d : LockDecl). d.kind) o) Mtx) ≡ false
declared_sx None e = absurd cc
declared_sx (Some d) e = sleeps d.kind e

module _ (plan : Plan) where
  sx_sleeps : (l : ℕ) → is_of_kind plan.locks Sx (record { 0 = l }) ≡ true → is_turnstile (lock_kind plan l) ≡ false
  sx_sleeps l e =
      ap (λ (o : Option Kind). is_turnstile (unwrap_or o Mtx)) (slice_get-map (λ (d : LockDecl). d.kind) plan.locks l)
      ∙ declared_sx (slice_get plan.locks l) e

  -- where each lock that is held is that one or an sx lock, no other that blocks on a turnstile is held
  module _ (l k : ℕ) (other : k ≡ l → ⊥) (turnstile : is_turnstile (lock_kind plan k) ≡ true) where
    abbrev is_allowed : Held → Bool
    is_allowed h = (h.l.0 == l) || is_of_kind plan.locks Sx h.l

    not_that : (m : ℕ) → m ≡ k → (b : Bool) → (m == l) ≡ b → (b || is_of_kind plan.locks Sx (record { 0 = m })) ≡ true
        → ⊥
    not_that m same true is_l e = other (sym same ∙ eqb-true m l is_l)
    not_that m same false is_l e =
        let z : true ≡ false = sym turnstile ∙ ap (λ (u : ℕ). is_turnstile (lock_kind plan u)) (sym same)
        ∙ sx_sleeps m e in
        cc

    sleepable : (hs : List Held) → list_all is_allowed hs ≡ true → hold_in hs k ≡ NotHeld
    sleepable [] e = refl
    sleepable (h ∷ hs) e =
        let parts = and_parts (is_allowed h) (list_all is_allowed hs) e in
        go (eqb h.l.0 k) refl parts.0 (sleepable hs parts.1)
      where
        go : (b : Bool) → eqb h.l.0 k ≡ b → is_allowed h ≡ true → hold_in hs k ≡ NotHeld
            → cond b (Holds h.mode) (hold_in hs k) ≡ NotHeld
        go true same i rest = absurd (not_that h.l.0 (eqb-true h.l.0 k same) (h.l.0 == l) refl i)
        go false same i rest = rest

  -- so it is where a wait passes its tests
  pub others_sleepable : (d : ChanNo) (hs : List Held) → Passes (operation_tests plan.locks plan.chans (Sleep d) hs)
      → (k : ℕ) → (k ≡ chan_lock plan d.0 → ⊥) → is_turnstile (lock_kind plan k) ≡ true → hold_in hs k ≡ NotHeld
  others_sleepable d hs tests = go (slice_get plan.chans d.0) refl (passed _ _ tests).1
    where
      go : (o : Option ChanDecl) → slice_get plan.chans d.0 ≡ o
          → Passes (where_some (λ (x : ChanDecl). wait_tests plan.locks x.lock hs) o)
          → (k : ℕ) → (k ≡ chan_lock plan d.0 → ⊥) → is_turnstile (lock_kind plan k) ≡ true → hold_in hs k ≡ NotHeld
      go None i q = absurd
          (omega (arith, none_past plan.chans d.0 i, ltb-true d.0 (length plan.chans) (passed _ _ tests).0))
      go (Some x) i q =
          let lock : x.lock.0 ≡ chan_lock plan d.0 =
          sym (ap (λ (o : Option ℕ). unwrap_or o 0) (slice_get-map (λ (c : ChanDecl). c.lock.0) plan.chans d.0
          ∙ ap (option_map (λ (c : ChanDecl). c.lock.0)) i)) in
          λ k other turnstile.
          sleepable x.lock.0 k (λ same. other (same ∙ lock)) turnstile hs (passed _ _ (passed _ _ q).1).0

-- what a wait leaves of the log
pub has_slept : (Releases : Description → ℕ → Knowledge → Knowledge → Type 0)
    (TakesBack : Description → ℕ → Mode → Knowledge → Knowledge → Type 0) (floor : Description) (d : ChanNo)
    (cause : Cause) (old new : Knowledge) → Waits Releases TakesBack floor d cause old new
    → HasSlept floor d cause old new
has_slept Releases TakesBack floor d cause old new w = record { asleep = w.asleep; slept = w.slept; ended = w.ended }

-- and wakings
pub has_woken_one : (floor : Description) (d : ChanNo) (woken : Option ThreadNo) (old new : Knowledge)
    → Signals floor d woken old new → HasWokenOne floor d old new
has_woken_one floor d woken old new s = (bits_of_threads (threads_woken false s.sleepers), s.entry)

pub has_woken_all : (floor : Description) (d : ChanNo) (woken : ℕ) (old new : Knowledge)
    → Broadcasts floor d woken old new → HasWokenAll floor d old new
has_woken_all floor d woken old new s = (bits_of_threads (threads_woken true s.sleepers), s.entry)
