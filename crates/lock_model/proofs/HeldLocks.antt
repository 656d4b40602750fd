-- Where a lock stands among those that a thread holds: there it is taken out, and the hold of that place is the lock's.
use Rattle.std.proofs.Common.{◌≡◌, ℕ, suc, ◌+◌, ◌<◌, ◌≤◌, true, false, not, cond, nat_lt, List, [], ◌∷◌, length, get_or, Some, None, refl, ap, subst, arith}
use Rattle.std.specs.Prelude.{◌==◌, remove, position}
use Rattle.std.specs.List.{position_or_len}
use Rattle.std.proofs.lemmas.Bool.{ltb-true}
use Rattle.std.proofs.lemmas.Bool.Decides.{nat_tests}
use Rattle.std.proofs.lemmas.Option.{cond_some}
use Rattle.lock_model.specs.Holds.{NotHeld, Holds}
use Rattle.lock_model.specs.Operations.{holds_lock, hold_in, without_lock}
use Rattle.lock_model.specs.declared.numbers.LockNo.{LockNo}
use Rattle.lock_model.specs.declared.event.Held.{Held}

-- a list's first place that passes, as a number below its length, or none
found : (n k i : ℕ) → cond (nat_lt n k) (Some n) None ≡ Some i → (n < k) × (n ≡ i)
found n k i e = let f = cond_some (nat_lt n k) n i e in (ltb-true n k f.0, f.1)

not_found : (n k : ℕ) → cond (nat_lt n k) (Some n) None ≡ None → k ≤ n
not_found n k e = grind (arith, nat_tests)

-- the lock is taken out at its place,
removed : (l : LockNo) (hs : List Held) → position_or_len (holds_lock l) hs < length hs
    → remove hs (position_or_len (holds_lock l) hs) ≡ without_lock l.0 hs
removed l [] e = absurd (omega arith)
removed l (h ∷ hs) e =
    let n = position_or_len (holds_lock l) hs in
    elim (h.l.0 == l.0) as (λ b. cond (not b) (1 + n) 0 < length (h ∷ hs)
    → remove (h ∷ hs) (cond (not b) (1 + n) 0) ≡ cond b hs (h ∷ without_lock l.0 hs)) [
      | true ↦ λ q. refl
      | false ↦ λ q.
          let next : suc n ≡ 1 + n = omega arith in
          subst (λ m. remove (h ∷ hs) m ≡ h ∷ without_lock l.0 hs) next (ap (λ gs. h ∷ gs) (removed l hs (omega arith)))
    ] e

pub taken_out : (l : LockNo) (hs : List Held) (i : ℕ) → position (holds_lock l) hs ≡ Some i
    → remove hs i ≡ without_lock l.0 hs
taken_out l hs i e =
    let f = found (position_or_len (holds_lock l) hs) (length hs) i e in
    subst (λ (k : ℕ). remove hs k ≡ without_lock l.0 hs) f.1 (removed l hs f.0)

-- and is held as that place says
held : (l : LockNo) (hs : List Held) (d : Held) → position_or_len (holds_lock l) hs < length hs
    → Holds (get_or hs (position_or_len (holds_lock l) hs) d).mode ≡ hold_in hs l.0
held l [] d e = absurd (omega arith)
held l (h ∷ hs) d e =
    let n = position_or_len (holds_lock l) hs in
    elim (h.l.0 == l.0) as (λ b. cond (not b) (1 + n) 0 < length (h ∷ hs)
    → Holds (get_or (h ∷ hs) (cond (not b) (1 + n) 0) d).mode ≡ cond b (Holds h.mode) (hold_in hs l.0)) [
      | true ↦ λ q. refl
      | false ↦ λ q.
          let next : suc n ≡ 1 + n = omega arith in
          subst (λ m. Holds (get_or (h ∷ hs) m d).mode ≡ hold_in hs l.0) next (held l hs d (omega arith))
    ] e

pub held_there : (l : LockNo) (hs : List Held) (i : ℕ) (d : Held) → position (holds_lock l) hs ≡ Some i
    → Holds (get_or hs i d).mode ≡ hold_in hs l.0
held_there l hs i d e =
    let f = found (position_or_len (holds_lock l) hs) (length hs) i e in
    subst (λ (k : ℕ). Holds (get_or hs k d).mode ≡ hold_in hs l.0) f.1 (held l hs d f.0)

-- where it has no place, nothing is taken out, and it isn't held
none : (l : LockNo) (hs : List Held) → length hs ≤ position_or_len (holds_lock l) hs
    → (hs ≡ without_lock l.0 hs) × (NotHeld ≡ hold_in hs l.0)
none l [] e = (refl, refl)
none l (h ∷ hs) e =
    elim (h.l.0 == l.0) as (λ b. length (h ∷ hs) ≤ cond (not b) (1 + position_or_len (holds_lock l) hs) 0
    → (h ∷ hs ≡ cond b hs (h ∷ without_lock l.0 hs)) × (NotHeld ≡ cond b (Holds h.mode) (hold_in hs l.0))) [
      | true ↦ λ q. absurd (omega arith)
      | false ↦ λ q. let r = none l hs (omega arith) in (ap (λ gs. h ∷ gs) r.0, r.1)
    ] e

pub none_taken : (l : LockNo) (hs : List Held) → position (holds_lock l) hs ≡ None → hs ≡ without_lock l.0 hs
none_taken l hs e = (none l hs (not_found (position_or_len (holds_lock l) hs) (length hs) e)).0

pub none_held : (l : LockNo) (hs : List Held) → position (holds_lock l) hs ≡ None → NotHeld ≡ hold_in hs l.0
none_held l hs e = (none l hs (not_found (position_or_len (holds_lock l) hs) (length hs) e)).1
