-- Endtrys take no turn: a thread goes on at the first operation from a place on that is none.
use Rattle.lock_laws.proofs.Names.{ℕ, zero, suc, Bool, true, false, cond, List, [], slice_get, Some, refl, sym, ap}
use Rattle.lock_laws.proofs.Names.{arith, subst, none-some, same_Some, is_endtry, next_at, Op, EndTry}
use Rattle.std.proofs.Common.{◌≡◌, ◌≢◌, ◌∷◌}

endtry_is : (op : Op) → is_endtry op ≡ true → Some op ≡ Some EndTry
endtry_is op e = grind arith

-- the next place of a list is that of its rest
next_behind : (op : Op) (ops : List Op) (n : ℕ) → next_at (op ∷ ops) (suc n) ≡ suc (next_at ops n)
next_behind op ops n = omega arith

next_here : (op : Op) (ops : List Op) → next_at (op ∷ ops) 0 ≡ cond (is_endtry op) (suc (next_at ops 0)) 0
next_here op ops = grind arith

next_past : (n : ℕ) → next_at [] n ≡ n
next_past zero = refl
next_past (suc n) = omega arith

-- what holds at a place and passes each endtry holds where the thread goes on
pub at_next : (P : ℕ → Type 0) (ops : List Op) (n : ℕ) → ((m : ℕ) → slice_get ops m ≡ Some EndTry → P m → P (suc m))
    → P n → P (next_at ops n)
at_next P [] n passes h = subst P (sym (next_past n)) h
at_next P (op ∷ ops) (suc n) passes h =
    subst P (sym (next_behind op ops n)) (at_next (λ m. P (suc m)) ops n (λ m. passes (suc m)) h)
at_next P (op ∷ ops) zero passes h =
    subst P (sym (next_here op ops)) (go (is_endtry op) refl (at_next (λ m. P (suc m)) ops 0 (λ m. passes (suc m))))
  where
    go : (b : Bool) → is_endtry op ≡ b → (P 1 → P (suc (next_at ops 0))) → P (cond b (suc (next_at ops 0)) 0)
    go true e rest = rest (passes 0 (endtry_is op e) h)
    go false e rest = h

-- there no endtry stands
pub next_is_none : (ops : List Op) (n : ℕ) → slice_get ops (next_at ops n) ≢ Some EndTry
next_is_none [] n e = absurd (none-some EndTry e)
next_is_none (op ∷ ops) (suc n) e =
    next_is_none ops n (subst (λ m. slice_get (op ∷ ops) m ≡ Some EndTry) (next_behind op ops n) e)
next_is_none (op ∷ ops) zero e =
    go (is_endtry op) refl (next_is_none ops 0) (subst (λ m. slice_get (op ∷ ops) m ≡ Some EndTry) (next_here op ops) e)
  where
    go : (b : Bool) → is_endtry op ≡ b → (slice_get ops (next_at ops 0) ≢ Some EndTry)
        → slice_get (op ∷ ops) (cond b (suc (next_at ops 0)) 0) ≡ Some EndTry → ⊥
    go true f rest i = rest i
    go false f rest i = let z : is_endtry op ≡ true = ap is_endtry (same_Some op EndTry i) in cc
