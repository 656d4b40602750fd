-- Laws of the lists of a queue: what a waiter that comes, goes or is put in anew leaves as it was.
use Rattle.std.proofs.Common.{◌≡◌, ℕ, suc, ◌+◌, ◌≤◌, Bool, true, false, cond, eqb, leb, nat_lt, List, [], ◌∷◌, length, Option, Some, None, refl, ap, inl, inr, arith, eq-eqb}
use Rattle.std.proofs.lemmas.Bool.{cases_Bool, cases_eq, ne_eqb, leb-true, leb-false}
use Rattle.lock_model.specs.Counts.{one}
use Rattle.lock_model.specs.Queues.{Waiter, times_waiting, insert, with_last, better, best_of, one_or_none, without, entry_of, without_best, taken_off, left_on, reinsert, Ascends}

-- 1. One comes

pub times_waiting-insert : (t : ℕ) (w : Waiter) (ws : List Waiter)
    → times_waiting t (insert w ws) ≡ one (eqb t w.thread) + times_waiting t ws
times_waiting-insert t w [] = refl
times_waiting-insert t w (v ∷ vs) =
    let i = times_waiting-insert t w vs in
    elim (leb v.kept w.kept) as (λ b. times_waiting t (cond b (v ∷ insert w vs) (w ∷ v ∷ vs)) ≡ one (eqb t w.thread)
    + (one (eqb t v.thread) + times_waiting t vs)) [
      | true ↦ omega arith
      | false ↦ refl
    ]

pub length-insert : (w : Waiter) (ws : List Waiter) → length (insert w ws) ≡ suc (length ws)
length-insert w [] = refl
length-insert w (v ∷ vs) =
    let i = length-insert w vs in
    elim (leb v.kept w.kept) as (λ b. length (cond b (v ∷ insert w vs) (w ∷ v ∷ vs)) ≡ suc (suc (length vs))) [
      | true ↦ omega arith
      | false ↦ refl
    ]

-- with one more waiter in front, that isn't behind the first
abbrev pub Below : Waiter → List Waiter → Type 0
Below v [] = Unit {0}
Below v (w ∷ ws) = v.kept ≤ w.kept

below-insert : (v w : Waiter) (ws : List Waiter) → v.kept ≤ w.kept → Below v ws → Below v (insert w ws)
below-insert v w [] l b = l
below-insert v w (u ∷ us) l b =
    elim (leb u.kept w.kept) as (λ x. Below v (cond x (u ∷ insert w us) (w ∷ u ∷ us))) [ true ↦ b | false ↦ l ]

pub ascends-cons : (v : Waiter) (ws : List Waiter) → Below v ws → Ascends ws → Ascends (v ∷ ws)
ascends-cons v [] b a = tt
ascends-cons v (w ∷ ws) b a = (b, a)

pub ascends-tail : (v : Waiter) (ws : List Waiter) → Ascends (v ∷ ws) → Below v ws × Ascends ws
ascends-tail v [] a = (tt, tt)
ascends-tail v (w ∷ ws) a = a

pub ascends-insert : (w : Waiter) (ws : List Waiter) → Ascends ws → Ascends (insert w ws)
ascends-insert w [] a = tt
ascends-insert w (v ∷ vs) a =
    let b = ascends-tail v vs a in
    let i = ascends-insert w vs b.1 in
    elim (cases_Bool (leb v.kept w.kept)) [
      | inl e ↦ rw e (ascends-cons v (insert w vs) (below-insert v w vs (leb-true v.kept w.kept e) b.0) i)
      | inr e ↦ rw e (let l : w.kept ≤ v.kept = omega (arith, leb-false v.kept w.kept e) in (l, a))
    ]

pub times_waiting-last : (t : ℕ) (w : Waiter) (ws : List Waiter)
    → times_waiting t (with_last w ws) ≡ one (eqb t w.thread) + times_waiting t ws
times_waiting-last t w [] = refl
times_waiting-last t w (v ∷ vs) = omega (arith, times_waiting-last t w vs)

pub length-last : (w : Waiter) (ws : List Waiter) → length (with_last w ws) ≡ suc (length ws)
length-last w [] = refl
length-last w (v ∷ vs) = omega (arith, length-last w vs)

-- 2. One goes

-- the entry that is taken out is counted again by the one that is put in
pub times_waiting-without : (u t : ℕ) (ws : List Waiter) → 1 ≤ times_waiting t ws
    → times_waiting u (without t ws) + one (eqb u t) ≡ times_waiting u ws
times_waiting-without u t [] l = absurd (omega arith)
times_waiting-without u t (w ∷ ws) l =
    elim (cases_eq t w.thread) [
      | inl e ↦ rw (← e, eq-eqb t t refl) (omega arith)
      | inr e ↦ rw (ne_eqb t w.thread e) (let z : one (eqb t w.thread) ≡ 0 = ap one (ne_eqb t w.thread e) in
          omega (arith, times_waiting-without u t ws (omega arith)))
    ]

pub length-without : (t : ℕ) (ws : List Waiter) → 1 ≤ times_waiting t ws → suc (length (without t ws)) ≡ length ws
length-without t [] l = absurd (omega arith)
length-without t (w ∷ ws) l =
    elim (cases_eq t w.thread) [
      | inl e ↦ rw (← e, eq-eqb t t refl) refl
      | inr e ↦ rw (ne_eqb t w.thread e) (let z : one (eqb t w.thread) ≡ 0 = ap one (ne_eqb t w.thread e) in
          omega (arith, length-without t ws (omega arith)))
    ]

below-without : (v : Waiter) (t : ℕ) (ws : List Waiter) → Below v ws → Ascends ws → Below v (without t ws)
below-without v t [] b a = tt
below-without v t (w ∷ []) b a = elim (eqb t w.thread) as (λ x. Below v (cond x [] (w ∷ []))) [ true ↦ tt | false ↦ b ]
below-without v t (w ∷ u ∷ us) b a = elim (eqb t w.thread)
    as (λ x. Below v (cond x (u ∷ us) (w ∷ without t (u ∷ us)))) [ true ↦ omega arith | false ↦ b ]

pub ascends-without : (t : ℕ) (ws : List Waiter) → Ascends ws → Ascends (without t ws)
ascends-without t [] a = tt
ascends-without t (w ∷ ws) a =
    let b = ascends-tail w ws a in
    elim (eqb t w.thread) as (λ x. Ascends (cond x ws (w ∷ without t ws))) [
      | true ↦ b.1
      | false ↦ ascends-cons w (without t ws) (below-without w t ws b.0 b.1) (ascends-without t ws b.1)
    ]

-- 3. The best goes, or the entry of a thread

pub best_stands : (ws : List Waiter) (w : Waiter) → best_of ws ≡ Some w → 1 ≤ times_waiting w.thread ws
best_stands [] w e = absurd cc
best_stands (v ∷ vs) w e = go (best_of vs) (λ u i. best_stands vs u i) e
  where
    same : (x y : Waiter) → ◌≡◌ {A = Option Waiter} (Some x) (Some y) → x ≡ y
    same x y i = ap (waiter_or x) i
      where
        waiter_or : Waiter → Option Waiter → Waiter
        waiter_or d None = d
        waiter_or d (Some u) = u

    first : v ≡ w → 1 ≤ one (eqb w.thread v.thread) + times_waiting w.thread vs
    first i = rw (← i, eq-eqb v.thread v.thread refl) (omega arith)

    go : (o : Option Waiter) → ((u : Waiter) → o ≡ Some u → 1 ≤ times_waiting u.thread vs) → Some (better v o) ≡ Some w
        → 1 ≤ one (eqb w.thread v.thread) + times_waiting w.thread vs
    go None f i = first (same v w i)
    go (Some u) f i = later (nat_lt u.kept v.kept) i
      where
        later : (b : Bool) → ◌≡◌ {A = Option Waiter} (Some (cond b u v)) (Some w)
            → 1 ≤ one (eqb w.thread v.thread) + times_waiting w.thread vs
        later true j = let k = f w (ap Some (same u w j)) in omega arith
        later false j = first (same v w j)

pub times-taken : (t : ℕ) (all : Bool) (ws : List Waiter)
    → times_waiting t (taken_off all ws) + times_waiting t (left_on all ws) ≡ times_waiting t ws
times-taken t true ws = omega arith
times-taken t false ws = go (best_of ws) refl
  where
    go : (o : Option Waiter) → best_of ws ≡ o
        → times_waiting t (one_or_none o) + times_waiting t (without_best o ws) ≡ times_waiting t ws
    go None e = omega arith
    go (Some w) e = omega (arith, times_waiting-without t w.thread ws (best_stands ws w e))

pub length-taken : (all : Bool) (ws : List Waiter) → length (taken_off all ws) + length (left_on all ws) ≡ length ws
length-taken true ws = omega arith
length-taken false ws = go (best_of ws) refl
  where
    go : (o : Option Waiter) → best_of ws ≡ o → length (one_or_none o) + length (without_best o ws) ≡ length ws
    go None e = omega arith
    go (Some w) e = omega (arith, length-without w.thread ws (best_stands ws w e))

pub times-entry : (u t : ℕ) (ws : List Waiter)
    → times_waiting u (one_or_none (entry_of t ws)) + times_waiting u (without t ws) ≡ times_waiting u ws
times-entry u t [] = refl
times-entry u t (w ∷ ws) =
    let rest = times-entry u t ws in
    elim (eqb t w.thread) as (λ b. times_waiting u (one_or_none (cond b (Some w) (entry_of t ws)))
    + times_waiting u (cond b ws (w ∷ without t ws)) ≡ one (eqb u w.thread) + times_waiting u ws) [
      | true ↦ omega arith
      | false ↦ omega arith
    ]

pub length-entry : (t : ℕ) (ws : List Waiter) → length (one_or_none (entry_of t ws)) + length (without t ws) ≡ length ws
length-entry t [] = refl
length-entry t (w ∷ ws) =
    let rest = length-entry t ws in
    elim (eqb t w.thread) as (λ b. length (one_or_none (cond b (Some w) (entry_of t ws)))
    + length (cond b ws (w ∷ without t ws)) ≡ suc (length ws)) [
      | true ↦ omega arith
      | false ↦ omega arith
    ]

-- 4. One is put in anew

-- what holds of a list where nothing is put in, and of one where the entry is put in anew
pub by_reinsert : (P : List Waiter → Type 0) (t p : ℕ) (ws : List Waiter) → (times_waiting t ws ≡ 0 → P ws)
    → (1 ≤ times_waiting t ws → P (insert (record { thread = t; kept = p }) (without t ws))) → P (reinsert t p ws)
by_reinsert P t p ws none some =
    elim (cases_eq (times_waiting t ws) 0) [
      | inl e ↦ rw (eq-eqb (times_waiting t ws) 0 e) (none e)
      | inr e ↦ rw (ne_eqb (times_waiting t ws) 0 e) (some (omega arith))
    ]

pub times_waiting-reinsert : (u t p : ℕ) (ws : List Waiter) → times_waiting u (reinsert t p ws) ≡ times_waiting u ws
times_waiting-reinsert u t p ws =
    by_reinsert (λ x. times_waiting u x ≡ times_waiting u ws) t p ws (λ e. refl)
    (λ l. omega
    (arith, times_waiting-insert u (record { thread = t; kept = p }) (without t ws), times_waiting-without u t ws l))

pub length-reinsert : (t p : ℕ) (ws : List Waiter) → length (reinsert t p ws) ≡ length ws
length-reinsert t p ws =
    by_reinsert (λ x. length x ≡ length ws) t p ws (λ e. refl)
    (λ l. omega (arith, length-insert (record { thread = t; kept = p }) (without t ws), length-without t ws l))

pub ascends-reinsert : (t p : ℕ) (ws : List Waiter) → Ascends ws → Ascends (reinsert t p ws)
ascends-reinsert t p ws a = by_reinsert Ascends t p ws (λ e. a)
    (λ l. ascends-insert (record { thread = t; kept = p }) (without t ws) (ascends-without t ws a))
