-- The list of the locks that a thread holds, with one lock more or without one: each lock once, and what the column
-- of a state says of it.
use Rattle.lock_objects.proofs.Names
use Names.{ℕ, true, false, cond, List, [], refl, sym, ap, arith, inl, inr, eq-eqb, cases_eq, ne_eqb, hold_in}
use Names.{without_lock, Hold, NotHeld, Holds, Held, put_at, put_at_same, put_at_beside, Apart, hold_in-push}
use Names.{hold_in-without, holds_of}
use Rattle.std.proofs.Common.{◌≡◌, ◌≢◌, ◌+◌, ◌≤◌, ◌∷◌, ◌++◌, ◌∙◌}
use Rattle.std.specs.Prelude.{◌==◌}

-- 1. Each lock once

counted : (k l : ℕ) → k ≡ l → cond {A = ℕ} (k == l) 1 0 ≡ 1
counted k l e = ap (λ b. cond b 1 0) (eq-eqb k l e)

uncounted : (k l : ℕ) → k ≢ l → cond {A = ℕ} (k == l) 1 0 ≡ 0
uncounted k l n = ap (λ b. cond b 1 0) (ne_eqb k l n)

none_of : (l : ℕ) (hs : List Held) → hold_in hs l ≡ NotHeld → holds_of l hs ≡ 0
none_of l [] e = refl
none_of l (h ∷ hs) e =
    elim (h.l.0 == l) as (λ b. cond b (Holds h.mode) (hold_in hs l) ≡ NotHeld → cond b 1 0 + holds_of l hs ≡ 0) [
      | true ↦ λ q. absurd (cc)
      | false ↦ λ q. omega (arith, none_of l hs q)
    ] e

unheld_of : (l : ℕ) (hs : List Held) → holds_of l hs ≡ 0 → hold_in hs l ≡ NotHeld
unheld_of l [] e = refl
unheld_of l (h ∷ hs) e =
    elim (h.l.0 == l) as (λ b. cond b 1 0 + holds_of l hs ≡ 0 → cond b (Holds h.mode) (hold_in hs l) ≡ NotHeld) [
      | true ↦ λ q. absurd (omega arith)
      | false ↦ λ q. unheld_of l hs (omega arith)
    ] e

-- so the locks of the list are apart
pub apart_once : (hs : List Held) → ((l : ℕ) → holds_of l hs ≤ 1) → Apart hs
apart_once [] once = tt
apart_once (h ∷ hs) once = (
  unheld_of h.l.0 hs (omega (arith, counted h.l.0 h.l.0 refl, once h.l.0)),
  apart_once hs (λ l. omega (arith, once l)),
)

-- with one lock more
holds_of-push : (l : ℕ) (hs : List Held) (x : Held) → holds_of l (hs ++ x ∷ []) ≡ holds_of l hs + cond (x.l.0 == l) 1 0
holds_of-push l [] x = omega arith
holds_of-push l (h ∷ hs) x = omega (arith, holds_of-push l hs x)

pub once_push : (hs : List Held) (x : Held) → hold_in hs x.l.0 ≡ NotHeld → ((l : ℕ) → holds_of l hs ≤ 1) → (l : ℕ)
    → holds_of l (hs ++ x ∷ []) ≤ 1
once_push hs x new once l =
    elim (cases_eq x.l.0 l) [
      | inl e ↦
          let none : holds_of l hs ≡ 0 = none_of l hs (ap (hold_in hs) (sym e) ∙ new) in
          omega (arith, none, counted x.l.0 l e, holds_of-push l hs x)
      | inr e ↦ omega (arith, uncounted x.l.0 l e, holds_of-push l hs x, once l)
    ]

-- and without one
holds_of-without : (k l : ℕ) (hs : List Held) → holds_of k (without_lock l hs) ≤ holds_of k hs
holds_of-without k l [] = omega arith
holds_of-without k l (h ∷ hs) =
    elim (h.l.0 == l) as (λ b. holds_of k (cond b hs (h ∷ without_lock l hs)) ≤ cond (h.l.0 == k) 1 0 + holds_of k hs) [
      | true ↦ omega arith
      | false ↦ omega (arith, holds_of-without k l hs)
    ]

pub once_without : (l : ℕ) (hs : List Held) → ((k : ℕ) → holds_of k hs ≤ 1) → (k : ℕ)
    → holds_of k (without_lock l hs) ≤ 1
once_without l hs once k = omega (arith, holds_of-without k l hs, once k)

-- 2. The column of what is held

pub column_push : (held : ℕ → ℕ → Hold) (t : ℕ) (hs : List Held) (x : Held) → held t x.l.0 ≡ NotHeld
    → ((l : ℕ) → hold_in hs l ≡ held t l) → (l : ℕ) → hold_in (hs ++ x ∷ []) l ≡ put_at held t x.l.0 (Holds x.mode) t l
column_push held t hs x new shows l =
    let pushed = hold_in-push hs x l (shows x.l.0 ∙ new) in
    elim (cases_eq x.l.0 l) [
      | inl e ↦ pushed ∙ ap (λ b. cond b (Holds x.mode) (hold_in hs l)) (eq-eqb x.l.0 l e)
          ∙ sym (put_at_same held t x.l.0 (Holds x.mode)) ∙ ap (put_at held t x.l.0 (Holds x.mode) t) e
      | inr e ↦ pushed ∙ ap (λ b. cond b (Holds x.mode) (hold_in hs l)) (ne_eqb x.l.0 l e) ∙ shows l
          ∙ sym (put_at_beside held t x.l.0 (Holds x.mode) t l e)
    ]

pub column_without : (held : ℕ → ℕ → Hold) (t l : ℕ) (hs : List Held) → ((k : ℕ) → holds_of k hs ≤ 1)
    → ((k : ℕ) → hold_in hs k ≡ held t k) → (k : ℕ) → hold_in (without_lock l hs) k ≡ put_at held t l NotHeld t k
column_without held t l hs once shows k =
    let left = hold_in-without l hs k (apart_once hs once) in
    elim (cases_eq l k) [
      | inl e ↦ left ∙ ap (λ b. cond b NotHeld (hold_in hs k)) (eq-eqb l k e) ∙ sym (put_at_same held t l NotHeld)
          ∙ ap (put_at held t l NotHeld t) e
      | inr e ↦ left ∙ ap (λ b. cond b NotHeld (hold_in hs k)) (ne_eqb l k e) ∙ shows k
          ∙ sym (put_at_beside held t l NotHeld t k e)
    ]
