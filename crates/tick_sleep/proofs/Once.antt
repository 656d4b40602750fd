-- Each thread sleeps once: who else there is where one is found, and who is left where one goes.
use Rattle.std.proofs.Common.{◌≡◌, ◌≢◌, ◌⊎◌, ℕ, ◌+◌, ◌≤◌, Bool, true, false, ◌||◌, cond, eqb, List, [], ◌∷◌, ◌++◌, map, find, Option, None, Some, refl, sym, ap, arith, ◌∙◌, inl, inr, eq-eqb}
use Rattle.std.proofs.lemmas.Bool.{cases_Bool, cases_eq, ne_eqb}
use Rattle.lock_model.specs.Counts.{one}
use Rattle.lock_model.specs.Queues.{times_waiting}
use Rattle.tick_sleep.specs.declared.plan.TickSleeper.{TickSleeper}
use Rattle.tick_sleep.specs.Ticks.{is_of, sleeps, without, waiter_of}
use Rattle.tick_sleep.specs.Rolls.{IsOnce}

abbrev pub times_asleep : ℕ → List TickSleeper → ℕ
times_asleep t ss = times_waiting t (map waiter_of ss)

-- 1. Counting

pub is_of-same : (t : ℕ) (s : TickSleeper) → t ≡ s.t.0 → is_of t s ≡ true
is_of-same t s e = eq-eqb s.t.0 t (sym e)

pub is_of-other : (t : ℕ) (s : TickSleeper) → t ≢ s.t.0 → is_of t s ≡ false
is_of-other t s ne = ne_eqb s.t.0 t (λ e. ne (sym e))

-- a sleeper counts for its thread
one_same : (t : ℕ) (s : TickSleeper) → t ≡ s.t.0 → one (eqb t s.t.0) ≡ 1
one_same t s e = ap one (eq-eqb t s.t.0 e)

one_other : (t : ℕ) (s : TickSleeper) → t ≢ s.t.0 → one (eqb t s.t.0) ≡ 0
one_other t s ne = ap one (ne_eqb t s.t.0 ne)

-- a thread sleeps where it counts
pub sleeps_counts : (t : ℕ) (ss : List TickSleeper) → sleeps t ss ≡ true → 1 ≤ times_asleep t ss
sleeps_counts t [] e = absurd cc
sleeps_counts t (s ∷ ss) e = elim (cases_eq t s.t.0) [
  | inl i ↦ let k = one_same t s i in omega arith
  | inr ne ↦ let m = sleeps_counts t ss (rw (is_of-other t s ne) at e) in omega arith
]

pub none_counts : (t : ℕ) (ss : List TickSleeper) → sleeps t ss ≡ false → times_asleep t ss ≡ 0
none_counts t [] e = refl
none_counts t (s ∷ ss) e = elim (cases_eq t s.t.0) [
  | inl i ↦ absurd (let f = rw (is_of-same t s i) at e in cc)
  | inr ne ↦ let k = one_other t s ne in let m = none_counts t ss (rw (is_of-other t s ne) at e) in omega arith
]

pub counts_none : (t : ℕ) (ss : List TickSleeper) → times_asleep t ss ≡ 0 → sleeps t ss ≡ false
counts_none t [] e = refl
counts_none t (s ∷ ss) e = elim (cases_eq t s.t.0) [
  | inl i ↦ absurd (let k = one_same t s i in omega arith)
  | inr ne ↦ rw (is_of-other t s ne) (counts_none t ss (omega arith))
]

pub counts_sleeps : (t : ℕ) (ss : List TickSleeper) → 1 ≤ times_asleep t ss → sleeps t ss ≡ true
counts_sleeps t ss l = elim (cases_Bool (sleeps t ss)) [
  | inl e ↦ e
  | inr e ↦ absurd (let z = none_counts t ss e in omega arith)
]

pub once_rest : (s : TickSleeper) (ss : List TickSleeper) → IsOnce (s ∷ ss) → IsOnce ss
once_rest s ss h = λ t. let k = h t in omega arith

same_some : (a b : TickSleeper) → ◌≡◌ {A = Option TickSleeper} (Some a) (Some b) → a ≡ b
same_some a b e = ap (pick a) e
  where
    pick : TickSleeper → Option TickSleeper → TickSleeper
    pick d None = d
    pick d (Some x) = x

-- the first of a list that is found is its head, or stands behind
pub found_cases : (p : TickSleeper → Bool) (r : TickSleeper) (ss : List TickSleeper) (s : TickSleeper)
    → find p (r ∷ ss) ≡ Some s → ((p r ≡ true) × (r ≡ s)) ⊎ ((p r ≡ false) × (find p ss ≡ Some s))
found_cases p r ss s e = elim (cases_Bool (p r)) [
  | inl i ↦ inl (i, same_some r s (rw i at e))
  | inr i ↦ inr (i, rw i at e)
]

-- who is found counts
pub found_counts : (p : TickSleeper → Bool) (ss : List TickSleeper) (s : TickSleeper) → find p ss ≡ Some s
    → 1 ≤ times_asleep s.t.0 ss
found_counts p [] s e = absurd cc
found_counts p (r ∷ ss) s e = elim (found_cases p r ss s e) [
  | inl h ↦ let k = one_same s.t.0 r (ap (λ (x : TickSleeper). x.t.0) (sym h.1)) in omega arith
  | inr h ↦ let m = found_counts p ss s h.1 in omega arith
]

-- and is of another thread than one before it
pub other_before : (r : TickSleeper) (ss : List TickSleeper) (t : ℕ) → IsOnce (r ∷ ss) → 1 ≤ times_asleep t ss
    → t ≢ r.t.0
other_before r ss t h l = λ e. let k = h t in let c = one_same t r e in absurd (omega arith)

-- 2. One comes or goes

less-without : (u t : ℕ) (ss : List TickSleeper) → times_asleep u (without t ss) ≤ times_asleep u ss
less-without u t [] = omega arith
less-without u t (s ∷ ss) =
    let m = less-without u t ss in
    elim (is_of t s) as (λ b. times_asleep u (cond b ss (s ∷ without t ss)) ≤ one (eqb u s.t.0) + times_asleep u ss) [
      | true ↦ omega arith
      | false ↦ omega arith
    ]

pub once_without : (t : ℕ) (ss : List TickSleeper) → IsOnce ss → IsOnce (without t ss)
once_without t ss h = λ u. let k = less-without u t ss in let l = h u in omega arith

pub times-last : (u : ℕ) (ss : List TickSleeper) (s : TickSleeper)
    → times_asleep u (ss ++ s ∷ []) ≡ times_asleep u ss + one (eqb u s.t.0)
times-last u [] s = omega arith
times-last u (r ∷ ss) s = let m = times-last u ss s in omega arith

-- a thread that doesn't sleep may begin to
pub once_last : (ss : List TickSleeper) (s : TickSleeper) → IsOnce ss → sleeps s.t.0 ss ≡ false → IsOnce (ss ++ s ∷ [])
once_last ss s h none = λ u.
    let k = times-last u ss s in
    let l = h u in
    elim (cases_eq u s.t.0) [
      | inl e ↦ let z : times_asleep u ss ≡ 0 = ap (λ v. times_asleep v ss) e
          ∙ none_counts s.t.0 ss none in let o = one_same u s e in omega arith
      | inr ne ↦ let o = one_other u s ne in omega arith
    ]

-- who sleeps then
pub sleeps-last : (u : ℕ) (ss : List TickSleeper) (s : TickSleeper)
    → sleeps u (ss ++ s ∷ []) ≡ (sleeps u ss || is_of u s)
sleeps-last u [] s = elim (is_of u s) as (λ b. (b || false) ≡ (false || b)) [ true ↦ refl | false ↦ refl ]
sleeps-last u (r ∷ ss) s =
    elim (is_of u r) as (λ b. (b || sleeps u (ss ++ s ∷ [])) ≡ ((b || sleeps u ss) || is_of u s))
    [ true ↦ refl | false ↦ sleeps-last u ss s ]

pub gone-without : (t : ℕ) (ss : List TickSleeper) → IsOnce ss → sleeps t (without t ss) ≡ false
gone-without t [] h = refl
gone-without t (s ∷ ss) h = elim (cases_eq t s.t.0) [
  | inl e ↦ rw (is_of-same t s e) (counts_none t ss (let k = h t in let o = one_same t s e in omega arith))
  | inr ne ↦ rw (is_of-other t s ne, is_of-other t s ne) (gone-without t ss (once_rest s ss h))
]

pub others-without : (u t : ℕ) (ss : List TickSleeper) → u ≢ t → sleeps u (without t ss) ≡ sleeps u ss
others-without u t [] ne = refl
others-without u t (s ∷ ss) ne = elim (cases_eq t s.t.0) [
  | inl e ↦ rw (is_of-same t s e) (sym (rw (is_of-other u s (λ i. ne (i ∙ sym e))) refl))
  | inr d ↦ rw (is_of-other t s d) (ap (λ b. is_of u s || b) (others-without u t ss ne))
]
