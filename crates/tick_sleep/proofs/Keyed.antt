-- The sleepers of a key, where one comes or goes, or all of the key go.
use Rattle.std.proofs.Common.{◌≡◌, ◌≢◌, ℕ, ◌+◌, ◌≤◌, Bool, true, false, not, ◌&&◌, cond, eqb, nat_lt, List, [], ◌∷◌, ◌++◌, map, find, None, Some, refl, sym, ap, arith, ◌∙◌, inl, inr, eq-eqb}
use Rattle.std.proofs.lemmas.Bool.{cases_Bool, cases_eq, ne_eqb}
use Rattle.std.proofs.lemmas.Bool.Decides.{nat_tests}
use Rattle.lock_model.specs.Counts.{one}
use Rattle.lock_model.specs.Queues.{Waiter, times_waiting}
use Rattle.lock_model.specs.Queues as queue
use Rattle.tick_sleep.specs.declared.plan.TickSleeper.{TickSleeper}
use Rattle.tick_sleep.specs.Ticks.{is_of, is_on, on_key, off_key, sleeps, without, waiter_of}
use Rattle.tick_sleep.specs.Rolls.{IsOnce}
use Rattle.tick_sleep.proofs.Once.{times_asleep, is_of-same, is_of-other, counts_none, found_cases, found_counts, other_before, once_rest}

-- tests of two numbers are the same either way
eqb_sym : (a b : ℕ) → eqb a b ≡ false → eqb b a ≡ false
eqb_sym a b e = elim (cases_eq b a) [
  | inl i ↦ absurd (let j = eq-eqb a b (sym i) in cc)
  | inr ne ↦ ne_eqb b a ne
]

-- 1. One comes

pub on_key-last : (key : ℕ) (ss : List TickSleeper) (s : TickSleeper)
    → map waiter_of (on_key key (ss ++ s ∷ [])) ≡ cond (is_on key s) (map waiter_of (on_key key ss) ++ waiter_of s ∷ [])
    (map waiter_of (on_key key ss))
on_key-last key [] s =
    elim (is_on key s) as (λ b. map waiter_of (cond b (s ∷ []) []) ≡ cond b ([] ++ waiter_of s ∷ []) [])
    [ true ↦ refl | false ↦ refl ]
on_key-last key (r ∷ ss) s = elim (cases_Bool (is_on key r)) [
  | inl e ↦ rw e (ap (λ (ws : List Waiter). waiter_of r ∷ ws) (on_key-last key ss s) ∙ front (is_on key s))
  | inr e ↦ rw e (on_key-last key ss s)
]
  where
    front : (b : Bool) → waiter_of r ∷ cond b (map waiter_of (on_key key ss) ++ waiter_of s ∷ [])
        (map waiter_of (on_key key ss)) ≡ cond b (waiter_of r ∷ map waiter_of (on_key key ss) ++ waiter_of s ∷ [])
        (waiter_of r ∷ map waiter_of (on_key key ss))
    front true = refl
    front false = refl

-- 2. One goes

-- who is found of a thread is the one that goes
pub on_key-without : (key : ℕ) (ss : List TickSleeper) (s : TickSleeper) → find (is_of s.t.0) ss ≡ Some s
    → map waiter_of (on_key key (without s.t.0 ss)) ≡ cond (is_on key s)
    (queue.without s.t.0 (map waiter_of (on_key key ss))) (map waiter_of (on_key key ss))
on_key-without key [] s f = absurd cc
on_key-without key (r ∷ ss) s f = elim (found_cases (is_of s.t.0) r ss s f) [
  | inl g ↦ rw (g.1, is_of-same s.t.0 s refl) (first (is_on key s))
  | inr g ↦ rw g.0 (behind (is_on key r) (is_on key s) g.0 (on_key-without key ss s g.1))
]
  where
    first : (b : Bool) → map waiter_of (on_key key ss) ≡ cond b
        (queue.without s.t.0 (map waiter_of (cond b (s ∷ on_key key ss) (on_key key ss))))
        (map waiter_of (cond b (s ∷ on_key key ss) (on_key key ss)))
    first true = sym (rw (is_of-same s.t.0 s refl) refl)
    first false = refl

    behind : (b a : Bool) → is_of s.t.0 r ≡ false
        → map waiter_of (on_key key (without s.t.0 ss)) ≡ cond a (queue.without s.t.0 (map waiter_of (on_key key ss)))
        (map waiter_of (on_key key ss))
        → map waiter_of (cond b (r ∷ on_key key (without s.t.0 ss)) (on_key key (without s.t.0 ss))) ≡ cond a
        (queue.without s.t.0 (map waiter_of (cond b (r ∷ on_key key ss) (on_key key ss))))
        (map waiter_of (cond b (r ∷ on_key key ss) (on_key key ss)))
    behind true true o e = rw (eqb_sym r.t.0 s.t.0 o) (ap (λ (ws : List Waiter). waiter_of r ∷ ws) e)
    behind true false o e = ap (λ (ws : List Waiter). waiter_of r ∷ ws) e
    behind false true o e = e
    behind false false o e = e

-- 3. All of a key go

pub on_key-off : (key : ℕ) (ss : List TickSleeper) → map waiter_of (on_key key (off_key key ss)) ≡ []
on_key-off key [] = refl
on_key-off key (s ∷ ss) = elim (cases_Bool (is_on key s)) [
  | inl e ↦ rw e (on_key-off key ss)
  | inr e ↦ rw (e, e) (on_key-off key ss)
]

pub on_key-others : (k key : ℕ) (ss : List TickSleeper) → key ≢ k
    → map waiter_of (on_key k (off_key key ss)) ≡ map waiter_of (on_key k ss)
on_key-others k key [] ne = refl
on_key-others k key (s ∷ ss) ne = elim (cases_eq s.key key) [
  | inl e ↦ let here : is_on key s ≡ true = eq-eqb s.key key e in let there : is_on k s ≡ false =
      ne_eqb s.key k (λ i. ne (sym e ∙ i)) in rw (here, there) (on_key-others k key ss ne)
  | inr d ↦ let here : is_on key s ≡ false = ne_eqb s.key key d in
      rw here (elim (is_on k s) as
      (λ b. map waiter_of (cond b (s ∷ on_key k (off_key key ss)) (on_key k (off_key key ss))) ≡ map waiter_of
      (cond b (s ∷ on_key k ss) (on_key k ss))) [
        | true ↦ ap (λ (ws : List Waiter). waiter_of s ∷ ws) (on_key-others k key ss ne)
        | false ↦ on_key-others k key ss ne
      ])
]

pub less_on : (u key : ℕ) (ss : List TickSleeper) → times_waiting u (map waiter_of (on_key key ss)) ≤ times_asleep u ss
less_on u key [] = omega arith
less_on u key (s ∷ ss) = let m = less_on u key ss in
    elim (is_on key s) as
    (λ b. times_waiting u (map waiter_of (cond b (s ∷ on_key key ss) (on_key key ss))) ≤ one (eqb u s.t.0) +
    times_asleep u ss) [
      | true ↦ omega arith
      | false ↦ omega arith
    ]

-- who sleeps then
pub sleeps-off : (u key : ℕ) (ss : List TickSleeper) → IsOnce ss
    → sleeps u (off_key key ss) ≡ (sleeps u ss && not (nat_lt 0 (times_waiting u (map waiter_of (on_key key ss)))))
sleeps-off u key [] once = refl
sleeps-off u key (s ∷ ss) once =
    let more = sleeps-off u key ss (once_rest s ss once) in
    let less = less_on u key ss in
    let count = once u in
    elim (cases_eq u s.t.0) [
      | inl e ↦
          let c : one (eqb u s.t.0) ≡ 1 = ap one (eq-eqb u s.t.0 e) in
          let none : times_asleep u ss ≡ 0 = omega (arith, c, count) in
          let z : times_waiting u (map waiter_of (on_key key ss)) ≡ 0 = omega (arith, none, less) in
          let gone = counts_none u ss none in
          elim (cases_Bool (is_on key s)) [
            | inl i ↦ rw (i, is_of-same u s e, eq-eqb u s.t.0 e)
                (more ∙ rw gone (first (times_waiting u (map waiter_of (on_key key ss)))))
            | inr i ↦ rw (i, is_of-same u s e, z) refl
          ]
      | inr ne ↦
          elim (cases_Bool (is_on key s)) [
            | inl i ↦ rw (i, is_of-other u s ne, ne_eqb u s.t.0 ne)
                (more ∙ ap (λ (n : ℕ). sleeps u ss && not (nat_lt 0 n))
                (plus_zero (times_waiting u (map waiter_of (on_key key ss)))))
            | inr i ↦ rw (i, is_of-other u s ne) more
          ]
    ]
  where
    plus_zero : (n : ℕ) → n ≡ 0 + n
    plus_zero n = omega arith

    first : (n : ℕ) → false ≡ (true && not (nat_lt 0 (1 + n)))
    first n = grind (arith, nat_tests)

-- the one that has slept longest of a key, and the others
pub first_on : (key : ℕ) (ss : List TickSleeper) (s : TickSleeper) → IsOnce ss → find (is_on key) ss ≡ Some s
    → (on_key key ss ≡ s ∷ on_key key (without s.t.0 ss)) × (off_key key (without s.t.0 ss) ≡ off_key key ss)
first_on key [] s once f = absurd cc
first_on key (r ∷ ss) s once f = elim (found_cases (is_on key) r ss s f) [
  | inl g ↦ rw (g.0, g.1, is_of-same s.t.0 s refl) (refl, refl)
  | inr g ↦
      let m = first_on key ss s (once_rest r ss once) g.1 in
      let other : is_of s.t.0 r ≡ false =
      is_of-other s.t.0 r (other_before r ss s.t.0 once (found_counts (is_on key) ss s g.1)) in
      rw (g.0, other, g.0) (m.0, ap (λ (rs : List TickSleeper). r ∷ rs) m.1)
]

pub none_on : (key : ℕ) (ss : List TickSleeper) → find (is_on key) ss ≡ None → (on_key key ss ≡ [])
    × (off_key key ss ≡ ss)
none_on key [] f = (refl, refl)
none_on key (s ∷ ss) f = elim (cases_Bool (is_on key s)) [
  | inl e ↦ absurd (let g = rw e at f in cc)
  | inr e ↦ let m = none_on key ss (rw e at f) in rw e (m.0, ap (λ (rs : List TickSleeper). s ∷ rs) m.1)
]

-- who counts on a key is the thread's sleeper
pub counts_on : (key : ℕ) (ss : List TickSleeper) (t : ℕ) → IsOnce ss
    → 1 ≤ times_waiting t (map waiter_of (on_key key ss)) → (s : TickSleeper) × (find (is_of t) ss ≡ Some s)
    × (s.key ≡ key) × (s.t.0 ≡ t)
counts_on key [] t once l = absurd (omega arith)
counts_on key (s ∷ ss) t once l = elim (cases_eq t s.t.0) [
  | inl e ↦ elim (cases_Bool (is_on key s)) [
    | inl i ↦ (s, rw (is_of-same t s e) refl, let same : s.key ≡ key = grind (arith, nat_tests, i) in same, sym e)
    | inr i ↦
        let c : one (eqb t s.t.0) ≡ 1 = ap one (eq-eqb t s.t.0 e) in
        let less = less_on t key ss in
        let count = once t in
        let more : 1 ≤ times_waiting t (map waiter_of (on_key key ss)) = rw i at l in
        absurd (omega (arith, c, less, count, more))
  ]
  | inr ne ↦
      let more : 1 ≤ times_waiting t (map waiter_of (on_key key ss)) =
      behind (is_on key s) l (ap one (ne_eqb t s.t.0 ne)) in
      let m = counts_on key ss t (once_rest s ss once) more in
      (m.0, rw (is_of-other t s ne) m.1, m.2, m.3)
]
  where
    behind : (b : Bool) → 1 ≤ times_waiting t (map waiter_of (cond b (s ∷ on_key key ss) (on_key key ss)))
        → one (eqb t s.t.0) ≡ 0 → 1 ≤ times_waiting t (map waiter_of (on_key key ss))
    behind true i z = omega (arith, i, z)
    behind false i z = i

-- a thread's sleeper counts on its key
pub on_counts : (t : ℕ) (ss : List TickSleeper) (s : TickSleeper) → find (is_of t) ss ≡ Some s
    → 1 ≤ times_waiting t (map waiter_of (on_key s.key ss))
on_counts t [] s f = absurd cc
on_counts t (r ∷ ss) s f = elim (found_cases (is_of t) r ss s f) [
  | inl g ↦ rw (g.1, eq-eqb s.key s.key refl)
      (let same : t ≡ s.t.0 = thread_is g.0 g.1 in let c : one (eqb t s.t.0) ≡ 1 = ap one (eq-eqb t s.t.0 same) in
      omega (arith, c))
  | inr g ↦ behind (is_on s.key r) (on_counts t ss s g.1)
]
  where
    thread_is : is_of t r ≡ true → r ≡ s → t ≡ s.t.0
    thread_is i j = let k : r.t.0 ≡ t = grind (arith, nat_tests, i) in sym k ∙ ap (λ (x : TickSleeper). x.t.0) j

    behind : (b : Bool) → 1 ≤ times_waiting t (map waiter_of (on_key s.key ss))
        → 1 ≤ times_waiting t (map waiter_of (cond b (r ∷ on_key s.key ss) (on_key s.key ss)))
    behind true l = omega (arith, l)
    behind false l = l
