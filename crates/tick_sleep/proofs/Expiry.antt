-- Who times out, one by one: the sleeper with the least due tick, and of equals the one that has slept longest.
use Rattle.std.proofs.Common.{◌≡◌, ℕ, ◌+◌, ◌<◌, ◌≤◌, Bool, true, false, not, cond, nat_lt, List, [], ◌∷◌, ◌++◌, Option, Some, None, filter, find, option_map, unwrap_or, refl, sym, ap, ◌∙◌, inl, inr, arith}
use Rattle.std.proofs.lemmas.Bool.{cases_Bool}
use Rattle.std.proofs.lemmas.Bool.Decides.{nat_tests}
use Rattle.tick_sleep.specs.declared.plan.TickSleeper.{TickSleeper}
use Rattle.tick_sleep.specs.Ticks.{is_of, without, is_reached, is_due, due_of, insert_by_due, by_due, expired, unexpired}
use Rattle.tick_sleep.specs.Rolls.{is_tick, first_at, IsOnce}
use Rattle.tick_sleep.proofs.Once.{found_cases, found_counts, other_before, once_rest, is_of-same, is_of-other}

-- 1. Nobody is due

-- nobody passes a test
none_first : (p : TickSleeper → Bool) (s : TickSleeper) (ss : List TickSleeper) → filter p (s ∷ ss) ≡ [] → (p s ≡ false)
    × (filter p ss ≡ [])
none_first p s ss e = elim (cases_Bool (p s)) [
  | inl h ↦ absurd (let i = rw h at e in cc)
  | inr h ↦ (h, rw h at e)
]

-- who isn't due up to a tick is due up to the next one where that is its tick
reached_next : (n : ℕ) (o : Option ℕ) → is_reached n o ≡ false → is_reached (n + 1) o ≡ is_tick (n + 1) o
reached_next n None e = refl
reached_next n (Some d) e = grind (arith, nat_tests)

none_found : (p : TickSleeper → Bool) (s : TickSleeper) (ss : List TickSleeper)
    → option_map (λ (r : TickSleeper). r.t) (find p (s ∷ ss)) ≡ None → (p s ≡ false)
    × (option_map (λ (r : TickSleeper). r.t) (find p ss) ≡ None)
none_found p s ss e = elim (cases_Bool (p s)) [
  | inl h ↦ absurd (let i = rw h at e in cc)
  | inr h ↦ (h, rw h at e)
]

-- up to a tick, nor at the next one
pub none_due_next : (n : ℕ) (ss : List TickSleeper) → filter (is_due n) ss ≡ [] → first_at (n + 1) ss ≡ None
    → filter (is_due (n + 1)) ss ≡ []
none_due_next n [] e f = refl
none_due_next n (s ∷ ss) e f =
    let h = none_first (is_due n) s ss e in
    let g = none_found (λ r. is_tick (n + 1) r.due) s ss f in
    rw (reached_next n s.due h.0 ∙ g.0) (none_due_next n ss h.1 g.1)

-- one goes
pub none_due_without : (n t : ℕ) (ss : List TickSleeper) → filter (is_due n) ss ≡ []
    → filter (is_due n) (without t ss) ≡ []
none_due_without n t [] e = refl
none_due_without n t (s ∷ ss) e =
    let h = none_first (is_due n) s ss e in
    elim (is_of t s) as (λ b. filter (is_due n) (cond b ss (s ∷ without t ss)) ≡ []) [
      | true ↦ h.1
      | false ↦ rw h.0 (none_due_without n t ss h.1)
    ]

-- some go
pub none_due_filter : (n : ℕ) (p : TickSleeper → Bool) (ss : List TickSleeper) → filter (is_due n) ss ≡ []
    → filter (is_due n) (filter p ss) ≡ []
none_due_filter n p [] e = refl
none_due_filter n p (s ∷ ss) e =
    let h = none_first (is_due n) s ss e in
    elim (p s) as (λ b. filter (is_due n) (cond b (s ∷ filter p ss) (filter p ss)) ≡ []) [
      | true ↦ rw h.0 (none_due_filter n p ss h.1)
      | false ↦ none_due_filter n p ss h.1
    ]

-- then all stay
pub all_stay : (n : ℕ) (ss : List TickSleeper) → filter (is_due n) ss ≡ [] → unexpired n ss ≡ ss
all_stay n [] e = refl
all_stay n (s ∷ ss) e = let h = none_first (is_due n) s ss e in
    rw h.0 (ap (λ (rs : List TickSleeper). s ∷ rs) (all_stay n ss h.1))

-- 2. The next one

tick_is : (tick : ℕ) (o : Option ℕ) → is_tick tick o ≡ true → o ≡ Some tick
tick_is tick None e = absurd cc
tick_is tick (Some d) e = let same : d ≡ tick = grind (arith, nat_tests) in ap (λ (k : ℕ). Some k) same

-- none of them is due before a tick
abbrev NoneBefore : ℕ → List TickSleeper → Type 0
NoneBefore tick [] = Unit {0}
NoneBefore tick (r ∷ rs) = (nat_lt (due_of r) tick ≡ false) × NoneBefore tick rs

before_insert : (tick : ℕ) (s : TickSleeper) (rs : List TickSleeper) → nat_lt (due_of s) tick ≡ false
    → NoneBefore tick rs → NoneBefore tick (insert_by_due s rs)
before_insert tick s [] e h = (e, tt)
before_insert tick s (r ∷ rs) e h =
    elim (nat_lt (due_of r) (due_of s)) as (λ b. NoneBefore tick (cond b (r ∷ insert_by_due s rs) (s ∷ r ∷ rs))) [
      | true ↦ (h.0, before_insert tick s rs e h.1)
      | false ↦ (e, h)
    ]

-- who is due, and wasn't up to a tick
due_after : (n now : ℕ) (o : Option ℕ) → is_reached n o ≡ false → is_reached now o ≡ true
    → nat_lt (unwrap_or o 0) (n + 1) ≡ false
due_after n now None e f = absurd cc
due_after n now (Some d) e f = grind (arith, nat_tests)

none_before : (n now : ℕ) (ss : List TickSleeper) → filter (is_due n) ss ≡ [] → NoneBefore (n + 1) (expired now ss)
none_before n now [] e = tt
none_before n now (s ∷ ss) e =
    let h = none_first (is_due n) s ss e in
    elim (cases_Bool (is_due now s)) [
      | inl d ↦ rw d (before_insert (n + 1) s (expired now ss) (due_after n now s.due h.0 d) (none_before n now ss h.1))
      | inr d ↦ rw d (none_before n now ss h.1)
    ]

-- where none of others is due before it, a sleeper comes before them
comes_first : (s : TickSleeper) (rs : List TickSleeper) → NoneBefore (due_of s) rs → insert_by_due s rs ≡ s ∷ rs
comes_first s [] h = refl
comes_first s (r ∷ rs) h = rw h.0 refl

pub reached_tick : (n now : ℕ) → n < now → is_reached now (Some (n + 1)) ≡ true
reached_tick n now l = grind (arith, nat_tests)

later_tick : (n now : ℕ) (o : Option ℕ) → is_reached n o ≡ false → is_tick (n + 1) o ≡ false → is_reached now o ≡ true
    → nat_lt (n + 1) (unwrap_or o 0) ≡ true
later_tick n now None e f g = absurd cc
later_tick n now (Some d) e f g = grind (arith, nat_tests)

-- Where nobody is due up to n, the one that has slept longest of those that are due at the next tick is the first to
-- time out, and the others follow.
pub next_expired : (n now : ℕ) (ss : List TickSleeper) (s : TickSleeper) → n < now → IsOnce ss
    → filter (is_due n) ss ≡ [] → find (λ r. is_tick (n + 1) r.due) ss ≡ Some s
    → (s.due ≡ Some (n + 1)) × (expired now ss ≡ s ∷ expired now (without s.t.0 ss))
next_expired n now [] s l once e f = absurd cc
next_expired n now (r ∷ ss) s l once e f =
    let h = none_first (is_due n) r ss e in
    elim (found_cases (λ r. is_tick (n + 1) r.due) r ss s f) [
      | inl g ↦
          let due : s.due ≡ Some (n + 1) = ap (λ (x : TickSleeper). x.due) (sym g.1) ∙ tick_is (n + 1) r.due g.0 in
          let there : is_due now s ≡ true = ap (is_reached now) due ∙ reached_tick n now l in
          let tick : due_of s ≡ n + 1 = ap (λ (o : Option ℕ). unwrap_or o 0) due in
          let first : insert_by_due s (expired now ss) ≡ s ∷ expired now ss =
          comes_first s (expired now ss) (rw tick (none_before n now ss h.1)) in
          (due, rw (g.1, there, is_of-same s.t.0 s refl) first)
      | inr g ↦
          let rest = next_expired n now ss s l (once_rest r ss once) h.1 g.1 in
          let other : is_of s.t.0 r ≡ false =
          is_of-other s.t.0 r (other_before r ss s.t.0 once (found_counts (λ r. is_tick (n + 1) r.due) ss s g.1)) in
          let tick : due_of s ≡ n + 1 = ap (λ (o : Option ℕ). unwrap_or o 0) rest.0 in
          elim (cases_Bool (is_due now r)) [
            | inl d ↦ (rest.0, rw (d, other, d, rest.1, tick, later_tick n now r.due h.0 g.0 d) refl)
            | inr d ↦ (rest.0, rw (d, other, d) rest.1)
          ]
    ]

-- 3. What is left

-- the one that timed out is none of those that don't
pub unexpired-without : (now : ℕ) (ss : List TickSleeper) (s : TickSleeper) → find (is_of s.t.0) ss ≡ Some s
    → is_due now s ≡ true → unexpired now (without s.t.0 ss) ≡ unexpired now ss
unexpired-without now [] s f d = refl
unexpired-without now (r ∷ ss) s f d = elim (found_cases (is_of s.t.0) r ss s f) [
  | inl g ↦ rw (g.1, is_of-same s.t.0 s refl, d) refl
  | inr g ↦ rw g.0 (elim (is_due now r) as
      (λ b. cond (not b) (r ∷ unexpired now (without s.t.0 ss)) (unexpired now (without s.t.0 ss)) ≡ cond (not b)
      (r ∷ unexpired now ss) (unexpired now ss)) [
        | true ↦ unexpired-without now ss s g.1 d
        | false ↦ ap (λ (rs : List TickSleeper). r ∷ rs) (unexpired-without now ss s g.1 d)
      ])
]
