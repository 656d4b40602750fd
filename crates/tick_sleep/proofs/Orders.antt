-- The law of who times out: those whose due tick is reached, each tick's in order of arrival, and ticks ascend.
use Rattle.std.proofs.Common.{◌≡◌, ℕ, ◌≤◌, Bool, true, false, ◌&&◌, ◌||◌, ◌==◌, cond, nat_lt, List, [], ◌∷◌, filter, refl, ap, arith, ◌∙◌, inl, inr}
use Rattle.std.specs.List.{list_any}
use Rattle.std.proofs.lemmas.Bool.{cases_Bool}
use Rattle.std.proofs.lemmas.Bool.Decides.{nat_tests}
use Rattle.tick_sleep.specs.Ticks.{is_due, is_of, due_of, insert_by_due, by_due, expired}
use Rattle.tick_sleep.specs.Expiry.{Ascends, TimesOutWhereDue}
use Rattle.tick_sleep.specs.declared.plan.TickSleeper.{TickSleeper}

any_insert : (p : TickSleeper → Bool) (s : TickSleeper) (rs : List TickSleeper)
    → list_any p (insert_by_due s rs) ≡ (p s || list_any p rs)
any_insert p s [] = refl
any_insert p s (r ∷ rs) =
    elim (nat_lt (due_of r) (due_of s)) as
    (λ b. list_any p (cond b (r ∷ insert_by_due s rs) (s ∷ r ∷ rs)) ≡ (p s || (p r || list_any p rs))) [
      | true ↦ ap (λ b. p r || b) (any_insert p s rs) ∙ swap (p r) (p s) (list_any p rs)
      | false ↦ refl
    ]
  where
    swap : (a b c : Bool) → (a || (b || c)) ≡ (b || (a || c))
    swap true true c = refl
    swap true false c = refl
    swap false true c = refl
    swap false false c = refl

-- who times out is a sleeper whose due tick is reached
pub exactly : (p : TickSleeper → Bool) (now : ℕ) (ss : List TickSleeper)
    → list_any p (expired now ss) ≡ list_any (λ s. p s && is_due now s) ss
exactly p now [] = refl
exactly p now (s ∷ ss) = elim (cases_Bool (is_due now s)) [
  | inl e ↦ rw e (any_insert p s (expired now ss) ∙ by_and (p s) (exactly p now ss))
  | inr e ↦ rw e (exactly p now ss ∙ by_none (p s))
]
  where
    by_and : (b : Bool) → list_any p (expired now ss) ≡ list_any (λ s. p s && is_due now s) ss
        → (b || list_any p (expired now ss)) ≡ ((b && true) || list_any (λ s. p s && is_due now s) ss)
    by_and true e = refl
    by_and false e = e

    by_none : (b : Bool) → list_any (λ s. p s && is_due now s) ss ≡
        ((b && false) || list_any (λ s. p s && is_due now s) ss)
    by_none true = refl
    by_none false = refl

pub times_out_where_due : TimesOutWhereDue
times_out_where_due = λ t tick ss. exactly (is_of t) tick ss

below : TickSleeper → List TickSleeper → Type 0
below s [] = Unit {0}
below s (r ∷ rs) = due_of s ≤ due_of r

cons_ascends : (s : TickSleeper) (rs : List TickSleeper) → below s rs → Ascends rs → Ascends (s ∷ rs)
unfolding below
cons_ascends s [] b a = tt
cons_ascends s (r ∷ rs) b a = (b, a)

tail_ascends : (s : TickSleeper) (rs : List TickSleeper) → Ascends (s ∷ rs) → below s rs × Ascends rs
unfolding below
tail_ascends s [] a = (tt, tt)
tail_ascends s (r ∷ rs) a = a

below_insert : (r s : TickSleeper) (rs : List TickSleeper) → due_of r ≤ due_of s → below r rs
    → below r (insert_by_due s rs)
unfolding below
below_insert r s [] l b = l
below_insert r s (q ∷ rs) l b =
    elim (nat_lt (due_of q) (due_of s)) as (λ x. below r (cond x (q ∷ insert_by_due s rs) (s ∷ q ∷ rs)))
    [ true ↦ b | false ↦ l ]

ascends_insert : (s : TickSleeper) (rs : List TickSleeper) → Ascends rs → Ascends (insert_by_due s rs)
unfolding below
ascends_insert s [] a = tt
ascends_insert s (r ∷ rs) a =
    let t = tail_ascends r rs a in
    elim (cases_Bool (nat_lt (due_of r) (due_of s))) [
      | inl e ↦ rw e (cons_ascends r (insert_by_due s rs) (below_insert r s rs (grind (arith, nat_tests, e)) t.0)
          (ascends_insert s rs t.1))
      | inr e ↦ rw e (let l : due_of s ≤ due_of r = grind (arith, nat_tests, e) in (l, a))
    ]

-- their due ticks ascend
pub ascends : (ss : List TickSleeper) → Ascends (by_due ss)
ascends [] = tt
ascends (s ∷ ss) = ascends_insert s (by_due ss) (ascends ss)

insert_apart : (d : ℕ) (s : TickSleeper) (rs : List TickSleeper)
    → filter (λ r. due_of r == d) (insert_by_due s rs) ≡ filter (λ r. due_of r == d) (s ∷ rs)
insert_apart d s [] = refl
insert_apart d s (r ∷ rs) = elim (cases_Bool (nat_lt (due_of r) (due_of s))) [
  | inl e ↦ rw e (swap (due_of r == d) (due_of s == d) refl refl e (insert_apart d s rs))
  | inr e ↦ rw e refl
]
  where
    swap : (a b : Bool) → (due_of r == d) ≡ a → (due_of s == d) ≡ b → nat_lt (due_of r) (due_of s) ≡ true
        → filter (λ q. due_of q == d) (insert_by_due s rs) ≡ cond (due_of s == d) (s ∷ filter (λ q. due_of q == d) rs)
        (filter (λ q. due_of q == d) rs)
        → cond a (r ∷ filter (λ q. due_of q == d) (insert_by_due s rs))
        (filter (λ q. due_of q == d) (insert_by_due s rs)) ≡ cond b
        (s ∷ cond a (r ∷ filter (λ q. due_of q == d) rs) (filter (λ q. due_of q == d) rs))
        (cond a (r ∷ filter (λ q. due_of q == d) rs) (filter (λ q. due_of q == d) rs))
    swap true true i j l m = absurd (let k = i in let n = j in grind (arith, nat_tests, k, n, l))
    swap true false i j l m = ap (λ (qs : List TickSleeper). r ∷ qs) (m ∙ rw j refl)
    swap false true i j l m = m ∙ rw j refl
    swap false false i j l m = m ∙ rw j refl

-- and those of one tick are in order of arrival
pub by_arrival : (d : ℕ) (ss : List TickSleeper)
    → filter (λ s. due_of s == d) (by_due ss) ≡ filter (λ s. due_of s == d) ss
by_arrival d [] = refl
by_arrival d (s ∷ ss) = insert_apart d s (by_due ss)
    ∙ ap (λ (qs : List TickSleeper). cond (due_of s == d) (s ∷ qs) qs) (by_arrival d ss)
