-- Sleep queues as they are made: each is at home.
use Rattle.std.proofs.Common.{◌≡◌, ℕ, zero, suc, ◌+◌, ◌<◌, Bool, true, false, cond, eqb, nat_lt, List, [], ◌∷◌, ◌++◌, length, Option, None, Some, refl, sym, ap, subst, arith, ◌∙◌, inl, inr, eq-eqb}
use Rattle.std.specs.Prelude.{is_some}
use Rattle.std.proofs.lemmas.Bool.{cases_eq, ne_eqb}
use Rattle.std.proofs.lemmas.Bool.Decides.{nat_tests}
use Rattle.lock_model.specs.Counts.{one, some}
use Rattle.wait_objects.specs.Seen.{Kept, Node, empty_node}
use Rattle.sleep_queues.specs.Seen.{SleepQueue, idle}
use Rattle.tick_sleep.specs.Tables.{home_at, times_home, homes_of, made_table, IsSound}
use Rattle.tick_sleep.proofs.Places.{at_home}

both_suc : (t n : ℕ) → eqb t n ≡ eqb (suc t) (suc n)
both_suc t n = grind (arith, nat_tests)

-- one home more
home_last : (t : ℕ) (homes : List (Option Kept)) (o : Option Kept)
    → home_at t (homes ++ o ∷ []) ≡ cond (eqb t (length homes)) o (home_at t homes)
home_last zero [] o = refl
home_last (suc t) [] o = rw (ne_eqb (suc t) 0 (λ e. absurd (omega (arith, e)))) refl
home_last zero (p ∷ homes) o = rw (ne_eqb 0 (suc (length homes)) (λ e. absurd (omega (arith, e)))) refl
home_last (suc t) (p ∷ homes) o = home_last t homes o
    ∙ ap (λ (b : Bool). cond b o (home_at t homes)) (both_suc t (length homes))

times_last : (x : ℕ) (homes : List (Option Kept)) (o : Option Kept)
    → times_home x (homes ++ o ∷ []) ≡ times_home x homes + at_home x o
times_last x [] o = omega arith
times_last x (p ∷ homes) o = let m = times_last x homes o in omega arith

length_last : (homes : List (Option Kept)) (o : Option Kept) → length (homes ++ o ∷ []) ≡ suc (length homes)
length_last [] o = refl
length_last (p ∷ homes) o = ap suc (length_last homes o)

pub length_of : (n : ℕ) → length (homes_of n) ≡ n
length_of zero = refl
length_of (suc n) = length_last (homes_of n) (Some (record { object = n; thread = n })) ∙ ap suc (length_of n)

pub home_of : (n t : ℕ) → home_at t (homes_of n) ≡ cond (nat_lt t n) (Some (record { object = t; thread = t })) None
home_of zero t = let e : nat_lt t 0 ≡ false = grind (arith, nat_tests) in rw e refl
home_of (suc n) t = elim (cases_eq t n) [
  | inl e ↦
      let last = home_last t (homes_of n) (Some (record { object = n; thread = n })) in
      let here : eqb t (length (homes_of n)) ≡ true = eq-eqb t (length (homes_of n)) (e ∙ sym (length_of n)) in
      let within : nat_lt t (suc n) ≡ true = grind (arith, nat_tests, e) in
      last ∙ rw (here, within) (ap (λ (m : ℕ). let k : Kept = record { object = m; thread = m } in Some k) (sym e))
  | inr ne ↦
      let last = home_last t (homes_of n) (Some (record { object = n; thread = n })) in
      let there : eqb t (length (homes_of n)) ≡ false = ne_eqb t (length (homes_of n)) (λ e. ne (e ∙ length_of n)) in
      let same : nat_lt t n ≡ nat_lt t (suc n) = grind (arith, nat_tests, ne) in
      last ∙ rw there (home_of n t
      ∙ ap (λ (b : Bool). let k : Kept = record { object = t; thread = t } in cond b (Some k) None) same)
]

pub times_of : (n x : ℕ) → times_home x (homes_of n) ≡ one (nat_lt x n)
times_of zero x = let e : nat_lt x 0 ≡ false = grind (arith, nat_tests) in rw e refl
times_of (suc n) x =
    let last = times_last x (homes_of n) (Some (record { object = n; thread = n })) in
    let m = times_of n x in
    elim (cases_eq x n) [
      | inl e ↦ let c : one (eqb x n) ≡ 1 = ap one (eq-eqb x n e) in let was : one (nat_lt x n) ≡ 0 =
          grind (arith, nat_tests, e) in let now : one (nat_lt x (suc n)) ≡ 1 = grind (arith, nat_tests, e) in
          omega arith
      | inr ne ↦ let c : one (eqb x n) ≡ 0 = ap one (ne_eqb x n ne) in let same : nat_lt x n ≡ nat_lt x (suc n) =
          grind (arith, nat_tests, ne) in let one_same = ap one same in omega arith
    ]

pub made_sound : (n : ℕ) → IsSound (made_table n)
made_sound n = record {
  one_place_each_node = λ t. by t (nat_lt t n) refl;
  one_place_each = λ x. let m = times_of n x in rw (length_of n) (omega arith);
  own_nodes = λ t k e. own_is t k (nat_lt t n) (sym (home_of n t) ∙ e);
  heads = tt;
}
  where
    by : (t : ℕ) (b : Bool) → nat_lt t n ≡ b → some (home_at t (homes_of n)) + 0 ≡ one (nat_lt t (length (homes_of n)))
    by t true e = rw (home_of n t, length_of n, e) refl
    by t false e = rw (home_of n t, length_of n, e) refl

    pick : ℕ → Option Kept → ℕ
    pick t None = t
    pick t (Some k) = k.thread

    own_is : (t : ℕ) (k : Kept) (b : Bool) → cond b (Some (record { object = t; thread = t })) None ≡ Some k
        → k.thread ≡ t
    own_is t k true e = sym (ap (pick t) e)
    own_is t k false e = absurd cc

-- one more is made
pub next_home : (homes : List (Option Kept)) (t : ℕ) (h : SleepQueue) (n : Node) → homes ≡ homes_of t → h ≡ idle t
    → n ≡ empty_node t
    → homes ++ Some (record { object = h.contents.number; thread = n.place.thread }) ∷ [] ≡ homes_of (t + 1)
next_home homes t h n e f g =
    let next : suc t ≡ t + 1 = omega arith in
    subst (λ (m : ℕ). homes ++ Some (record { object = h.contents.number; thread = n.place.thread }) ∷ [] ≡ homes_of m)
    next (rw (e, f, g) refl)

pub made_home : (n t : ℕ) → t < n → is_some (home_at t (homes_of n)) ≡ true
made_home n t l = let e : nat_lt t n ≡ true = grind (arith, nat_tests, l) in rw (home_of n t, e) refl
