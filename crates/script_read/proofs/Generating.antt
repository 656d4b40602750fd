-- What draws, rounds and threads leave behind, in the forms in which the code comes to it.
use Rattle.std.proofs.Common.{◌≡◌, ℕ, ◌+◌, ◌*◌, ◌/◌, ◌%◌, ◌∙◌, ◌==◌, true, false, min, max, List, [], ◌∷◌, ◌++◌, refl, sym, ap, arith, add-one}
use Rattle.std.proofs.Math.Nat.{add-mod-mod}
use Rattle.std.proofs.lemmas.Bool.{eq-eqb, ne_eqb}
use Rattle.lock_model.specs.declared.plan.Op.{Op}
use Rattle.script_read.specs.Generator.{behind, behind_round, behind_rounds, behind_threads, drawn, next_state, over_one, over_two, round_at, rounds_at, thread_at}

-- the product may be cut to 64 bits before the sum
cut_twice : (x n m : ℕ) → (x % m + n) % m ≡ (x + n) % m
cut_twice x n m = ap (λ y. y % m) (omega arith) ∙ (add-mod-mod n x m ∙ ap (λ y. y % m) (omega arith))

pub drawn_next : (x : ℕ)
    → (x * 6364136223846793005 % 18446744073709551616 + 1442695040888963407) % 18446744073709551616 ≡ next_state x
unfolding next_state
drawn_next x = cut_twice (x * 6364136223846793005) 1442695040888963407 18446744073709551616

pub drawn_of : (k x : ℕ)
    → (x * 6364136223846793005 % 18446744073709551616 + 1442695040888963407) % 18446744073709551616 / 8589934592 % k
    ≡ drawn k x
unfolding drawn
drawn_of k x = ap (λ y. y / 8589934592 % k) (drawn_next x)

-- A round by whether its two draws are the same. The second is made at s, and y is the state behind it.
module _ (x s y i j : ℕ) (one : s ≡ next_state x) (two : y ≡ next_state s) (first : i ≡ drawn 8 x)
    (second : j ≡ drawn 8 s) where
  pub same_round : (z : ℕ) (ops : List Op) → i ≡ j → ops ≡ over_one y i → z ≡ behind 2 y
      → (ops ≡ round_at x) × (z ≡ behind_round x)
  unfolding round_at behind_round
  same_round z ops same is after =
      let e : (drawn 8 x == drawn 8 (next_state x)) ≡ true =
      eq-eqb _ _ (sym first ∙ (same ∙ (second ∙ ap (drawn 8) one))) in
      (is ∙ rw (e, two, one, first) refl, after ∙ rw (e, two, one) refl)

  pub other_round : (z : ℕ) (ops : List Op) → (i ≡ j → ⊥) → ops ≡ over_two y (min i j) (max i j) → z ≡ behind 4 y
      → (ops ≡ round_at x) × (z ≡ behind_round x)
  unfolding round_at behind_round
  other_round z ops other is after =
      let e : (drawn 8 x == drawn 8 (next_state x)) ≡ false =
      ne_eqb _ _ (λ same. other (first ∙ (same ∙ sym (second ∙ ap (drawn 8) one)))) in
      (is ∙ rw (e, two, first, second, one) refl, after ∙ rw (e, two, one) refl)

-- one more round, and one more thread
pub rounds_more : (x n : ℕ) → (rounds_at x (n + 1) ≡ rounds_at x n ++ round_at (behind_rounds x n))
    × (behind_rounds x (n + 1) ≡ behind_round (behind_rounds x n))
unfolding rounds_at behind_rounds
rounds_more x n = rw add-one (refl, refl)

pub no_rounds : (x : ℕ) → (rounds_at x 0 ≡ []) × (behind_rounds x 0 ≡ x)
unfolding rounds_at behind_rounds
no_rounds x = (refl, refl)

pub threads_more : (n t : ℕ) → behind_threads n (t + 1) ≡ behind_rounds (next_state (behind_threads n t)) 100
unfolding behind_threads
threads_more n t = rw add-one refl

pub no_threads : (n : ℕ) → behind_threads n 0 ≡ n
unfolding behind_threads
no_threads n = refl

pub its_thread : (x t : ℕ) (name : List ℕ) (base : ℕ) (ops : List Op)
    → name ≡ 116 ∷ (48 + t) ∷ [] → base ≡ drawn 256 x → ops ≡ rounds_at (next_state x) 100
    → record { name = name; base = record { 0 = base }; ops = ops } ≡ thread_at x t
unfolding thread_at
its_thread x t name base ops n b o = rw (n, b, o) refl
