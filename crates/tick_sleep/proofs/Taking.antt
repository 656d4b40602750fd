-- The sleepers of a key are taken out one by one, as bits.
use Rattle.std.proofs.Common.{◌≡◌, ℕ, ◌+◌, ◌*◌, ◌%◌, ◌^◌, ◌<◌, true, eqb, List, [], ◌∷◌, length, map, find, Option, None, Some, option_map, refl, sym, ap, arith, ◌∙◌, inl, inr}
use Rattle.std.proofs.lemmas.Bool.{cases_lt}
use Rattle.std.proofs.Math.Pow.{pow_mono}
use Rattle.lock_model.specs.Counts.{one, times}
use Rattle.lock_model.specs.declared.numbers.ThreadNo.{ThreadNo}
use Rattle.lock_state.specs.Steps.LockWords.{bits_of_threads}
use Rattle.lock_laws.proofs.Bits.{bits_below}
use Rattle.tick_sleep.specs.declared.plan.TickSleeper.{TickSleeper}
use Rattle.tick_sleep.specs.Ticks.{is_on, on_key, off_key, sleeps, without}
use Rattle.tick_sleep.specs.Rolls.{IsOnce}
use Rattle.tick_sleep.proofs.Once.{times_asleep, counts_sleeps}
use Rattle.tick_sleep.proofs.Keyed.{first_on, less_on}

abbrev pub threads_of : List TickSleeper → List ℕ
threads_of ss = map (λ s. s.t.0) ss

-- the sleeper whose thread was found
pub found_sleeper : (o : Option TickSleeper) (t : ThreadNo) → option_map (λ (s : TickSleeper). s.t) o ≡ Some t
    → (s : TickSleeper) × (o ≡ Some s) × (s.t ≡ t)
found_sleeper None t e = absurd cc
found_sleeper (Some s) t e = (s, refl, ap (thread_or t) e)
  where
    thread_or : ThreadNo → Option ThreadNo → ThreadNo
    thread_or d None = d
    thread_or d (Some u) = u

pub one_taken : (key : ℕ) (ss rs : List TickSleeper) (t : ThreadNo) → IsOnce ss
    → option_map (λ (s : TickSleeper). s.t) (find (is_on key) ss) ≡ Some t → rs ≡ without t.0 ss
    → (off_key key rs ≡ off_key key ss) × (threads_of (on_key key ss) ≡ t.0 ∷ threads_of (on_key key rs))
    × (length (on_key key rs) < length (on_key key ss))
one_taken key ss rs t once found left =
    let s = found_sleeper (find (is_on key) ss) t found in
    let f = first_on key ss s.0 once s.1 in
    let same : rs ≡ without s.0.t.0 ss = left ∙ ap (λ (u : ThreadNo). without u.0 ss) (sym s.2) in
    let all : on_key key ss ≡ s.0 ∷ on_key key rs = f.0
    ∙ ap (λ (qs : List TickSleeper). s.0 ∷ on_key key qs) (sym same) in (
      ap (off_key key) same ∙ f.1,
      ap threads_of all
          ∙ ap (λ (u : ThreadNo). u.0 ∷ threads_of (on_key key rs)) s.2,
      let n =
          ap (λ (qs : List TickSleeper). length qs) all in omega (arith, n),
    )

times_same : (u : ℕ) (ss : List TickSleeper) → times u (threads_of ss) ≡ times_asleep u ss
times_same u [] = refl
times_same u (s ∷ ss) = ap (λ n. one (eqb u s.t.0) + n) (times_same u ss)

-- they come to less than 2 ^ 64
pub bits_fit : (key : ℕ) (ss : List TickSleeper) → IsOnce ss → ((t : ℕ) → sleeps t ss ≡ true → t < 64)
    → bits_of_threads (threads_of (on_key key ss)) < 2 ^ 64
bits_fit key ss once below = bits_below 64 (threads_of (on_key key ss))
    (λ j. let e = times_same j (on_key key ss) in let l = less_on j key ss in let o = once j in omega (arith, e, l, o))
    (λ j i. let e = times_same j (on_key key ss) in let l = less_on j key ss in
    below j (counts_sleeps j ss (omega (arith, e, l, i))))

-- each is one of 64 bits
pub is_bit : (t rest sum k : ℕ) → rest + (2 ^ t + sum) < 2 ^ k → t < k
is_bit t rest sum k fits = elim (cases_lt t k) [
  | inl l ↦ l
  | inr l ↦ let m = pow_mono l in absurd (omega (arith, m, fits))
]

pub whole_bit : (n : ℕ) → n < 18446744073709551616 → (1 * n) % 18446744073709551616 ≡ n
whole_bit n l = omega (arith, l)

pub none_there : (o : Option TickSleeper) → option_map (λ (s : TickSleeper). s.t) o ≡ None → o ≡ None
none_there None e = refl
none_there (Some s) e = absurd cc
