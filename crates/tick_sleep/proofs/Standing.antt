-- A tick queue stays sound while threads go to sleep and wake up.
use Rattle.std.proofs.Common.{◌≡◌, ◌≢◌, ℕ, ◌+◌, ◌≤◌, ◌<◌, Bool, true, false, not, ◌&&◌, ◌||◌, cond, eqb, nat_lt, List, [], ◌∷◌, ◌++◌, length, map, filter, find, option_map, Option, None, Some, refl, sym, ap, subst, arith, ◌∙◌, inl, inr, eq-eqb}
use Rattle.std.proofs.lemmas.Bool.{cases_Bool, cases_eq, ne_eqb}
use Rattle.std.proofs.lemmas.Bool.Decides.{nat_tests}
use Rattle.lock_model.specs.Counts.{one}
use Rattle.lock_model.specs.Queues.{Waiter, times_waiting, best_of, entry_of, one_or_none, without_best}
use Rattle.lock_model.specs.Queues as queue
use Rattle.lock_model.proofs.Lists.{best_stands}
use Rattle.lock_model.specs.declared.numbers.ThreadNo.{ThreadNo}
use Rattle.std.proofs.lemmas.List.{length-map}
use Rattle.std.proofs.Common.{length-append}
use Rattle.wait_objects.proofs.Few.{few}
use Rattle.wait_objects.specs.Inside.{AreBelow}
use Rattle.tick_sleep.specs.Limits.{most_sleepers}
use Rattle.tick_sleep.specs.Plans.{can_time_out}
use Rattle.tick_sleep.specs.Ticks.{is_of, is_on, on_key, off_key, sleeps, without, waiter_of, is_reached, is_due}
use Rattle.tick_sleep.specs.Tables.{Table, lying, is_home, off, staying, first_thread, Wakes}
use Rattle.tick_sleep.specs.Rolls.{IsOnce}
use Rattle.tick_sleep.specs.Queues.{IsSound}
use Rattle.tick_sleep.specs.declared.plan.TickSleeper.{TickSleeper}
use Rattle.tick_sleep.specs.declared.queue.TickQueue.TheInside.{Inside}
use Rattle.tick_sleep.specs.declared.who.Who.{Who}
use Rattle.tick_sleep.specs.declared.who.Who.TheVariants.{Best, All, Thread}
use Rattle.tick_sleep.proofs.Once.{is_of-same, sleeps-last, once_last, gone-without, others-without}
use Rattle.tick_sleep.proofs.Expiry.{none_due_without, none_due_filter}
use Rattle.tick_sleep.proofs.Keyed.{on_key-last, on_key-without, on_key-off, on_key-others, sleeps-off, counts_on, on_counts}
use Rattle.tick_sleep.proofs.Rolling.{its_thread, found_own}

module _ (q : Inside) (sound : IsSound q) where
  -- one thread wakes up
  module _ (once : IsOnce q.roll) (s : TickSleeper) (found : find (is_of s.t.0) q.roll ≡ Some s) (who : Who)
      (table : Table) (wakes : Wakes q.table table s.key who)
      (stays : staying who (lying s.key q.table) ≡ queue.without s.t.0 (lying s.key q.table))
      (goes : (u : ℕ) → times_waiting u (off who (lying s.key q.table)) ≡ one (eqb u s.t.0)) (passed : ℕ)
      (early : passed ≤ q.tick) (none_due : filter (is_due passed) q.roll ≡ []) where
    pub woken_sound : IsSound (record q { passed = passed; roll = without s.t.0 q.roll; table = table })
    woken_sound = record {
      passed = early;
      none_due = none_due_without passed s.t.0 q.roll none_due;
      declared = declared;
      few = sound.few;
      posted = sound.posted;
      homes = wakes.size ∙ sound.homes;
      at_home = λ u l. wakes.homes u ∙ home u l;
      queues = λ k. wakes.queues k ∙ lies k;
    }
      where
        declared : (u : ℕ) → sleeps u (without s.t.0 q.roll) ≡ true → u < length q.prios.items
        declared u e = elim (cases_eq u s.t.0) [
          | inl i ↦ absurd (let f = ap (λ v. sleeps v (without s.t.0 q.roll)) i
              ∙ gone-without s.t.0 q.roll once in let g = sym e ∙ f in cc)
          | inr ne ↦ sound.declared u (sym (others-without u s.t.0 q.roll ne) ∙ e)
        ]

        home : (u : ℕ) → u < length q.prios.items
            → (is_home u q.table || nat_lt 0 (times_waiting u (off who (lying s.key q.table)))) ≡ not
            (sleeps u (without s.t.0 q.roll))
        home u l = elim (cases_eq u s.t.0) [
          | inl e ↦
              let gone : sleeps u (without s.t.0 q.roll) ≡ false = ap (λ v. sleeps v (without s.t.0 q.roll)) e
              ∙ gone-without s.t.0 q.roll once in
              let here : times_waiting u (off who (lying s.key q.table)) ≡ 1 = goes u ∙ ap one (eq-eqb u s.t.0 e) in
              rw (gone, here) (or_true (is_home u q.table))
          | inr ne ↦
              let there : times_waiting u (off who (lying s.key q.table)) ≡ 0 = goes u ∙ ap one (ne_eqb u s.t.0 ne) in
              rw (others-without u s.t.0 q.roll ne, there, sound.at_home u l) (or_false (not (sleeps u q.roll)))
        ]
          where
            or_true : (b : Bool) → (b || true) ≡ true
            or_true true = refl
            or_true false = refl

            or_false : (b : Bool) → (b || false) ≡ b
            or_false true = refl
            or_false false = refl

        lies : (k : ℕ) → cond (eqb s.key k) (staying who (lying k q.table)) (lying k q.table) ≡ map waiter_of
            (on_key k (without s.t.0 q.roll))
        lies k = elim (cases_eq s.key k) [
          | inl e ↦ subst (λ j. cond (eqb s.key j) (staying who (lying j q.table)) (lying j q.table) ≡ map waiter_of
              (on_key j (without s.t.0 q.roll))) e
              (rw (eq-eqb s.key s.key refl)
              (stays ∙ ap (queue.without s.t.0) (sound.queues s.key)
              ∙ sym (on_key-without s.key q.roll s found ∙ rw (eq-eqb s.key s.key refl) refl)))
          | inr ne ↦ rw (ne_eqb s.key k ne)
              (sound.queues k ∙ sym (on_key-without k q.roll s found ∙ rw (ne_eqb s.key k ne) refl))
        ]

  -- all of a key wake up
  pub all_woken_sound : (once : IsOnce q.roll) (key : ℕ) (table : Table) → Wakes q.table table key All
      → IsSound (record q { roll = off_key key q.roll; table = table })
  all_woken_sound once key table wakes = record {
    passed = sound.passed;
    none_due = none_due_filter q.passed (λ s. not (is_on key s)) q.roll sound.none_due;
    declared = λ u e. sound.declared u (kept u e);
    few = sound.few;
    posted = sound.posted;
    homes = wakes.size ∙ sound.homes;
    at_home = λ u l. wakes.homes u ∙ home u l;
    queues = λ k. wakes.queues k ∙ lies k;
  }
    where
      kept : (u : ℕ) → sleeps u (off_key key q.roll) ≡ true → sleeps u q.roll ≡ true
      kept u e = let f = sym (sleeps-off u key q.roll once) ∙ e in grind (arith, nat_tests, f)

      home : (u : ℕ) → u < length q.prios.items
          → (is_home u q.table || nat_lt 0 (times_waiting u (lying key q.table))) ≡ not (sleeps u (off_key key q.roll))
      home u l = rw (sleeps-off u key q.roll once, sound.at_home u l, sound.queues key)
          (by (sleeps u q.roll) (nat_lt 0 (times_waiting u (map waiter_of (on_key key q.roll)))))
        where
          by : (a b : Bool) → (not a || b) ≡ not (a && not b)
          by true true = refl
          by true false = refl
          by false true = refl
          by false false = refl

      lies : (k : ℕ) → cond (eqb key k) [] (lying k q.table) ≡ map waiter_of (on_key k (off_key key q.roll))
      lies k = elim (cases_eq key k) [
        | inl e ↦ rw (eq-eqb key k e)
            (subst (λ j. [] ≡ map waiter_of (on_key j (off_key key q.roll))) e (sym (on_key-off key q.roll)))
        | inr ne ↦ rw (ne_eqb key k ne) (sound.queues k ∙ sym (on_key-others k key q.roll ne))
      ]

-- who goes where one thread gets up
pub thread_goes : (t u : ℕ) (ws : List Waiter) → 1 ≤ times_waiting t ws
    → times_waiting u (one_or_none (entry_of t ws)) ≡ one (eqb u t)
thread_goes t u [] l = absurd (omega arith)
thread_goes t u (w ∷ ws) l = elim (cases_eq t w.thread) [
  | inl e ↦ rw (eq-eqb t w.thread e) (ap (λ v. one (eqb u v) + 0) (sym e) ∙ plus_none (one (eqb u t)))
  | inr ne ↦ let z : one (eqb t w.thread) ≡ 0 = ap one (ne_eqb t w.thread ne) in
      rw (ne_eqb t w.thread ne) (thread_goes t u ws (omega arith))
]
  where
    plus_none : (n : ℕ) → n + 0 ≡ n
    plus_none n = omega arith

-- each sleeper is below a number
below_of : (n : ℕ) (ss : List TickSleeper) → ((u : ℕ) → sleeps u ss ≡ true → u < n) → AreBelow n (map waiter_of ss)
below_of n [] h = tt
below_of n (s ∷ ss) h =
    (h s.t.0 (rw (is_of-same s.t.0 s refl) refl), below_of n ss (λ u e. h u (rw e (or_true (is_of u s)))))
  where
    or_true : (b : Bool) → (b || true) ≡ true
    or_true true = refl
    or_true false = refl

-- where a thread may begin to sleep there is room for it
pub has_room : (q : Inside) → IsSound q → (s : TickSleeper) → IsOnce q.roll → sleeps s.t.0 q.roll ≡ false
    → s.t.0 < length q.prios.items → length q.roll < most_sleepers
has_room q sound s once none within =
    let all = q.roll ++ s ∷ [] in
    let fit = few (length q.prios.items) (map waiter_of all) (below_of (length q.prios.items) all inside)
    (once_last q.roll s once none) in
    omega (arith, fit, length-map all waiter_of, length-append q.roll (s ∷ []), sound.few)
  where
    inside : (u : ℕ) → sleeps u (q.roll ++ s ∷ []) ≡ true → u < length q.prios.items
    inside u e = elim (cases_Bool (sleeps u q.roll)) [
      | inl i ↦ sound.declared u i
      | inr i ↦ let f = rw i at (sym (sleeps-last u q.roll s) ∙ e) in let same : s.t.0 ≡ u =
          grind (arith, nat_tests, f) in omega (arith, same, within)
    ]

-- the best of a key's sleepers gets up
best_one : (t : ℕ) (ws : List Waiter) → first_thread (off Best ws) ≡ Some t → (staying Best ws ≡ queue.without t ws)
    × ((u : ℕ) → times_waiting u (off Best ws) ≡ one (eqb u t)) × (1 ≤ times_waiting t ws)
best_one t ws e = go (best_of ws) refl e
  where
    number_or : ℕ → Option ℕ → ℕ
    number_or d None = d
    number_or d (Some n) = n

    go : (o : Option Waiter) → best_of ws ≡ o → first_thread (one_or_none o) ≡ Some t
        → (without_best o ws ≡ queue.without t ws) × ((u : ℕ) → times_waiting u (one_or_none o) ≡ one (eqb u t))
        × (1 ≤ times_waiting t ws)
    go None i f = absurd cc
    go (Some w) i f =
        let same : w.thread ≡ t = ap (number_or t) f in (
          ap (λ n. queue.without n ws) same,
          λ u. plus_none (one (eqb u w.thread))
              ∙ ap (λ n. one (eqb u n)) same,
          subst (λ n. 1 ≤ times_waiting n ws) same (best_stands ws w i),
        )
      where
        plus_none : (n : ℕ) → n + 0 ≡ n
        plus_none n = omega arith

pub one_woken : (q : Inside) (sound : IsSound q) (once : IsOnce q.roll) (key t : ℕ) (table : Table)
    → Wakes q.table table key Best → first_thread (off Best (lying key q.table)) ≡ Some t
    → IsSound (record q { roll = without t q.roll; table = table })
one_woken q sound once key t table wakes first =
    let b = best_one t (lying key q.table) first in
    let s = counts_on key q.roll t once (subst (λ (ws : List Waiter). 1 ≤ times_waiting t ws) (sound.queues key) b.2) in
    let found = found_own t q.roll s.0 s.1 in
    subst (λ n. IsSound (record q { roll = without n q.roll; table = table })) s.3
    (woken_sound q sound once s.0 found Best table (subst (λ k. Wakes q.table table k Best) (sym s.2) wakes)
    (subst (λ k. staying Best (lying k q.table) ≡ queue.without s.0.t.0 (lying k q.table)) (sym s.2)
    (b.0 ∙ ap (λ n. queue.without n (lying key q.table)) (sym s.3)))
    (λ u. subst (λ k. times_waiting u (off Best (lying k q.table)) ≡ one (eqb u s.0.t.0)) (sym s.2)
    (b.1 u ∙ ap (λ n. one (eqb u n)) (sym s.3)))
    q.passed sound.passed sound.none_due)

-- a thread gets up
pub thread_woken : (q : Inside) (sound : IsSound q) (once : IsOnce q.roll) (s : TickSleeper) (t : ThreadNo)
    → find (is_of t.0) q.roll ≡ Some s → (table : Table) → Wakes q.table table s.key (Thread t) → (passed : ℕ)
    → passed ≤ q.tick → filter (is_due passed) q.roll ≡ []
    → IsSound (record q { passed = passed; roll = without t.0 q.roll; table = table })
thread_woken q sound once s t found table wakes passed early none_due =
    let same = its_thread t.0 q.roll s found in
    let count = subst (λ (ws : List Waiter). 1 ≤ times_waiting t.0 ws) (sym (sound.queues s.key))
    (on_counts t.0 q.roll s found) in
    subst (λ n. IsSound (record q { passed = passed; roll = without n q.roll; table = table })) same
    (woken_sound q sound once s (found_own t.0 q.roll s found) (Thread t) table wakes
    (ap (λ n. queue.without n (lying s.key q.table)) (sym same))
    (λ u. thread_goes t.0 u (lying s.key q.table) count ∙ ap (λ n. one (eqb u n)) (sym same))
    passed early none_due)
