-- A list in which each thread stands once is no longer than there are threads.
use Rattle.std.proofs.Common.{◌≡◌, ℕ, zero, suc, ◌≤◌, cond, eqb, true, false, List, [], ◌∷◌, length, ap, inl, inr, arith, eq-eqb, refl}
use Rattle.std.proofs.lemmas.Bool.{cases_eq}
use Rattle.lock_model.specs.Counts.{one}
use Rattle.lock_model.specs.Queues.{Waiter as Waiting, times_waiting, without}
use Rattle.lock_model.proofs.Lists.{times_waiting-without, length-without}
use Rattle.wait_objects.specs.Inside.{AreBelow}

narrower : (n : ℕ) (ws : List Waiting) → AreBelow (suc n) ws → times_waiting n ws ≡ 0 → AreBelow n ws
narrower n [] b none = tt
narrower n (w ∷ ws) b none = elim (cases_eq n w.thread) [
  | inl e ↦ let here : one (eqb n w.thread) ≡ 1 = ap one (eq-eqb n w.thread e) in absurd (omega arith)
  | inr e ↦ let l = b.0 in (omega arith, narrower n ws b.1 (omega arith))
]

pub below-without : (n t : ℕ) (ws : List Waiting) → AreBelow n ws → AreBelow n (without t ws)
below-without n t [] b = tt
below-without n t (w ∷ ws) b = elim (eqb t w.thread)
    as (λ x. AreBelow n (cond x ws (w ∷ without t ws))) [ true ↦ b.1 | false ↦ (b.0, below-without n t ws b.1) ]

pub few : (n : ℕ) (ws : List Waiting) → AreBelow n ws → ((t : ℕ) → times_waiting t ws ≤ 1) → length ws ≤ n
few zero [] b once = omega arith
few zero (w ∷ ws) b once = let l = b.0 in absurd (omega arith)
few (suc n) ws b once = elim (cases_eq (times_waiting n ws) 0) [
  | inl e ↦ let l = few n ws (narrower n ws b e) once in omega arith
  | inr e ↦ let some : 1 ≤ times_waiting n ws = omega arith in
      let same : one (eqb n n) ≡ 1 = ap one (eq-eqb n n refl) in
      let gone : times_waiting n (without n ws) ≡ 0 = let k = times_waiting-without n n ws some in
      let l = once n in
      omega arith in
      let less = few n (without n ws) (narrower n (without n ws) (below-without (suc n) n ws b) gone)
      (λ t. let k = times_waiting-without t n ws some in let l = once t in omega arith) in
      let m = length-without n ws some in omega arith
]
