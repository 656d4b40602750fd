-- The first line of a schedule, and those behind it.
use Rattle.std.proofs.Common.{◌≡◌, ◌⊎◌, inl, inr, ℕ, suc, ◌+◌, ◌-◌, ◌/◌, ◌<◌, ◌≤◌, min, List, ◌++◌, length, take, drop, length-drop, append_assoc, refl, sym, ap, ◌∙◌, arith}
use Rattle.std.proofs.lemmas.Bool.{cases_lt}
use Rattle.std.proofs.lemmas.List.{take_all, drop_all}
use Rattle.lock_model.specs.Script.Canonical.{schedule_line, schedule_lines}
use Rattle.lock_model.specs.declared.numbers.ThreadNo.{ThreadNo}
use Rattle.lock_model.specs.declared.plan.Plan.{Plan}

-- ten names, or all where they are fewer
first_ten : (ts : List ThreadNo) (n : ℕ) → (n ≡ 10) ⊎ ((n ≡ length ts) × (n ≤ 10))
    → (take n ts ≡ take 10 ts) × (drop n ts ≡ drop 10 ts)
first_ten ts n (inl e) = (ap (λ m. take m ts) e, ap (λ m. drop m ts) e)
first_ten ts n (inr h) = (
  take_all n ts (omega (arith, h.0)) ∙ sym (take_all 10 ts (omega (arith, h.0, h.1))),
  drop_all n ts (omega (arith, h.0)) ∙ sym (drop_all 10 ts (omega (arith, h.0, h.1))),
)

first_line : (plan : Plan) (ts : List ThreadNo) → 0 < length ts
    → schedule_lines plan ts ≡ schedule_line plan (take (min (length ts) 10) ts)
    ++ schedule_lines plan (drop (min (length ts) 10) ts)
first_line plan ts some =
    let n = min (length ts) 10 in
    let which : (n ≡ 10) ⊎ ((n ≡ length ts) × (n ≤ 10)) = elim (cases_lt 10
    (length ts)) [ inl l ↦ inl (omega (arith, l)) | inr l ↦ inr (omega (arith, l), omega (arith, l)) ] in
    let same = first_ten ts n which in
    let rest : length (drop 10 ts) ≡ length ts - 10 = length-drop 10 ts in
    let count : (length ts + 9) / 10 ≡ suc ((length (drop 10 ts) + 9) / 10) = omega (arith, rest, some) in
    rw (same.0, same.1, count) refl

-- behind a front
pub line_more : (plan : Plan) (out : List ℕ) (ts front back : List ThreadNo) (n : ℕ) → 0 < length ts
    → n ≡ min (length ts) 10 → front ≡ take n ts → back ≡ drop n ts
    → (out ++ schedule_line plan front) ++ schedule_lines plan back ≡ out ++ schedule_lines plan ts
line_more plan out ts front back n some size f b =
    rw (f, b, size) (append_assoc out _ _ ∙ ap (λ (r : List ℕ). out ++ r) (sym (first_line plan ts some)))
