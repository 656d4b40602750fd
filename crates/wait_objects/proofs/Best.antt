-- The best of a list: the first of one by rank, and the entry of its thread where each thread stands once.
use Rattle.std.proofs.Common.{◌≡◌, ◌≢◌, ℕ, ◌≤◌, Bool, true, false, cond, eqb, nat_lt, List, [], ◌∷◌, take, drop, Option, Some, None, refl, sym, subst, ap, ◌∙◌, inl, inr, arith, eq-eqb}
use Rattle.std.specs.Prelude.{◌+◌, IfSome, option_map}
use Rattle.std.proofs.lemmas.Bool.{cases_eq, cases_lt, lt-ltb, le-ltb, ne_eqb}
use Rattle.lock_model.specs.Counts.{one, lower}
use Rattle.lock_model.specs.Queues.{Waiter as Waiting, times_waiting, better, best_of, entry_of, without, one_or_none, without_best, taken_off, left_on, least_kept, Ascends}
use Rattle.wait_objects.specs.Changes.{InOrder}

-- in a list that ascends the first waiter is the best

first_is_best : (w : Waiting) (ws : List Waiting) → Ascends (w ∷ ws) → best_of (w ∷ ws) ≡ Some w
first_is_best w [] a = refl
first_is_best w (v ∷ vs) a =
    ap (λ o. Some (better w o)) (first_is_best v vs a.1) ∙ ap (λ b. Some (cond b v w)) (le-ltb v.kept w.kept a.0)

pub best_first : (ranked : Bool) (w : Waiting) (ws us : List Waiting) → us ≡ w ∷ ws → ranked ≡ true → InOrder ranked us
    → Some w ≡ best_of us
best_first true w ws us e r o = rw e (sym (first_is_best w ws (rw e at o)))
best_first false w ws us e r o = absurd cc

pub best_is_front : (ws : List Waiting) → Ascends ws → taken_off false ws ≡ take 1 ws
best_is_front [] a = refl
best_is_front (w ∷ ws) a = ap one_or_none (first_is_best w ws a)

pub rest_is_behind : (ws : List Waiting) → Ascends ws → left_on false ws ≡ drop 1 ws
rest_is_behind [] a = refl
rest_is_behind (w ∷ ws) a = ap (λ o. without_best o (w ∷ ws)) (first_is_best w ws a)
    ∙ rw (eq-eqb w.thread w.thread refl) refl

pub some_best : (ws : List Waiting) → ws ≢ [] → taken_off false ws ≢ []
some_best [] ne = ne
some_best (w ∷ ws) ne = λ e. cc

-- the least number is the best's

pub least_is_best : (ws : List Waiting) → least_kept ws ≡ option_map (λ w. w.kept) (best_of ws)
least_is_best [] = refl
least_is_best (w ∷ ws) = ap (λ o. Some (lower o w.kept)) (least_is_best ws) ∙ ap Some (go (best_of ws))
  where
    go : (o : Option Waiting) → lower (option_map (λ (v : Waiting). v.kept) o) w.kept ≡ (better w o).kept
    go None = refl
    go (Some v) = elim (cases_lt v.kept w.kept) [
      | inl l ↦ rw (lt-ltb v.kept w.kept l) (omega arith)
      | inr l ↦ rw (le-ltb v.kept w.kept l) (omega arith)
    ]

-- entries

pub entry_absent : (t : ℕ) (ws : List Waiting) → times_waiting t ws ≡ 0 → entry_of t ws ≡ None
entry_absent t [] none = refl
entry_absent t (w ∷ ws) none =
    elim (eqb t w.thread) as (λ b. one b + times_waiting t ws ≡ 0 → cond b (Some w) (entry_of t ws) ≡ None) [
      | true ↦ λ n. absurd (omega arith)
      | false ↦ λ n. entry_absent t ws (omega arith)
    ] none

pub without_absent : (t : ℕ) (ws : List Waiting) → times_waiting t ws ≡ 0 → without t ws ≡ ws
without_absent t [] none = refl
without_absent t (w ∷ ws) none =
    elim (eqb t w.thread) as (λ b. one b + times_waiting t ws ≡ 0 → cond b ws (w ∷ without t ws) ≡ w ∷ ws) [
      | true ↦ λ n. absurd (omega arith)
      | false ↦ λ n. ap (λ vs. w ∷ vs) (without_absent t ws (omega arith))
    ] none

-- the entry of the best's thread is the best, where each thread stands once
pub best_entry : (ws : List Waiting) → ((t : ℕ) → times_waiting t ws ≤ 1)
    → IfSome (best_of ws) (λ b. (1 ≤ times_waiting b.thread ws) × (entry_of b.thread ws ≡ Some b))
best_entry [] once = tt
best_entry (v ∷ vs) once = go (best_of vs) (best_entry vs (λ t. let l = once t in omega arith))
  where
    Has : Waiting → Type 0
    Has b = (1 ≤ times_waiting b.thread (v ∷ vs)) × (entry_of b.thread (v ∷ vs) ≡ Some b)

    here : Has v
    here = let e = eq-eqb v.thread v.thread refl in (rw e (omega arith), rw e refl)

    behind : (b : Waiting) → (1 ≤ times_waiting b.thread vs) × (entry_of b.thread vs ≡ Some b) → Has b
    behind b h = elim (cases_eq b.thread v.thread) [
      | inl e ↦ let same : one (eqb b.thread v.thread) ≡ 1 = ap one (eq-eqb b.thread v.thread e) in
          let l = once b.thread in
          let k = h.0 in
          absurd (omega arith)
      | inr e ↦ let k = h.0 in (omega arith, rw (ne_eqb b.thread v.thread e) h.1)
    ]

    go : (o : Option Waiting) → IfSome o (λ b. (1 ≤ times_waiting b.thread vs) × (entry_of b.thread vs ≡ Some b))
        → Has (better v o)
    go None h = here
    go (Some b) h = elim (nat_lt b.kept v.kept) as (λ x. Has (cond x b v)) [ true ↦ behind b h | false ↦ here ]

pub best_taken : (ws : List Waiting) (b : Waiting) → ((t : ℕ) → times_waiting t ws ≤ 1) → Some b ≡ best_of ws
    → entry_of b.thread ws ≡ best_of ws
best_taken ws b once e = (subst (λ o. IfSome o (λ v. (1 ≤ times_waiting v.thread ws) × (entry_of v.thread ws ≡ Some v)))
    (sym e) (best_entry ws once)).1 ∙ e
