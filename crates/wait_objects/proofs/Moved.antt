-- A thread that is taken out of its list and added again by its rank.
use Rattle.std.proofs.Common.{◌≡◌, ℕ, ◌≤◌, Bool, true, List, [], ◌∷◌, Some, None, refl, sym, ◌∙◌, inl, inr, arith, eq-eqb}
use Rattle.std.proofs.lemmas.Bool.{cases_eq, ne_eqb}
use Rattle.lock_model.specs.Queues.{Waiter as Waiting, Lists, times_waiting, stands, waiting, insert, without, entry_of, reinsert, with_kept}
use Rattle.lock_model.proofs.Lists.{times_waiting-reinsert, length-reinsert}
use Rattle.wait_objects.specs.Changes.{added}
use Rattle.wait_objects.proofs.Best.{without_absent}

reinsert-present : (t k : ℕ) (ws : List Waiting) → 1 ≤ times_waiting t ws
    → reinsert t k ws ≡ insert (record { thread = t; kept = k }) (without t ws)
reinsert-present t k ws l = rw (ne_eqb (times_waiting t ws) 0 (λ e. omega arith)) refl

reinsert-absent : (t k : ℕ) (ws : List Waiting) → times_waiting t ws ≡ 0 → reinsert t k ws ≡ ws
reinsert-absent t k ws e = rw (eq-eqb (times_waiting t ws) 0 e) refl

-- an entry is of its thread, which stands there
entry_here : (t : ℕ) (w : Waiting) (ws : List Waiting) → Some w ≡ entry_of t ws
    → (w.thread ≡ t) × (1 ≤ times_waiting t ws)
entry_here t w [] e = absurd cc
entry_here t w (v ∷ vs) e = elim (cases_eq t v.thread) [
  | inl same ↦ let b = eq-eqb t v.thread same in (let i = rw b at e in cc, rw b (omega arith))
  | inr other ↦ let more = entry_here t w vs (rw (ne_eqb t v.thread other) at e) in
      let l = more.1 in
      (more.0, omega arith)
]

entry_gone : (t : ℕ) (ws : List Waiting) → None ≡ entry_of t ws → times_waiting t ws ≡ 0
entry_gone t [] e = refl
entry_gone t (v ∷ vs) e = elim (cases_eq t v.thread) [
  | inl same ↦ absurd (let i = rw (eq-eqb t v.thread same) at e in cc)
  | inr other ↦ let b = ne_eqb t v.thread other in let rest = entry_gone t vs (rw b at e) in rw b (omega arith)
]

pub moved : (t k : ℕ) (r : Bool) (w v : Waiting) (ws us vs : List Waiting) → r ≡ true → Some w ≡ entry_of t ws
    → v ≡ record { thread = w.thread; kept = k } → us ≡ without t ws → vs ≡ added r v us → vs ≡ reinsert t k ws
moved t k r w v ws us vs ranked entry new rest e =
    let here = entry_here t w ws entry in
    rw (e, ranked, new, here.0, rest) (sym (reinsert-present t k ws here.1))

pub stayed : (t k : ℕ) (ws us : List Waiting) → None ≡ entry_of t ws → us ≡ without t ws → us ≡ reinsert t k ws
stayed t k ws us entry rest =
    let none = entry_gone t ws entry in
    rest ∙ without_absent t ws none ∙ sym (reinsert-absent t k ws none)

-- both lists, each with the thread's entry added again
pub keeps_once : (t k : ℕ) (q : Lists) → ((u : ℕ) → stands u q ≤ 1) → (u : ℕ) → stands u (with_kept t k q) ≤ 1
keeps_once t k q once u =
    let l = once u in
    let m = times_waiting-reinsert u t k q.exclusive in
    let n = times_waiting-reinsert u t k q.shared in
    omega arith

pub waiting-kept : (t k : ℕ) (q : Lists) → waiting (with_kept t k q) ≡ waiting q
waiting-kept t k q = let m = length-reinsert t k q.exclusive in let n = length-reinsert t k q.shared in omega arith
