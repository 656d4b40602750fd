-- The entries of a thread in both lists, where it stands at most once.
use Rattle.std.proofs.Common.{◌≡◌, ◌≢◌, ℕ, ◌+◌, ◌≤◌, ◌<◌, true, false, cond, eqb, List, [], ◌∷◌, Some, refl, sym, ap, ◌∙◌, arith, append-nil}
use Rattle.lock_model.specs.Counts.{one}
use Rattle.lock_model.specs.Queues.{Waiter as Waiting, Lists, list_of, with_list, times_waiting, stands, one_or_none, entry_of, without}
use Rattle.lock_model.specs.declared.plan.Side.{Side}
use Rattle.lock_model.specs.declared.plan.Side.TheVariants.{X, S}
use Rattle.lock_model.specs.declared.numbers.ThreadNo.{ThreadNo}
use Rattle.wait_objects.specs.declared.which.Which.TheVariants.{Thread}
use Rattle.wait_objects.specs.Changes.{left}
use Rattle.wait_objects.specs.SleepQueues.Seen.{Contents}
use Rattle.wait_objects.specs.SleepQueues.Changes.{lists_of, with_lists, waiters, left_by, entries_of, without_thread}
use Rattle.wait_objects.proofs.Best.{entry_absent, without_absent}

no_entries : (t : ℕ) (q : Lists) → stands t q ≡ 0 → (entries_of t q ≡ []) × (without_thread t q ≡ q)
no_entries t q none =
    let x : times_waiting t q.exclusive ≡ 0 = omega arith in
    let s : times_waiting t q.shared ≡ 0 = omega arith in (
      rw (entry_absent t q.exclusive x, entry_absent t q.shared s) refl,
      rw (without_absent t q.exclusive x, without_absent t q.shared s) refl,
    )

pub not_removed : (t : ℕ) (c : Contents) → stands t (lists_of c) ≡ 0
    → c ≡ left_by (entries_of t (lists_of c)) (without_thread t (lists_of c)) c
not_removed t c none =
    let no = no_entries t (lists_of c) none in
    sym (ap (λ ws. left_by ws (without_thread t (lists_of c)) c) no.0 ∙ ap (λ q. with_lists q c) no.1)

pub entries_on : (side : Side) (t : ℕ) (q : Lists) → stands t q ≤ 1 → 0 < times_waiting t (list_of side q)
    → entries_of t q ≡ one_or_none (entry_of t (list_of side q))
entries_on X t q once here =
    rw (entry_absent t q.shared (omega arith)) (append-nil (one_or_none (entry_of t q.exclusive)))
entries_on S t q once here = rw (entry_absent t q.exclusive (omega arith)) refl

without_on : (side : Side) (t : ℕ) (q : Lists) → stands t q ≤ 1 → 0 < times_waiting t (list_of side q)
    → without_thread t q ≡ with_list side (without t (list_of side q)) q
without_on X t q once here = rw (without_absent t q.shared (omega arith)) refl
without_on S t q once here = rw (without_absent t q.exclusive (omega arith)) refl

pub stands_on : (side : Side) (t : ℕ) (q : Lists) → 0 < times_waiting t (list_of side q) → 0 < stands t q
stands_on X t q here = omega arith
stands_on S t q here = omega arith

pub some_entry : (t : ℕ) (ws : List Waiting) → 0 < times_waiting t ws → one_or_none (entry_of t ws) ≢ []
some_entry t [] here = absurd (omega arith)
some_entry t (w ∷ ws) here =
    elim (eqb t w.thread)
    as (λ b. 0 < one b + times_waiting t ws → one_or_none (cond b (Some w) (entry_of t ws)) ≢ []) [
      | true ↦ λ h e. cc
      | false ↦ λ h. some_entry t ws (omega arith)
    ] here

pub removed : (side : Side) (t : ThreadNo) (c : Contents) → stands t.0 (lists_of c) ≤ 1
    → 0 < times_waiting t.0 (waiters side c)
    → left (Thread t) side c ≡ left_by (entries_of t.0 (lists_of c)) (without_thread t.0 (lists_of c)) c
removed side t c once here = sym
    (ap (λ ws. left_by ws (without_thread t.0 (lists_of c)) c) (entries_on side t.0 (lists_of c) once here)
    ∙ ap (λ q. left_by (one_or_none (entry_of t.0 (waiters side c))) q c) (without_on side t.0 (lists_of c) once here))
