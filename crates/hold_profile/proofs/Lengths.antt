-- How many entries a legal history has: two for each operation of the plan at most, and all are of its threads.
use Rattle.std.proofs.Common.{◌≡◌, ℕ, ◌*◌, ◌<◌, ◌≤◌, Option, List, [], ◌∷◌, length, reverse, map, sym, ap, subst, arith}
use Rattle.std.specs.Prelude.{unwrap_or}
use Rattle.std.specs.List.{All}
use Rattle.std.proofs.lemmas.Option.{slice_get_past}
use Rattle.std.proofs.lemmas.List.{length-map, length-reverse, reverse-reverse, reverse-append}
use Rattle.std.proofs.lemmas.List.Elements.{All-head, All-tail, All-push}
use Rattle.std.proofs.lemmas.List.Sums.{sum-map}
use Rattle.lock_model.specs.Counts.{sum_below}
use Rattle.lock_model.specs.Plans.{operations_of}
use Rattle.lock_model.specs.Operations.{IsProper}
use Rattle.lock_model.specs.History.{entries_of}
use Rattle.lock_model.specs.Law.{EntriesFollowOperations}
use Rattle.lock_model.specs.declared.plan.Op.{Op}
use Rattle.lock_model.specs.declared.plan.Plan.{Plan}
use Rattle.lock_model.specs.declared.plan.ThreadDecl.{ThreadDecl}
use Rattle.lock_model.specs.declared.event.Entry.{Entry}
use Rattle.lock_history.specs.Tickets.{InOrder}
use Rattle.lock_history.proofs.Merged.{InOrder-reverse}
use Rattle.run_laws.proofs.Entries.{sum_below-most, sum_below-twice, in_all, leads_few, AreOf, counted}
use Rattle.hold_profile.specs.Histories.{IsHistoryOf}

-- 1. Threads

-- the threads of a list are those of the list turned
threads_turned : (n : ℕ) (es : List Entry) → All (λ (e : Entry). e.thread.0 < n) es
    → All (λ (e : Entry). e.thread.0 < n) (reverse es)
threads_turned n [] h = h
threads_turned n (e ∷ es) h =
    subst (All (λ (x : Entry). x.thread.0 < n)) (sym (reverse-append (e ∷ []) es))
    (All-push (λ (x : Entry). x.thread.0 < n) (reverse es) e
    (threads_turned n es (All-tail (λ (x : Entry). x.thread.0 < n) e es h))
    (All-head (λ (x : Entry). x.thread.0 < n) e es h))

-- 2. What a legal history has

pub record IsInLimits (plan : Plan) (es : List Entry) : Type 0 where
  pub tickets : InOrder es
  pub few : length es ≤ 40000
  pub threads : All (λ (e : Entry). e.thread.0 < length plan.threads) es

pub in_limits : (plan : Plan) (es : List Entry) → IsProper plan → IsHistoryOf plan es → IsInLimits plan es
unfolding EntriesFollowOperations
in_limits plan es p h = record {
  tickets = subst InOrder (reverse-reverse es) (InOrder-reverse (reverse es) h.legal.so_far.tickets_run);
  few =
      omega (
        arith,
        all.count,
        length-reverse es,
        most,
        sum-map (λ (d : ThreadDecl). length d.ops) plan.threads,
        in_all
            plan.threads,
        p.operations,
      );
  threads =
      subst (All (λ (e : Entry). e.thread.0 < length plan.threads)) (reverse-reverse es)
      (threads_turned (length plan.threads) (reverse es) all.threads);
}
  where
    entries : ℕ → ℕ
    entries u = length (entries_of (reverse es) u)

    each : (u : ℕ) → entries u ≤ 2 * length (operations_of plan u)
    each u =
        let follows = h.legal.entries_follow_operations u in
        let its = leads_few plan p u (entries_of (reverse es) u) follows.point follows.leads in
        omega (arith, its.few, its.within)

    none_beyond : (u : ℕ) → length plan.threads ≤ u → entries u ≡ 0
    none_beyond u l =
        let none : operations_of plan u ≡ [] =
        ap (λ (o : Option (List Op)). unwrap_or o [])
        (slice_get_past (map (λ (d : ThreadDecl). d.ops) plan.threads) u
        (omega (arith, length-map plan.threads (λ (d : ThreadDecl). d.ops)))) in
        omega (arith, each u, ap length none)

    all : AreOf (length plan.threads) (reverse es)
    all = counted (length plan.threads) (reverse es) none_beyond

    most : sum_below (length plan.threads) entries ≤ 2 * sum_below (length plan.threads)
        (λ u. length (operations_of plan u))
    most = omega (
      arith,
      sum_below-most (length plan.threads) entries (λ u. 2 * length (operations_of plan u)) each,
      sum_below-twice (length plan.threads) (λ u. length (operations_of plan u)),
    )

-- and so has a list that is the same
pub limits_of : (plan : Plan) (es fs : List Entry) → fs ≡ es → IsProper plan → IsHistoryOf plan es
    → IsInLimits plan fs
limits_of plan es fs is p h = subst (IsInLimits plan) (sym is) (in_limits plan es p h)
