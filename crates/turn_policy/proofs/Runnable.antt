-- The threads that have neither ended nor are idle, one by one.
use Rattle.std.proofs.Common.{◌≡◌, ℕ, ◌+◌, Bool, true, false, not, ◌&&◌, ◌||◌, cond, List, [], ◌∷◌, ◌++◌, Option, Some, None, is_some, refl, sym, ap, ◌∙◌, arith}
use Rattle.std.specs.Prelude.{filter}
use Rattle.std.specs.List.{range_with_len}
use Rattle.std.proofs.lemmas.List.{append-nil, map-append, map-id}
use Rattle.std.proofs.lemmas.List.Elements.{All-push}
use Rattle.std.proofs.lemmas.List.FromFn.{filter_of_map_range_with_len_more}
use Rattle.lock_model.specs.Counts.{is_empty}
use Rattle.lock_model.specs.Operations.{IsProper}
use Rattle.lock_model.specs.Plans.{config_of}
use Rattle.lock_model.specs.Queues.{Mark}
use Rattle.lock_model.specs.declared.plan.Plan.{Plan}
use Rattle.lock_model.specs.declared.turn.Turn.{Turn}
use Rattle.lock_model.specs.declared.turn.Turn.TheVariants.{Did, Idle, Ended}
use Rattle.lock_state.specs.Run.{Run, has_ended, is_walking, owed_release, owes, turn_of}
use Rattle.lock_state.specs.State.{Wait, Running, Queued, Woken, Walk, NoWalk, AtLock, AtThread}
use Rattle.run_laws.specs.OnTrack.{IsOnTrack, IsSleeping}
use Rattle.run_laws.proofs.Idle.{ended_exactly, idle_exactly}
use Rattle.turn_policy.specs.Choosing.{AreCandidates, gathered, is_gathered, is_queued}
use Rattle.turn_policy.specs.Policies.{acts, contenders, owing, priority_of, runnable}
use Rattle.turn_policy.specs.declared.choosing.Candidate.{Candidate}

-- 1. One thread

not_some : (o : Option ℕ) → is_some o ≡ false → o ≡ None
not_some None e = refl
not_some (Some x) e = absurd cc

nothing_owed : (k : Walk) (ms : List Mark) (o : Option ℕ) → (is_walking k || not (is_empty ms) || is_some o) ≡ false
    → (k ≡ NoWalk) × ((ms ≡ []) × (o ≡ None))
nothing_owed NoWalk [] o e = (refl, (refl, not_some o e))
nothing_owed NoWalk (m ∷ ms) o e = absurd cc
nothing_owed (AtLock l) ms o e = absurd cc
nothing_owed (AtThread t) ms o e = absurd cc

queued_is : (w : Wait) → is_queued w ≡ true → w ≡ Queued
queued_is Queued e = refl
queued_is Running e = absurd cc
queued_is (Woken q cause) e = absurd cc

module _ (plan : Plan) (r : Run) (t : ℕ) where
  -- one that has ended does nothing
  ended_rests : has_ended plan r t ≡ true → acts (turn_of plan r t).answer ≡ false
  ended_rests e = ap acts ((ended_exactly plan r t).1 e)

  module _ (p : IsProper plan) (k : IsOnTrack plan r) (going : has_ended plan r t ≡ false) where
    asleep : owes (config_of plan) r.state t ≡ false → is_queued (r.state.wait t) ≡ true → IsSleeping plan r t
    asleep free e =
        let q = nothing_owed (r.state.walk t) (r.state.marked t) (owed_release (config_of plan) r.state t) free in
        record {
          going = going;
          queued = queued_is (r.state.wait t) e;
          free = record { no_walk = q.0; unmarked = q.1.0; released = q.1.1 };
        }

    awake : IsSleeping plan r t → (owes (config_of plan) r.state t || not (is_queued (r.state.wait t))) ≡ false
    awake z = rw (z.free.no_walk, z.free.unmarked, z.free.released, z.queued) refl

    -- another does something where it owes something, or isn't queued
    acts_by : (a : Turn) → (turn_of plan r t).answer ≡ a → (owed queued : Bool) → owes (config_of plan) r.state t ≡ owed
        → is_queued (r.state.wait t) ≡ queued → acts a ≡ (owed || not queued)
    acts_by Ended e owed queued f g = absurd (let z = sym going ∙ (ended_exactly plan r t).0 e in cc)
    acts_by Idle e owed queued f g = sym (awake ((idle_exactly plan r t p k).0 e))
        ∙ ap (λ (b : Bool). b || not (is_queued (r.state.wait t))) f ∙ ap (λ (b : Bool). owed || not b) g
    acts_by (Did kind) e true queued f g = refl
    acts_by (Did kind) e false false f g = refl
    acts_by (Did kind) e false true f g = absurd (let z = sym e ∙ (idle_exactly plan r t p k).1 (asleep f g) in cc)

    acts_is : acts (turn_of plan r t).answer ≡ (owes (config_of plan) r.state t || not (is_queued (r.state.wait t)))
    acts_is = acts_by (turn_of plan r t).answer refl (owes (config_of plan) r.state t) (is_queued (r.state.wait t)) refl
        refl

  -- So it is gathered: not where it has ended,
  pub not_gathered : (owing_only : Bool) → has_ended plan r t ≡ true → false ≡ is_gathered owing_only plan r t
  not_gathered true e = rw (ended_rests e) refl
  not_gathered false e = sym (ended_rests e)

  -- but where it owes something,
  pub gathered_owing : (owing_only : Bool) → IsProper plan → IsOnTrack plan r → has_ended plan r t ≡ false
      → owes (config_of plan) r.state t ≡ true → true ≡ is_gathered owing_only plan r t
  gathered_owing true p k going e = rw (acts_is p k going, e) refl
  gathered_owing false p k going e = rw (acts_is p k going, e) refl

  -- and else where it isn't queued and all are wanted
  pub gathered_running : (owing_only : Bool) → IsProper plan → IsOnTrack plan r → has_ended plan r t ≡ false
      → owes (config_of plan) r.state t ≡ false
      → (not owing_only && not (is_queued (r.state.wait t))) ≡ is_gathered owing_only plan r t
  gathered_running true p k going e = rw e (go (acts (turn_of plan r t).answer))
    where
      go : (b : Bool) → false ≡ (b && false)
      go true = refl
      go false = refl
  gathered_running false p k going e = rw (acts_is p k going, e) refl

-- 2. The first threads

-- those of the threads below n
abbrev pub gathered_below : Bool → Plan → Run → ℕ → List ℕ
gathered_below owing_only plan r n = filter (is_gathered owing_only plan r) (range_with_len 0 n)

gathered_more : (owing_only : Bool) (plan : Plan) (r : Run) (n : ℕ) (b : Bool) → is_gathered owing_only plan r n ≡ b
    → gathered_below owing_only plan r (n + 1) ≡ gathered_below owing_only plan r n ++ cond b (n ∷ []) []
gathered_more owing_only plan r n b e =
    let p : ℕ → Bool = is_gathered owing_only plan r in
    ap (filter p) (sym (map-id (range_with_len 0 (n + 1))))
    ∙ filter_of_map_range_with_len_more p (λ k. k) 0 n n (omega arith)
    ∙ ap (λ (xs : List ℕ). filter p xs ++ cond (p n) (n ∷ []) []) (map-id (range_with_len 0 n))
    ∙ ap (λ (c : Bool). gathered_below owing_only plan r n ++ cond c (n ∷ []) []) e

pub gathered_stays : (owing_only : Bool) (plan : Plan) (r : Run) (n : ℕ) → is_gathered owing_only plan r n ≡ false
    → gathered_below owing_only plan r (n + 1) ≡ gathered_below owing_only plan r n
gathered_stays owing_only plan r n e = gathered_more owing_only plan r n false e
    ∙ append-nil (gathered_below owing_only plan r n)

pub gathered_grows : (owing_only : Bool) (plan : Plan) (r : Run) (n : ℕ) → is_gathered owing_only plan r n ≡ true
    → gathered_below owing_only plan r (n + 1) ≡ gathered_below owing_only plan r n ++ n ∷ []
gathered_grows owing_only plan r n e = gathered_more owing_only plan r n true e

-- 3. Candidates

pub one_more_candidate : (heeds_loans : Bool) (r : Run) (ts : List ℕ) (cs : List Candidate) (c : Candidate)
    → AreCandidates heeds_loans r ts cs → c.priority.0 ≡ priority_of heeds_loans r.state c.thread.0
    → AreCandidates heeds_loans r (ts ++ c.thread.0 ∷ []) (cs ++ c ∷ [])
one_more_candidate heeds_loans r ts cs c h e = record {
  threads = map-append (λ (d : Candidate). d.thread.0) cs (c ∷ [])
      ∙ ap (λ (xs : List ℕ). xs ++ c.thread.0 ∷ []) h.threads;
  priorities = All-push (λ (d : Candidate). d.priority.0 ≡ priority_of heeds_loans r.state d.thread.0) cs c h.priorities
      e;
}
