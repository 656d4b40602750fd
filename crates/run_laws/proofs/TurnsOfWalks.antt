-- The turns of a thread with a walk: their steps may be made, and they leave the run on track.
use Rattle.run_laws.proofs.Names
use Names.{ℕ, true, false, ltb, [], length, Some, None, sym, arith, subst, ltb-true, ltb-false, and_parts, is_turnstile}
use Names.{owner_of, config_of, IsProper, Config, lock_queue, stands, State, Walk, AtLock, AtThread, Lends, Shifts}
use Names.{EndsWalk, MayLend, MayShift, MayEndWalk, after_lend, after_shift, after_end_walk, OwnersHold, Run, does}
use Names.{Plan, Lock, LockNo, IsOnTrack, head_lock}
use Rattle.std.proofs.Common.{◌≡◌, ◌⊎◌, ◌<◌, ◌∷◌, ◌∙◌}
use Rattle.lock_state.specs.Steps.Lending.{IsAtEnd}
use Rattle.lock_model.specs.declared.turn.StepKind.TheVariants as kind
use Rattle.run_laws.proofs.OnTrack.{KeepsTrack, none_unnoted, is_there}
use Rattle.run_laws.proofs.Actions.{stands_at}

module _ (plan : Plan) (r : Run) (t : ℕ) (p : IsProper plan) (k : IsOnTrack plan r) (lt : t < length plan.threads) where
  abbrev c : Config
  c = config_of plan

  abbrev s : State
  s = r.state

  -- 1. A walk at a lock

  pub may_lend : (l o h : ℕ) → s.walk t ≡ AtLock l → owner_of (s.word l).holder ≡ Some o
      → s.head (lock_queue l) ≡ Some h → MayLend c s t l o h
  unfolding OwnersHold
  may_lend l o h w e f = record {
    thread = lt;
    lock = head_lock c s l h k.lawful.lawful (k.walks t l w) f;
    walks = w;
    head = f;
    owned = k.lawful.lawful.loans.owners_hold l ∙ rw (k.walks t l w, f) e;
  }

  pub lent : (l o h : ℕ) → KeepsTrack plan r t (does kind.Lend (Lends t l o h ∷ []))
  unfolding after_lend
  lent l o h = record {
    asks = (tt, tt);
    out = k.lawful.nothing_out;
    stands = k.lawful.queued_stands;
    noted = none_unnoted plan r t k;
    no_halts = k.no_halts;
    there = is_there plan r t k;
    back = k.back_wants t;
  }

  -- a walk with nothing to do
  pub may_end : (w : Walk) → s.walk t ≡ w → IsAtEnd c s w → MayEndWalk c s t
  may_end w e a = record { thread = lt; there = subst (IsAtEnd c s) (sym e) a }

  pub may_end_at_lock : (l : ℕ) → s.walk t ≡ AtLock l
      → (owner_of (s.word l).holder ≡ None) ⊎ (s.head (lock_queue l) ≡ None) → MayEndWalk c s t
  unfolding OwnersHold
  may_end_at_lock l w e = grind arith

  pub walk_ended : KeepsTrack plan r t (does kind.WalkEnd (EndsWalk t ∷ []))
  unfolding after_end_walk
  walk_ended = record {
    asks = (tt, tt);
    out = k.lawful.nothing_out;
    stands = k.lawful.queued_stands;
    noted = none_unnoted plan r t k;
    no_halts = k.no_halts;
    there = is_there plan r t k;
    back = k.back_wants t;
  }

  -- 2. A walk at a thread

  pub may_shift : (o : ℕ) (l : LockNo) → s.walk t ≡ AtThread o → s.blocked_on o ≡ Some (Lock l)
      → stands_at plan r o l.0 ≡ true → MayShift c s t o l.0
  may_shift o l w e i =
      let parts = and_parts (is_turnstile (c.kind l.0)) (ltb 0 (stands o (s.lists (lock_queue l.0)))) i in
      record {
        thread = lt;
        turnstile = parts.0;
        walks = w;
        blocked_on = e;
        stands = ltb-true 0 (stands o (s.lists (lock_queue l.0))) parts.1;
      }

  pub shifted : (o l : ℕ) → KeepsTrack plan r t (does kind.Shift (Shifts t o l ∷ []))
  unfolding after_shift
  shifted o l = record {
    asks = (tt, tt);
    out = k.lawful.nothing_out;
    stands = k.lawful.queued_stands;
    noted = none_unnoted plan r t k;
    no_halts = k.no_halts;
    there = is_there plan r t k;
    back = k.back_wants t;
  }

  pub may_end_at_thread : (o : ℕ) → s.walk t ≡ AtThread o
      → ((l : LockNo) → s.blocked_on o ≡ Some (Lock l) → stands_at plan r o l.0 ≡ false) → MayEndWalk c s t
  may_end_at_thread o w off = may_end (AtThread o) w (λ l i j.
      let z : ltb 0 (stands o (s.lists (lock_queue l))) ≡ false = rw i at (off (record { 0 = l }) j) in
      omega (arith, ltb-false 0 (stands o (s.lists (lock_queue l))) z))
