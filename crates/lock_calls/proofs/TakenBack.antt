-- A lock is taken back within a wait: a take that checks no order and makes no entry, part after part.
use Rattle.lock_calls.proofs.Names
use Names.{ℕ, true, Some, None, [], length, inl, inr, refl, sym, ap, subst, arith, lock_queue, chan_queue, LockNo, Mode}
use Names.{SleepHalted, is_taking_back, Description, is_among, Knowledge, TakeAt, Checks, Spins, ComesIn, Contends}
use Names.{Walks, Hops, Halts, Sleeps, MayRetake, TakesBack, WasEnded, among_stays, Acquires, as_taken}
use Names.{IsUnderAcquiring, TakesOn, TakeLeg, TakeEnd, kept_at, admitted, looks, takes_chain, comes_in, looks_there}
use Names.{enters, takes_turnstiles, hops, counts_out, is_last, halts_on, has_halted, resumes, finds_out, is_queued}
use Names.{at_check, in_round, in_section, Kept, kept_of, CanAcquire, HasGained}
use Rattle.std.proofs.Common.{◌≡◌, ◌≢◌, ◌<◌, ◌∷◌, ◌++◌, ◌∙◌}
use Rattle.lock_floor.specs.declared.queues.HaltAt.TheVariants as halts
use Rattle.lock_calls.proofs.Taken as taken
use Rattle.lock_calls.proofs.Taken.{begins_back, goes_on, ends}

-- 1. What it begins with

-- the end of its sleep is to be noted: by a signal, or by an abort of that sleep
not_on_its_way : (v : Knowledge) → WasEnded v → v.share.doing.woken_from ≡ None
    → ((d : ℕ) → v.share.doing.noted ≡ Some (SleepHalted (chan_queue d)) → ⊥) → ⊥
not_on_its_way v (d, inl woken) unwoken unhalted = let z : None ≡ Some d = sym unwoken ∙ woken.0 in cc
not_on_its_way v (d, inr halted) unwoken unhalted = unhalted d halted

no_lock_halted : (v : Knowledge) → WasEnded v → (l : ℕ) → v.share.doing.noted ≡ Some (SleepHalted (lock_queue l)) → ⊥
no_lock_halted v (d, inl woken) l e = let z : None ≡ Some (SleepHalted (lock_queue l)) = sym woken.1 ∙ e in cc
no_lock_halted v (d, inr halted) l e =
    let z : Some (SleepHalted (chan_queue d)) ≡ Some (SleepHalted (lock_queue l)) = sym halted ∙ e in cc

module _ (floor : Description) (l : LockNo) (mode : Mode) (v : Knowledge) (mine : v.description ≡ floor)
    (low : l.0 < length floor.locks) (r : MayRetake floor l.0 mode v) where
  pub under_first : IsUnderAcquiring floor l mode (Spins 48) v
  under_first = record {
    covered = record { lock = low; mutex = r.mutex };
    calling = record {
      description = mine;
      going = r.unburdened.going;
      unmarked = r.unburdened.unmarked;
      uncounted = r.unburdened.uncounted;
      sections = r.sections;
      unhalted = no_lock_halted v r.ended;
      awake = λ back. not_on_its_way v r.ended;
    };
    there = (
      assumption (no_lock_halted v r.ended, r),
      omega (arith, r.looks),
    );
  }

-- 2. Where it stands

-- it doesn't come to a check of its order
off_checks : (floor : Description) (l : LockNo) (mode : Mode) (at to : TakeAt) (old new : Knowledge)
    → TakeLeg floor l mode at to old new → at ≢ Checks → to ≢ Checks
off_checks floor l mode at to old new (admitted seen left rest found few each saw other leaves) off e =
    let z : Spins rest ≡ Checks = e in cc
off_checks floor l mode at to old new (looks seen left n rest word some on leaves) off e =
    let z : Spins rest ≡ Checks = e in cc
off_checks floor l mode at to old new (takes_chain step) off e = let z : ComesIn ≡ Checks = e in cc
off_checks floor l mode at to old new (comes_in seen each) off e = let z : Contends seen ≡ Checks = e in cc
off_checks floor l mode at to old new (looks_there seen found other step) off e =
    let z : Contends found ≡ Checks = e in cc
off_checks floor l mode at to old new (enters seen x w each) off e = let z : Walks w ≡ Checks = e in cc
off_checks floor l mode at to old new (takes_turnstiles w took) off e = let z : Hops w ≡ Checks = e in cc
off_checks floor l mode at to old new (hops w t on) off e = let z : Walks t ≡ Checks = e in cc
off_checks floor l mode at to old new (counts_out step asleep) off e = let z : Sleeps ≡ Checks = e in cc
off_checks floor l mode at to old new (is_last step last) off e = let z : Halts halts.Finds ≡ Checks = e in cc
off_checks floor l mode at to old new (halts_on a b on) off e = let z : Halts b ≡ Checks = e in cc
off_checks floor l mode at to old new (has_halted a end) off e = let z : Sleeps ≡ Checks = e in cc
off_checks floor l mode at to old new (resumes left cause few again step) off e =
    let z : Spins left ≡ Checks = e in cc
off_checks floor l mode at to old new (finds_out a i needs view finds) off e = off e
off_checks floor l mode at to old new (is_queued view queued) off e = let z : Sleeps ≡ Checks = e in cc

pub record RetakesSince (floor : Description) (l : LockNo) (mode : Mode) (begun : Knowledge) (at : TakeAt)
    (now : Knowledge) : Type 0 where
  pub off : at ≢ Checks
  pub under : IsUnderAcquiring floor l mode at now
  pub kept : kept_at at now ≡ kept_of begun
  pub is_at : taken.IsAt floor l.0 mode true begun at now

-- where it gains it isn't asleep
kept_at_end : (floor : Description) (l : LockNo) (mode : Mode) (at : TakeAt) (old new : Knowledge)
    → TakeEnd floor l mode at old new → kept_at at old ≡ kept_of old
kept_at_end floor l mode at old new (at_check each) = refl
kept_at_end floor l mode at old new (in_round left some each) = refl
kept_at_end floor l mode at old new (in_section seen gain is each) = refl

module _ (floor : Description) (l : LockNo) (mode : Mode) (begun : Knowledge) (r : MayRetake floor l.0 mode begun) where
  pub retakes_first : begun.description ≡ floor → l.0 < length floor.locks
      → RetakesSince floor l mode begun (Spins 48) begun
  retakes_first mine low = record {
    off = λ e. let z : Spins 48 ≡ Checks = e in cc;
    under = under_first floor l mode begun mine low r;
    kept = refl;
    is_at = begins_back floor l.0 mode 48 begun (omega arith);
  }

  module _ (at : TakeAt) (now new : Knowledge) (s : RetakesSince floor l mode begun at now) where
    its : now.thread ≡ begun.thread
    its = ap (λ (k : Kept). k.thread) s.kept

    pub is_back : is_taking_back now.share.log ≡ true
    is_back = ap (λ (k : Kept). is_taking_back k.log) s.kept ∙ r.back

    pub retakes_on : (to : TakeAt) → TakesOn floor l mode at to now new → RetakesSince floor l mode begun to new
    retakes_on to on = assumption (
      off_checks floor l mode at to now new on.leg s.off,
      subst (CanAcquire floor) (sym on.kept) s.under.calling,
      on.kept ∙ s.kept,
      goes_on floor l mode true begun now new its
          (ap (λ (k : Kept). k.thread) on.kept ∙ its) at to is_back s.under.there s.is_at on.leg,
      s.under,
      on,
    )

    -- 3. Its end

    module _ (g : HasGained l mode now new) (end : TakeEnd floor l mode at now new) where
      all : kept_of g.before ≡ kept_of begun
      all = g.kept ∙ sym (kept_at_end floor l mode at now new end) ∙ s.kept

      pub taken_back : TakesBack l mode begun new
      taken_back = record {
        keeps = record {
          role = ap (λ (k : Knowledge). k.role) g.view ∙ ap (λ (k : Kept). k.role) all;
          thread = ap (λ (k : Knowledge). k.thread) g.view ∙ ap (λ (k : Kept). k.thread) all;
          log = ap (λ (k : Knowledge). k.share.log) g.view ∙ ap (λ (k : Kept). k.log) all;
          spare = ap (λ (k : Knowledge). k.spare) g.view ∙ ap (λ (k : Kept). k.spare) all;
          noted = ap (λ (k : Knowledge). k.share.doing.noted) g.view ∙ ap (λ (k : Kept). k.noted) all;
          woken_from = ap (λ (k : Knowledge). k.share.doing.woken_from) g.view ∙ ap (λ (k : Kept). k.woken_from) all;
        };
        unburdened = rw g.view (assumption (
          ap (λ (k : Kept). k.marked) all ∙ r.unburdened.unmarked,
          ap (λ (k : Kept). k.counting) all ∙ r.unburdened.uncounted,
          ap (λ (k : Kept). k.phase) all ∙ r.unburdened.going.awake,
          ap (λ (k : Kept). k.has_ended) all ∙ r.unburdened.going.unended,
          ap (λ (k : Kept). k.unstamped) all ∙ r.unburdened.going.stamped,
          g.gaining,
        ));
        held = ap (λ (k : Knowledge). k.share.held) g.view ∙ ap (λ (k : Kept). k.held ++ as_taken l mode ∷ []) all;
        begun = λ k other. ap (λ (x : Knowledge). is_among k x.share.begun) g.view
            ∙ among_stays l.0 k g.before.share.begun (λ e. other (sym e)) ∙ ap (λ (x : Kept). is_among k x.begun) all;
        runs = ap (λ (k : Knowledge). k.pose) g.view ∙ g.gaining.runs;
        wants = ap (λ (k : Knowledge). k.share.doing.wanted) g.view;
        takes = ap (λ (k : Knowledge). k.share.doing.taking) g.view ∙ g.gaining.takes;
        looks = ap (λ (k : Knowledge). k.share.doing.looks) g.view;
        no_round = ap (λ (k : Knowledge). k.share.doing.round) g.view;
      }

      pub back_steps : Acquires floor l.0 mode true begun new
      back_steps = ends floor l mode true begun now new its at s.is_at end
