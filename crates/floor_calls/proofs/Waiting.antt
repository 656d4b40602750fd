-- A wait, stage after stage: what the thread knows at each, with the giving up of its lock in between and the taking
-- back, allows the next.
use Rattle.floor_calls.proofs.Names
use Names.{ℕ, Bool, true, false, [], length, refl, sym, ap, subst, its_lock, has_released, is_back, may_park, IsThen}
use Names.{IsToTakeBack, IsWaiting, WaitPart, takes_chain, misses_chain, lies_down, misses_record, leaves_some, is_last}
use Names.{halts_on, halts_one, has_halted, is_queued, runs_again, woke, was_halted, lock_of, WaitAt, WaitNext}
use Names.{config_in, is_among, Knowledge, Description, HaltKept, halt_kept_of, may_give_up, under_first}
use Names.{BeginsGivingUp, HasWokenOne, IsReleased, ReleasesOn, ReleasesPart, once_released, as_taken, IsTaking}
use Names.{TakeEnd, TakesOn, TakesPart, at_check, in_round, in_section, kept_at, CanAcquire, HasGained, Kept}
use Names.{MayPutDown, kept_of, ReleaseNext, TakeNext, among_stays, Floor, Pass, IsOf, MayRelease, MayRetake, cause_of}
use Names.{ReleaseAt, ComesTo, Wakes, TakeAt, Checks, Spins, left_in, Holds, hold_in, TakesItem, RecordOf}
use Names.{is_taking_back, stage_of_giving_up, stage_of_taking_back, stage_of_wait, IsAt, HasLeftIts, HoldsIts}
use Names.{IsGivingUp, IsTakingBack, IsToGiveUp, KnowsIts, WaitOn}
use Rattle.std.proofs.Common.{◌≡◌, ◌<◌, ◌∷◌, ◌++◌, ◌∙◌}
use Rattle.cond_vars.specs.declared.parts.WaitAt.TheVariants as waiting
use Rattle.cond_vars.specs.declared.parts.WaitNext.TheVariants as wait
use Rattle.lock_calls.specs.declared.answers.ReleaseNext.TheVariants as given
use Rattle.lock_calls.specs.declared.answers.TakeNext.TheVariants as taken
use Rattle.lock_floor.specs.Relocks.{GivesUp, TakesBack}

-- 1. Its lock, from part to part

module _ (floor : Description) (on : WaitOn) where
  -- what it knows of its lock where it is to do that next
  abbrev pub KnowsThen : WaitNext → Knowledge → Type 0
  KnowsThen wait.Done v = Unit {0}
  KnowsThen wait.Halted v = Unit {0}
  KnowsThen (wait.Again to) v = KnowsIts floor on to v
  KnowsThen wait.Sleep v = HasLeftIts floor on v
  KnowsThen (wait.Wake t to) v = KnowsIts floor on to v
  KnowsThen wait.Release v = HoldsIts floor on v × (on.l.0 < length floor.locks)
  KnowsThen (wait.TakeBack aborted) v = HasLeftIts floor on v

  module _ (v w : Knowledge) where
    holds_still : w.share.held ≡ v.share.held → HoldsIts floor on v → HoldsIts floor on w
    holds_still held i = record { lock = i.lock; held = ap (λ hs. hold_in hs on.l.0) held ∙ i.held }

    left_still : w.share.log ≡ v.share.log → w.thread ≡ v.thread → HasLeftIts floor on v → HasLeftIts floor on w
    left_still log thread i = record {
      lock = i.lock;
      of_floor = i.of_floor;
      left = (λ j. left_in (config_in floor) (log j) (thread j) on.l.0) ∙ i.left;
    }

    left_kept : halt_kept_of w ≡ halt_kept_of v → HasLeftIts floor on v → HasLeftIts floor on w
    left_kept kept = left_still (ap (λ (k : HaltKept). k.log) kept) (ap (λ (k : HaltKept). k.thread) kept)

    pub knows_on : (at : WaitAt) (next : WaitNext) → WaitPart floor on.c at next v w → KnowsIts floor on at v
        → KnowsThen next w
    knows_on at next (takes_chain took) i = holds_still (ap (λ (k : Knowledge). k.share.held) took.view) i
    knows_on at next (misses_chain view finds) i = holds_still (ap (λ (k : Knowledge). k.share.held) view) i
    knows_on at next (lies_down {mid = mid} own lies) i = (
      holds_still (lies.entry.held ∙ ap (λ (k : Knowledge). k.share.held) own.view) i,
      its_lock floor (TakesItem v.thread (RecordOf v.thread) ∷ []) v mid own.step on.l.0 on.mode i.held,
    )
    knows_on at next (misses_record view finds) i = holds_still (ap (λ (k : Knowledge). k.share.held) view) i
    knows_on at next (leaves_some counts kept asleep) i = left_kept kept i
    knows_on at next (is_last counts kept nobody) i = left_kept kept i
    knows_on at next (halts_on from to went nobody) i = left_kept went.kept i
    knows_on at next (halts_one from to t of_floor went other) i = left_kept went.kept i
    knows_on at next (has_halted from end) i = left_kept end.halted.kept i
    knows_on at next (is_queued view found) i = left_kept (ap halt_kept_of view) i
    knows_on at next (runs_again aborted r) i =
        left_still (ap (λ (k : Knowledge). k.share.log) r.view) (ap (λ (k : Knowledge). k.thread) r.view) i
    knows_on at next (woke n) i = tt
    knows_on at next (was_halted n) i = tt

-- 2. It gives its lock up

module _ (floor : Description) (on : WaitOn) (v : Knowledge) where
  module _ (first : IsToGiveUp floor on v) where
    may_release : MayRelease floor on.l.0 v
    may_release = subst (λ k. MayRelease floor k v) (sym first.its.lock) first.release.may

    pub may_put_down : MayPutDown floor on.l.0 on.mode v
    may_put_down = may_give_up floor on.l.0 v may_release on.mode first.its.held

    pub gives_up_first : (at : ReleaseAt) (w : Knowledge) → BeginsGivingUp floor on.l on.mode at v w
        → IsGivingUp floor on at w
    gives_up_first at w begins =
        record { begun = v; first = first; there = begins.there; kept = begins.kept }

    -- behind its end
    gives_up : (at : ReleaseAt) (now w : Knowledge)
        → once_released on.l.0 at now ≡ once_released on.l.0 ComesTo v
        → IsReleased floor on.l on.mode at now w → GivesUp on.l.0 v w
    gives_up at now w since d =
        let kept : once_released on.l.0 Wakes w ≡ once_released on.l.0 ComesTo v = d.kept ∙ since in
        let r = may_release in
        record {
          keeps = record {
            role = ap (λ (k : Knowledge). k.role) kept;
            thread = ap (λ (k : Knowledge). k.thread) kept;
            log = ap (λ (k : Knowledge). k.share.log) kept;
            spare = ap (λ (k : Knowledge). k.spare) kept;
            noted = ap (λ (k : Knowledge). k.share.doing.noted) kept;
            woken_from = ap (λ (k : Knowledge). k.share.doing.woken_from) kept;
          };
          unburdened =
              assumption (ap (λ (k : Knowledge). k.share.doing.walk) kept ∙ r.unburdened.no_walk, d.nobody, d.down.may);
          held = ap (λ (k : Knowledge). k.share.held) kept;
          begun = ap (λ (k : Knowledge). k.share.begun) kept;
          pose = ap (λ (k : Knowledge). k.pose) kept;
          wants = ap (λ (k : Knowledge). k.share.doing.wanted) kept;
          looks = ap (λ (k : Knowledge). k.share.doing.looks) kept;
          takes = ap (λ (k : Knowledge). k.share.doing.taking) kept ∙ r.takes;
          no_round = ap (λ (k : Knowledge). k.share.doing.round) kept ∙ r.no_round;
        }

    module _ (w : Knowledge) (gives : GivesUp on.l.0 v w) (mine : w.description ≡ floor) where
      gives_its : GivesUp (lock_of floor on.c.0) v w
      gives_its = subst (λ k. GivesUp k v w) first.its.lock gives

      parks : IsWaiting floor on.c waiting.Parks w
      parks = (
        has_released floor on.c v first.release w gives_its mine,
        may_park floor on.c v first.release w gives_its mine,
      )

      left_so : left_in (config_in floor) v.share.log v.thread on.l.0 ≡ Holds on.mode
      left_so = subst (λ k. left_in (config_in floor) v.share.log v.thread k ≡ hold_in v.share.held k)
          (sym first.its.lock) first.release.left ∙ first.its.held

      has_left : HasLeftIts floor on w
      has_left = record {
        lock = first.its.lock;
        of_floor = first.of_floor;
        left = (λ j. left_in (config_in floor) (gives.keeps.log j) (gives.keeps.thread j) on.l.0) ∙ left_so;
      }

module _ (floor : Description) (on : WaitOn) (v : Knowledge) (at : ReleaseAt) (s : IsGivingUp floor on at v)
    (w : Knowledge) where
  gives_up_on : (to : ReleaseAt) → ReleasesOn floor on.l on.mode at to v w → IsGivingUp floor on to w
  gives_up_on to went = record {
    begun = s.begun;
    first = s.first;
    there = went.there;
    kept = went.kept ∙ s.kept;
  }

  gives_up_waking : (t : ℕ) → HasWokenOne floor on.l.0 at t v w → IsGivingUp floor on Wakes w
  gives_up_waking t x = record {
    begun = s.begun;
    first = s.first;
    there = x.down;
    kept = x.kept ∙ subst (λ a. once_released on.l.0 a v ≡ once_released on.l.0 ComesTo s.begun) x.at_end s.kept;
  }

  gives_up_end : IsReleased floor on.l on.mode at v w → w.description ≡ floor
      → IsWaiting floor on.c waiting.Parks w × HasLeftIts floor on w
  gives_up_end d mine =
      let gives = gives_up floor on s.begun s.first at v w s.kept d in (
        parks floor on s.begun s.first w gives mine,
        has_left floor on s.begun s.first w gives mine,
      )

-- 3. It takes its lock back

-- where it gains it isn't asleep
kept_at_end : (floor : Description) (on : WaitOn) (at : TakeAt) (v w : Knowledge)
    → TakeEnd floor on.l on.mode at v w → kept_at at v ≡ kept_of v
kept_at_end floor on at v w (at_check each) = refl
kept_at_end floor on at v w (in_round left some each) = refl
kept_at_end floor on at v w (in_section seen gain is each) = refl

module _ (floor : Description) (on : WaitOn) (aborted : Bool) (v : Knowledge) where
  module _ (first : IsToTakeBack floor on.c (cause_of aborted) v) (its : HasLeftIts floor on v) where
    left_its : left_in (config_in floor) v.share.log v.thread (lock_of floor on.c.0) ≡ Holds on.mode
    left_its = subst (λ k. left_in (config_in floor) v.share.log v.thread k ≡ Holds on.mode) its.lock its.left

    may_retake : MayRetake floor on.l.0 on.mode v
    may_retake = subst (λ k. MayRetake floor k on.mode v) (sym its.lock) (first.may on.mode left_its)

    pub takes_back_first : v.description ≡ floor → IsTakingBack floor on aborted (Spins 48) v
    takes_back_first mine = record {
      begun = v;
      first = first;
      its = its;
      unchecked = λ e. let z : Spins 48 ≡ Checks = e in cc;
      under = under_first floor on.l on.mode v mine its.of_floor may_retake;
      kept = refl;
    }

    -- behind its gain
    takes_back : (now w : Knowledge) → kept_of now ≡ kept_of v → HasGained on.l on.mode now w
        → TakesBack on.l on.mode v w
    takes_back now w since g =
        let all : kept_of g.before ≡ kept_of v = g.kept ∙ since in
        let r = may_retake in
        subst (TakesBack on.l on.mode v) (sym g.view) record {
          keeps = record {
            role = ap (λ (k : Kept). k.role) all;
            thread = ap (λ (k : Kept). k.thread) all;
            log = ap (λ (k : Kept). k.log) all;
            spare = ap (λ (k : Kept). k.spare) all;
            noted = ap (λ (k : Kept). k.noted) all;
            woken_from = ap (λ (k : Kept). k.woken_from) all;
          };
          unburdened = record {
            nothing_out = g.gaining.nothing_out;
            no_walk = g.gaining.no_walk;
            unmarked = ap (λ (k : Kept). k.marked) all ∙ r.unburdened.unmarked;
            uncounted = ap (λ (k : Kept). k.counting) all ∙ r.unburdened.uncounted;
            going = record {
              awake = ap (λ (k : Kept). k.phase) all ∙ r.unburdened.going.awake;
              unended = ap (λ (k : Kept). k.has_ended) all ∙ r.unburdened.going.unended;
              stamped = ap (λ (k : Kept). k.unstamped) all ∙ r.unburdened.going.stamped;
            };
          };
          held = ap (λ (k : Kept). k.held ++ as_taken on.l on.mode ∷ []) all;
          begun = λ k other. among_stays on.l.0 k g.before.share.begun (λ e. other (sym e))
              ∙ ap (λ (x : Kept). is_among k x.begun) all;
          runs = g.gaining.runs;
          wants = refl;
          takes = g.gaining.takes;
          looks = refl;
          no_round = refl;
        }

    comes_back : (w : Knowledge) → TakesBack on.l on.mode v w
        → IsWaiting floor on.c (waiting.Notes aborted) w
    comes_back w back =
        is_back floor on.c (cause_of aborted) v first on.l its.lock on.mode left_its w back

module _ (floor : Description) (on : WaitOn) (aborted : Bool) (v : Knowledge) (at : TakeAt)
    (s : IsTakingBack floor on aborted at v) where
  log_then : v.share.log ≡ s.begun.share.log
  log_then = ap (λ (k : Kept). k.log) s.kept

  pub still_back : is_taking_back v.share.log ≡ true
  still_back = ap is_taking_back log_then ∙ (may_retake floor on aborted s.begun s.first s.its).back

  module _ (w : Knowledge) where
    takes_back_on : (to : TakeAt) → TakesOn floor on.l on.mode at to v w → IsTakingBack floor on aborted to w
    takes_back_on to went = record {
      begun = s.begun;
      first = s.first;
      its = s.its;
      unchecked = λ e.
          let checks : IsTaking floor on.l.0 Checks w = subst (λ a. IsTaking floor on.l.0 a w) e went.there in
          let log : w.share.log ≡ v.share.log = ap (λ (k : Kept). k.log) went.kept in
          let z : true ≡ false = sym (ap is_taking_back log ∙ still_back) ∙ checks.may.no_wait in
          cc;
      under = assumption (subst (CanAcquire floor) (sym went.kept) s.under.calling, s.under, went);
      kept = went.kept ∙ s.kept;
    }

    takes_back_end : HasGained on.l on.mode v w → TakeEnd floor on.l on.mode at v w
        → IsWaiting floor on.c (waiting.Notes aborted) w
    takes_back_end g end =
        comes_back floor on aborted s.begun s.first s.its w
        (takes_back floor on aborted s.begun s.first s.its v w (sym (kept_at_end floor on at v w end) ∙ s.kept) g)

-- 4. So at each stage

module _ (f : Floor Description) (on : WaitOn) (p q : Pass Knowledge) (own : IsOf f q) where
  pub wait_goes_on : (at : WaitAt) (part : WaitNext) → KnowsIts f.description on at p.view
      → IsThen f.description on.c part q.view → WaitPart f.description on.c at part p.view q.view
      → IsAt f (stage_of_wait on part) q
  wait_goes_on at part its then went = go part then (knows_on f.description on p.view q.view at part went its)
    where
      go : (n : WaitNext) → IsThen f.description on.c n q.view → KnowsThen f.description on n q.view
          → IsAt f (stage_of_wait on n) q
      go wait.Done t k = record { own = own; rest = t }
      go wait.Halted t k = record { own = own; rest = t }
      go (wait.Again to) t k = (own, t, k)
      go wait.Sleep t k = (own, t, k)
      go (wait.Wake u to) t k = (own, t, k)
      go wait.Release t k = (own, record { release = t; its = k.0; of_floor = k.1 })
      go (wait.TakeBack aborted) t k =
          (own, takes_back_first f.description on aborted q.view t k own.description)

  pub giving_up_goes_on : (at : ReleaseAt) (part : ReleaseNext) → IsGivingUp f.description on at p.view
      → ReleasesPart f.description on.l on.mode at part p.view q.view → IsAt f (stage_of_giving_up on part) q
  giving_up_goes_on at given.Done s went =
      let end = gives_up_end f.description on p.view at s q.view went own.description in (own, end.0, end.1)
  giving_up_goes_on at (given.At to) s went = (own, gives_up_on f.description on p.view at s q.view to went)
  giving_up_goes_on at (given.Wake t) s went =
      (own, gives_up_waking f.description on p.view at s q.view t.0 went)

  pub taking_back_goes_on : (aborted : Bool) (at : TakeAt) (part : TakeNext)
      → IsTakingBack f.description on aborted at p.view
      → TakesPart f.description on.l on.mode at part p.view q.view
      → IsAt f (stage_of_taking_back on aborted part) q
  taking_back_goes_on aborted at taken.Gained s went =
      (own, takes_back_end f.description on aborted p.view at s q.view went.0 went.1, tt)
  taking_back_goes_on aborted at (taken.At to) s went =
      (own, takes_back_on f.description on aborted p.view at s q.view to went.0)
  taking_back_goes_on aborted at (taken.Wake t to) s went =
      (own, takes_back_on f.description on aborted p.view at s q.view to went.on)
