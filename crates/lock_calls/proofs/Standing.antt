-- A take whose thread stands on the lock's queue: it makes hop after hop of its walk, counts itself out, halts others
-- where that left nobody awake, and runs again where it was woken.
use Rattle.lock_calls.proofs.Names
use Names.{ℕ, Bool, true, false, Option, Some, None, [], length, refl, sym, ap, subst, inl, arith, most_held, hold_in}
use Names.{Cause, BySignal, ByAbort, lock_queue, is_turnstile, LockNo, Mode, QueueName, walk_of, Woken, NoWalk, AtLock}
use Names.{AtThread, Awake, CountsOut, Resumes, RecordOf, is_taking_back, called_after, wanted_after, noted_after}
use Names.{taking_by, woken_from_by, round_for, WakesFitQueues, config_in, Description, Makes, MayMake, Doing, Runs}
use Names.{StandsOn, Knowledge, seeing, Spins, Walks, Hops, Halts, Sleeps, Out, HaltAt, counted, FindsOut, Takes}
use Names.{cause_of, resumed, FindsQueued, MayRunAgain, RunsAgain, CanWalk, HasTurnstilesOut, HopsOn, NeedsRecord}
use Names.{turnstiles, turnstiles_place, may_run_again, EndsHalting, HaltsOn, IsAt, MayCountOut, WakesOther}
use Names.{wakes_of_floor, is_counted_out, is_last_of, may_count, IsStanding, IsHaltingThere, IsParked, TakesOn}
use Names.{WakesInTake, kept_at, takes_turnstiles, hops, counts_out, is_last, halts_on, has_halted, resumes, finds_out}
use Names.{is_queued, Kept, kept_of, CanAcquire}
use Rattle.std.proofs.Common.{◌≡◌, ◌≢◌, ◌<◌, ◌≤◌, ◌∷◌, ◌∙◌}
use Rattle.prio_lending.specs.declared.walk.Walk as run_time
use Rattle.prio_lending.specs.declared.walk.Walk.TheVariants as walk
use Rattle.lock_floor.specs.declared.queues.HaltAt.TheVariants as halts
use Rattle.halting.specs.Halts as halting

-- 1. What stays

pub standing_still : (l : ℕ) (there : run_time.Walk) (v w : Knowledge) → w ≡ seeing w.seen v → IsStanding l there v
    → IsStanding l there w
standing_still l there v w view m = subst (IsStanding l there) (sym view) (assumption m)

parked_still : (l : ℕ) (v w : Knowledge) → w ≡ seeing w.seen v → IsParked l v → IsParked l w
parked_still l v w view m = subst (IsParked l) (sym view) (assumption (
  standing_still l walk.None v (seeing w.seen v) refl m.standing,
  m,
))

pub walk_still : (floor : Description) (v w : Knowledge) → w ≡ seeing w.seen v → CanWalk floor v → CanWalk floor w
walk_still floor v w view m = subst (CanWalk floor) (sym view) (assumption m)

turnstiles_still : (floor : Description) (v w : Knowledge) → w ≡ seeing w.seen v → HasTurnstilesOut floor v
    → HasTurnstilesOut floor w
turnstiles_still floor v w view m = subst (HasTurnstilesOut floor) (sym view) record {
  one_chain = m.one_chain;
  on_floor = m.on_floor;
  settled = m.settled;
  no_round = m.no_round;
  going = record { awake = m.going.awake; unended = m.going.unended; stamped = m.going.stamped };
  chain = m.chain;
  out = m.out;
  owners = m.owners;
}

-- 2. Hops

-- a walk that is somewhere hasn't ended
pub under_way : (there : run_time.Walk) → there ≢ walk.None → walk_of there ≢ NoWalk
under_way walk.None ne e = ne refl
under_way (walk.AtLock l) ne e = let z : AtLock l.0 ≡ NoWalk = e in cc
under_way (walk.AtThread o) ne e = let z : AtThread o.0 ≡ NoWalk = e in cc

module _ (floor : Description) (l : LockNo) (mode : Mode) (there : run_time.Walk) (old new : Knowledge)
    (m : IsStanding l.0 there old) where
  pub begins_hop : there ≢ walk.None → Takes floor turnstiles (turnstiles_place floor) old new
      → HasTurnstilesOut floor new → TakesOn floor l mode (Walks there) (Hops there) old new
  begins_hop ne taken has = record {
    there = (
      subst (IsStanding l.0 there) (sym taken.view) (assumption m),
      has,
      under_way there ne,
    );
    kept = ap kept_of taken.view;
    leg = takes_turnstiles there taken;
  }

  pub stays_walking : there ≢ walk.None → CanWalk floor old → new ≡ seeing new.seen old
      → FindsOut floor turnstiles old new → TakesOn floor l mode (Walks there) (Walks there) old new
  stays_walking ne can view finds = record {
    there = (standing_still l.0 there old new view m, walk_still floor old new view can);
    kept = ap kept_of view;
    leg = finds_out (Walks there) turnstiles (ne, refl) view finds;
  }

  pub goes_hopping : (to : run_time.Walk) → HasTurnstilesOut floor old → HopsOn floor (walk_of to) old new
      → TakesOn floor l mode (Hops there) (Walks to) old new
  goes_hopping to has h = record {
    there = (
      subst (IsStanding l.0 to) (sym h.view) (assumption m),
      subst (CanWalk floor) (sym h.view) (assumption (has, h)),
    );
    kept = ap kept_of h.view;
    leg = hops there to h;
  }

  pub stays_hopping : HasTurnstilesOut floor old → walk_of there ≢ NoWalk → new ≡ seeing new.seen old
      → (o : ℕ) × NeedsRecord floor o old × FindsOut floor (RecordOf o) old new
      → TakesOn floor l mode (Hops there) (Hops there) old new
  stays_hopping has ne view finds = record {
    there = (standing_still l.0 there old new view m, turnstiles_still floor old new view has, ne);
    kept = ap kept_of view;
    leg = finds_out (Hops there) (RecordOf finds.0) (finds.0, finds.1, refl) view finds.2;
  }

-- 3. It counts itself out

module _ (floor : Description) (l : LockNo) (mode : Mode) (z : Knowledge) (m : IsStanding l.0 walk.None z)
    (can : CanWalk floor z) (calls : CanAcquire floor (kept_of z)) where
  counts_itself : MayCountOut floor z
  counts_itself = record {
    aside = record {
      description = calls.description;
      is_out = inl (lock_queue l.0, m.stands, tt);
      no_round = can.no_round;
      no_walk = sym m.walk_is;
      stamped = can.going.stamped;
    };
    uncounted = calls.uncounted;
    nothing_out = can.nothing_out;
    unmarked = calls.unmarked;
    awake = can.going.awake;
  }

  pub may_park : MayMake floor z (λ s. Unit {0}) (CountsOut z.thread ∷ [])
  may_park = may_count floor z counts_itself

  module _ (new : Knowledge) (found : ℕ) (view : new ≡ seeing new.seen (counted Out found z))
      (step : Makes floor (CountsOut z.thread ∷ []) z new) where
    stands_out : IsStanding l.0 walk.None new
    stands_out = subst (IsStanding l.0 walk.None) (sym view) (assumption m)

    -- others are awake
    pub goes_to_sleep : (found ≡ 1 → ⊥) → TakesOn floor l mode (Walks walk.None) Sleeps z new
    goes_to_sleep others =
        let out = is_counted_out floor found z new counts_itself view others in
        record {
          there = assumption (stands_out, out.0);
          kept = ap (kept_at Sleeps) view ∙ (λ i. record (kept_of z) { phase = sym calls.going.awake i });
          leg = counts_out step out.1;
        }

    -- it was the last
    pub begins_halting : found ≡ 1 → TakesOn floor l mode (Walks walk.None) (Halts halts.Finds) z new
    begins_halting alone =
        let last = is_last_of floor found z new counts_itself view alone in
        record {
          there = record { standing = stands_out; halts = last.0 };
          kept = ap (kept_at (Halts halts.Finds)) view
              ∙ (λ i. record (kept_of z) { phase = sym calls.going.awake i; marked = sym calls.unmarked i });
          leg = is_last step last.0;
        }

-- 4. It halts others

-- where it halts it has nobody counted in
uncounted_at : (floor : Description) (at : HaltAt) (v : Knowledge) → IsAt floor at v → v.share.doing.counting ≡ None
uncounted_at floor halts.Finds v h = h.uncounted
uncounted_at floor (halts.Comes over itself) v h = h.0.uncounted
uncounted_at floor (halts.Aborts over itself) v h = h.0.uncounted
uncounted_at floor (halts.Wakes over itself) v h = h.0.uncounted

-- what a take keeps of what a halting keeps
abbrev as_taking : halting.Kept → Option ℕ → Kept
as_taking k counting = record {
  role = k.role;
  description = k.description;
  thread = k.thread;
  spare = k.spare;
  held = k.held;
  begun = k.begun;
  log = k.log;
  marked = [];
  noted = k.noted;
  woken_from = k.woken_from;
  unstamped = k.unstamped;
  counting = counting;
  phase = Awake;
  has_ended = k.has_ended;
}

module _ (floor : Description) (l : LockNo) (mode : Mode) (at : HaltAt) (z new : Knowledge)
    (h : IsHaltingThere floor l.0 at z) where
  module _ (kept : halting.kept_of new ≡ halting.kept_of z) (uncounted : new.share.doing.counting ≡ None) where
    stands_halting : IsStanding l.0 walk.None new
    stands_halting = record {
      unheld = ap (λ (k : halting.Kept). hold_in k.held l.0) kept ∙ h.standing.unheld;
      few = subst (λ hs. length hs < most_held) (sym (ap (λ (k : halting.Kept). k.held) kept)) h.standing.few;
      wants = ap (λ (k : halting.Kept). k.wanted) kept ∙ h.standing.wants;
      takes = ap (λ (k : halting.Kept). k.taking) kept ∙ h.standing.takes;
      stands = ap (λ (k : halting.Kept). k.pose) kept ∙ h.standing.stands;
      walk_is = h.standing.walk_is ∙ sym (ap (λ (k : halting.Kept). k.walk) kept);
    }

    keeps_halting : (to : HaltAt) → kept_at (Halts to) new ≡ kept_at (Halts at) z
    keeps_halting to i = as_taking (kept i) ((uncounted ∙ sym (uncounted_at floor at z h.halts)) i)

  pub halts_further : (to : HaltAt) → HaltsOn floor at to z new → TakesOn floor l mode (Halts at) (Halts to) z new
  halts_further to on =
      let uncounted = uncounted_at floor to new on.at in
      record {
        there = record { standing = stands_halting on.kept uncounted; halts = on.at };
        kept = keeps_halting on.kept uncounted to;
        leg = halts_on at to on;
      }

  pub wakes_another : (to : HaltAt) (t : ℕ) → HaltsOn floor at to z new → WakesOther t z new
      → WakesInTake floor l mode (Halts at) (Halts to) t z new
  wakes_another to t on w = record {
    on = halts_further to on;
    wakes = w;
    of_floor = wakes_of_floor floor at z new t h.halts w;
  }

  pub is_done_halting : EndsHalting floor at z new → TakesOn floor l mode (Halts at) Sleeps z new
  is_done_halting e = record {
    there = assumption (stands_halting e.halted.kept e.halted.uncounted, e.halted);
    kept = (λ i. record (kept_at Sleeps new) { marked = e.halted.unmarked i })
        ∙ keeps_halting e.halted.kept e.halted.uncounted at;
    leg = has_halted at e;
  }

-- 5. It runs again

-- who stands on a lock's turnstile is woken by a signal
pub by_signal : (floor : Description) (l : ℕ) → is_turnstile ((config_in floor).kind l) ≡ true
    → (old new : Knowledge) (q : QueueName) (cause : Cause)
    → q ≡ lock_queue l → Makes floor (Resumes old.thread q cause ∷ []) old new → cause ≡ BySignal
unfolding WakesFitQueues
by_signal floor l turnstile old new q cause is m =
    m.sound.turnstiles.wakes_fit_queues old.thread (lock_queue l) cause
    (subst (λ r. m.state.wait old.thread ≡ Woken r cause) is m.may.0.fits.may.woken) turnstile

module _ (floor : Description) (l : LockNo) (mode : Mode) (z : Knowledge) (p : IsParked l.0 z)
    (calls : CanAcquire floor (kept_at Sleeps z)) where
  abbrev m : IsStanding l.0 walk.None z
  m = p.standing

  pub may_wake_up : MayRunAgain floor z
  may_wake_up =
      may_run_again floor z (lock_queue l.0) m.stands p.nothing_out (sym m.walk_is) calls.going.stamped p.at_resume tt

  pub sleeps_on : (new : Knowledge) → new ≡ seeing new.seen z → FindsQueued floor z new
      → TakesOn floor l mode Sleeps Sleeps z new
  sleeps_on new view queued = record {
    there = parked_still l.0 z new view p;
    kept = ap (kept_at Sleeps) view;
    leg = is_queued view queued;
  }

  -- what it knows then, in a wait or not
  abbrev ran_by : Cause → Bool → Knowledge
  ran_by cause back =
      let x : Doing = z.share.doing in
      let q : QueueName = lock_queue l.0 in
      let after : Doing = record x {
        called = called_after q cause x.called;
        wanted = wanted_after (config_in floor) q cause back x.wanted;
        noted = noted_after q cause back x.noted;
        taking = taking_by (config_in floor) q x.taking;
        woken_from = woken_from_by q cause x.woken_from;
        looks = 0;
        round = round_for (wanted_after (config_in floor) q cause back x.wanted);
        phase = Awake;
      } in
      record z { share = record z.share { doing = after }; pose = Runs }

  -- it wants the lock still, in a round of it
  abbrev running : Option ℕ → Knowledge
  running called =
      let after : Doing = record z.share.doing {
        called = called;
        looks = 0;
        round = round_for z.share.doing.wanted;
        phase = Awake;
      } in
      record z { share = record z.share { doing = after }; pose = Runs }

  module _ (new : Knowledge) (called : Option ℕ) (is : new ≡ seeing new.seen (running called)) where
    no_looks : new.share.doing.looks ≡ 0
    no_looks = ap (λ (k : Knowledge). k.share.doing.looks) is

    runs_on : (left : ℕ) (cause : Cause) → left ≤ 48 → (cause ≡ ByAbort → is_taking_back z.share.log ≡ true)
        → Makes floor (Resumes z.thread (lock_queue l.0) cause ∷ []) z new
        → TakesOn floor l mode Sleeps (Spins left) z new
    runs_on left cause few again step = record {
      there = (
        record {
          unheld = ap (λ (k : Knowledge). hold_in k.share.held l.0) is ∙ m.unheld;
          few = subst (λ hs. length hs < 8) (sym (ap (λ (k : Knowledge). k.share.held) is)) m.few;
          wants = ap (λ (k : Knowledge). k.share.doing.wanted) is ∙ m.wants;
          takes = ap (λ (k : Knowledge). k.share.doing.taking) is ∙ m.takes;
          unhalted = λ k e. calls.unhalted k (sym (ap (λ (x : Knowledge). x.share.doing.noted) is) ∙ e);
          round = ap (λ (k : Knowledge). k.share.doing.round) is ∙ ap round_for m.wants;
          no_walk = ap (λ (k : Knowledge). k.share.doing.walk) is ∙ sym m.walk_is;
          runs = ap (λ (k : Knowledge). k.pose) is;
          nothing_out = ap (λ (k : Knowledge). k.out) is ∙ p.nothing_out;
          going = rw is (assumption calls.going);
        },
        omega (arith, few, no_looks),
      );
      kept = ap kept_of is;
      leg = resumes left cause few again step;
    }

  module _ (new : Knowledge) (aborted : Bool) (r : RunsAgain floor (cause_of aborted) z new) where
    its_queue : r.queue ≡ lock_queue l.0
    its_queue = let same : StandsOn r.queue ≡ StandsOn (lock_queue l.0) = sym r.stands ∙ m.stands in cc

    resumed_by : (cause : Cause) → cause_of aborted ≡ cause
        → new ≡ seeing new.seen (ran_by cause (is_taking_back z.share.log))
    resumed_by cause is = r.view ∙ (λ i. seeing new.seen (resumed (config_in floor) z (its_queue i) (is i)))

    step_by : (cause : Cause) → cause_of aborted ≡ cause
        → Makes floor (Resumes z.thread (lock_queue l.0) cause ∷ []) z new
    step_by cause is = subst (λ (p : QueueName × Cause). Makes floor (Resumes z.thread p.0 p.1 ∷ []) z new)
        (λ i. (its_queue i, is i)) r.step

    -- by a signal
    pub wakes_up : aborted ≡ false → (left : ℕ) → left ≤ 48 → TakesOn floor l mode Sleeps (Spins left) z new
    wakes_up is left few =
        runs_on new (Some l.0) (resumed_by BySignal (ap cause_of is)) left BySignal few
        (λ e. absurd (let x : BySignal ≡ ByAbort = e in cc)) (step_by BySignal (ap cause_of is))

    -- within a wait by an abort too
    pub wakes_back : is_taking_back z.share.log ≡ true → (left : ℕ) → left ≤ 48
        → TakesOn floor l mode Sleeps (Spins left) z new
    wakes_back back left few = go aborted refl
      where
        go : (b : Bool) → aborted ≡ b → TakesOn floor l mode Sleeps (Spins left) z new
        go false is = wakes_up is left few
        go true is =
            runs_on new z.share.doing.called
            (resumed_by ByAbort (ap cause_of is) ∙ (λ i. seeing new.seen (ran_by ByAbort (back i)))) left ByAbort few
            (λ e. back) (step_by ByAbort (ap cause_of is))
