-- The parts of a wait: what each finds allows what it does, and it leaves what the next needs.
use Rattle.std.proofs.Common.{◌≡◌, ◌≢◌, ℕ, ◌%◌, ◌<◌, ◌≤◌, Bool, true, false, Some, None, List, [], ◌∷◌, length, sym, ap, ◌∙◌, subst, arith}
use Rattle.std.specs.declared.alloc.Global.{Global}
use Rattle.std.specs.declared.boxed.Box.{Box}
use Rattle.lock_laws.proofs.HeldLists.{Apart}
use Rattle.lock_model.specs.Limits.{most_held}
use Rattle.lock_model.specs.Operations.{hold_in, is_last}
use Rattle.lock_model.specs.Queues.{chan_queue}
use Rattle.lock_model.specs.declared.numbers.ChanNo.{ChanNo}
use Rattle.lock_model.specs.declared.numbers.ThreadNo.{ThreadNo}
use Rattle.lock_model.specs.declared.plan.QueueName.{QueueName}
use Rattle.lock_state.specs.Steps.{TakesItem, CountsOut}
use Rattle.lock_state.specs.Steps.Items.{RecordOf, in_its_chain}
use Rattle.sleep_queues.specs.Seen.{SleepQueue}
use Rattle.thread_records.specs.declared.record.ThreadRec.{ThreadRec}
use Rattle.floor_table.specs.Steps.{Makes, MayMake}
use Rattle.floor_table.specs.Views.{Knowledge, is_off_queues, seeing}
use Rattle.floor_table.specs.declared.description.Description.{Description}
use Rattle.floor_table.specs.declared.slot.Slot.TheVariants.{Record, SleepQueues}
use Rattle.lock_floor.specs.declared.counts.Count.TheVariants.{Out}
use Rattle.lock_floor.specs.declared.queues.HaltAt.{HaltAt}
use Rattle.lock_floor.specs.declared.queues.HaltAt.TheVariants as at
use Rattle.lock_floor.specs.Counts.{counted}
use Rattle.lock_floor.specs.Latches.{FindsOut, Takes}
use Rattle.lock_floor.specs.Passes.{IsAtRest}
use Rattle.lock_floor.specs.Resumes.{FindsQueued, RunsAgain, cause_of}
use Rattle.lock_floor.specs.Views.{took}
use Rattle.lock_floor.specs.Waits.{its_chain, chain_place}
use Rattle.lock_floor.proofs.MayWait.{may_take_record}
use Rattle.lock_floor.proofs.OwnRecords.{own_sleep_queue}
use Rattle.lock_floor.proofs.Priorities.{a_record}
use Rattle.lock_floor.proofs.Resting.{at_rest, rest_seeing}
use Rattle.halting.specs.Halts.{EndsHalting, HaltsOn, HasHalted, IsAt, MayCountOut, WakesNoOther, WakesOther, kept_of}
use Rattle.halting.proofs.Coming.{wakes_of_floor}
use Rattle.halting.proofs.Counted.{is_counted_out, is_last_of}
use Rattle.cond_vars.specs.declared.parts.WaitAt.TheVariants as places
use Rattle.cond_vars.specs.declared.parts.WaitNext.TheVariants as next
use Rattle.cond_vars.specs.Parts.{IsComingIn, IsToRelease, IsToTakeBack, HasReleased, IsParked, IsWaiting, WaitPart, takes_chain, misses_chain, lies_down, misses_record, leaves_some, is_last as was_last, halts_on, halts_one, has_halted, is_queued, runs_again, woke, was_halted}
use Rattle.cond_vars.specs.Sleeping.{MayLieDown, LiesThere, NotesEnd, with_none_out}
use Rattle.cond_vars.specs.Waits.{MayWait, lock_of}
use Rattle.cond_vars.proofs.Coming.{a_sleep_chain, filled}
use Rattle.cond_vars.proofs.HeldLocks.{apart, held_alone, last_held, gained_last}
use Rattle.cond_vars.proofs.Places.{IsAlone, to_release, to_take_back}

-- 1. It takes the chain

-- who may wait may still, where it holds what it held and has room for as much
waits_like : (floor : Description) (d : ℕ) (v w : Knowledge) → w.share.held ≡ v.share.held → w.spare ≡ v.spare
    → MayWait floor d v → MayWait floor d w
waits_like floor d v w held spare may = record {
  chan = may.chan;
  last = subst (λ hs. is_last (lock_of floor d) hs ≡ true) (sym held) may.last;
  sleepable = λ k other t. ap (λ hs. hold_in hs k) held ∙ may.sleepable k other t;
  few = subst (λ hs. length hs ≤ most_held) (sym held) may.few;
  room = subst (λ n. 2 ≤ n) (sym spare) may.room;
}

module _ (floor : Description) (d : ChanNo) (v : Knowledge) (h : IsAtRest floor v × MayWait floor d.0 v)
    (new : Knowledge) where
  abbrev q : QueueName
  q = chan_queue d.0

  pub comes_in : Takes floor (its_chain floor q) (chain_place floor q) v new → IsComingIn floor d new
  comes_in taken =
      let chain : (chain : List (QueueName × SleepQueue)) × (taken.value ≡ SleepQueues chain) =
      a_sleep_chain (d.0 % floor.chains) taken.value taken.kind in
      let r = h.0 in
      record {
        may = waits_like floor d.0 v new (ap (λ (k : Knowledge). k.share.held) taken.view)
            (ap (λ (k : Knowledge). k.spare) taken.view) h.1;
        rest = subst (IsAtRest floor) (sym (ap with_none_out taken.view))
            (at_rest floor (seeing new.seen
            (with_none_out (took v (its_chain floor q) (chain_place floor q) taken.value)))
            (assumption (ap in_its_chain r.no_round, r)) r.no_last_look r.sections r.begun);
        chain = chain.0;
        out = ap (λ (k : Knowledge). k.out) taken.view ∙ (λ i. (chain_place floor q, chain.1 i) ∷ r.nothing_out i);
      }

  pub took_chain : Takes floor (its_chain floor q) (chain_place floor q) v new
      → WaitPart floor d places.ComesTo (next.Again places.ComesIn) v new
  took_chain taken = takes_chain taken

  module _ (same : new ≡ seeing new.seen v) where
    pub still_coming : IsAtRest floor new × MayWait floor d.0 new
    still_coming = (
      subst (IsAtRest floor) (sym same) (rest_seeing floor v new.seen h.0),
      waits_like floor d.0 v new (ap (λ (k : Knowledge). k.share.held) same) (ap (λ (k : Knowledge). k.spare) same)
          h.1,
    )

    pub missed_chain : FindsOut floor (its_chain floor q) v new
        → WaitPart floor d places.ComesTo (next.Again places.ComesTo) v new
    missed_chain finds = misses_chain same finds

-- 2. It takes its record, and lies down

module _ (floor : Description) (d : ChanNo) (u : Knowledge) (m : IsComingIn floor d u) where
  abbrev queue : QueueName
  queue = chan_queue d.0

  -- the thread is one of the floor's
  pub low : u.description ≡ floor → (who : ℕ) → who ≡ u.thread → who < length u.description.threads
      → u.thread < length floor.threads
  low of who is small = subst (λ t. t < length floor.threads) is
      (subst (λ (x : Description). who < length x.threads) of small)

  pub may_take_own : (who : ℕ) → who ≡ u.thread → who < length floor.threads
      → MayMake floor u (λ s. s.record_with who ≡ None) (TakesItem u.thread (RecordOf who) ∷ [])
  may_take_own who is low =
      may_take_record floor u queue (SleepQueues m.chain) m.out who low m.rest.runs
      record { awake = m.rest.going.awake; unended = m.rest.going.unended; stamped = m.rest.going.stamped }

  module _ (new : Knowledge) (same : new ≡ seeing new.seen u) where
    pub still_coming_in : IsComingIn floor d new
    still_coming_in = record {
      may = waits_like floor d.0 u new (ap (λ (k : Knowledge). k.share.held) same)
          (ap (λ (k : Knowledge). k.spare) same) m.may;
      rest = subst (IsAtRest floor) (sym (ap with_none_out same))
          (rest_seeing floor (with_none_out u) new.seen m.rest);
      chain = m.chain;
      out = ap (λ (k : Knowledge). k.out) same ∙ m.out;
    }

    pub missed_record : (who : ℕ) → who ≡ u.thread → FindsOut floor (RecordOf who) u new
        → WaitPart floor d places.ComesIn (next.Again places.ComesIn) u new
    missed_record who is finds = misses_record same (subst (λ t. FindsOut floor (RecordOf t) u new) is finds)

  module _ (low : u.thread < length floor.threads) (v : Knowledge)
      (own : Takes floor (RecordOf u.thread) u.thread u v) where
    abbrev l : ℕ
    l = lock_of floor d.0

    abbrev box_is : (b : Box ThreadRec Global) × (own.value ≡ Record b)
    box_is = a_record u.thread own.value own.kind

    v_thread : v.thread ≡ u.thread
    v_thread = ap (λ (k : Knowledge). k.thread) own.view

    v_held : v.share.held ≡ u.share.held
    v_held = ap (λ (k : Knowledge). k.share.held) own.view

    v_spare : v.spare ≡ u.spare
    v_spare = ap (λ (k : Knowledge). k.spare) own.view

    apart_now : Apart v.share.held
    apart_now = subst Apart (sym v_held) (apart floor (TakesItem u.thread (RecordOf u.thread) ∷ []) u v own.step)

    alone_now : IsAlone floor l v
    alone_now mode held mtx =
        held_alone floor (TakesItem u.thread (RecordOf u.thread) ∷ []) u v own.step l mode
        (sym (ap (λ hs. hold_in hs l) v_held) ∙ held) low mtx

    own_now : (x : ℕ) × (box_is.0.value.sleep_queue ≡ Some x)
    own_now = filled box_is.0.value.sleep_queue
        (own_sleep_queue floor u v box_is.0 own box_is.1 (ap is_off_queues m.rest.runs))

    may_now : MayWait floor d.0 v
    may_now = waits_like floor d.0 u v v_held v_spare m.may

    pub may_lie_down : MayLieDown floor d.0 v
    may_lie_down =
        let last = gained_last l v.share.held may_now.last apart_now in
        record {
          chan = m.may.chan;
          holds = last_held l v.share.held may_now.last;
          others = last.0;
          last = last.1;
          room = omega (arith, may_now.room);
          rest = subst (IsAtRest floor) (sym (ap with_none_out own.view))
              (rest_seeing floor (with_none_out u) v.seen m.rest);
          sleeper = record {
            box = box_is.0;
            chain = m.chain;
            out = ap (λ (k : Knowledge). k.out) own.view ∙ (λ i. (u.thread, box_is.1 i) ∷ m.out i)
                ∙ (λ i. (sym v_thread i, Record box_is.0) ∷ (chain_place floor queue, SleepQueues m.chain) ∷ []);
          };
          own = own_now.0;
          home = own_now.1;
        }

    module _ (new : Knowledge) (lies : LiesThere floor d v new) where
      pub then_release : IsToRelease floor d new
      then_release = to_release floor d v may_now may_lie_down apart_now alone_now new lies

      pub lay_down : WaitPart floor d places.ComesIn next.Release u new
      lay_down = lies_down own lies

-- 3. It counts itself out, and halts others

-- who has halted is parked, or aborted itself
parked_then : (floor : Description) (old new : Knowledge) → HasHalted floor old new → IsParked new
parked_then floor old new halted = assumption halted

module _ (floor : Description) (d : ChanNo) (v : Knowledge) (h : HasReleased floor d (kept_of v)) (new : Knowledge)
  where
    -- what stays
    released_then : kept_of new ≡ kept_of v → HasReleased floor d (kept_of new)
    released_then kept = subst (HasReleased floor d) (sym kept) h

    module _ (may : MayCountOut floor v) (found : ℕ) (view : new ≡ seeing new.seen (counted Out found v))
        (step : Makes floor (CountsOut v.thread ∷ []) v new) where
      pub then_halts : found ≡ 1 → IsWaiting floor d (places.Halts at.Finds) new
      then_halts one =
          let last = is_last_of floor found v new may view one in
          (released_then last.1.0, last.0)

      pub counted_last : found ≡ 1 → WaitPart floor d places.Parks (next.Again (places.Halts at.Finds)) v new
      counted_last one =
          let last = is_last_of floor found v new may view one in
          was_last step last.1.0 last.1.1

      pub then_sleeps : found ≢ 1 → IsWaiting floor d places.Sleeps new
      then_sleeps more =
          let out = is_counted_out floor found v new may view more in
          (released_then out.0.kept, parked_then floor v new out.0)

      pub counted_out : found ≢ 1 → WaitPart floor d places.Parks next.Sleep v new
      counted_out more =
          let out = is_counted_out floor found v new may view more in
          leaves_some step out.0.kept out.1

    module _ (there : HaltAt) where
      pub halted_then : EndsHalting floor there v new → IsWaiting floor d places.Sleeps new
      halted_then e = (released_then e.halted.kept, parked_then floor v new e.halted)

      pub halted_part : EndsHalting floor there v new → WaitPart floor d (places.Halts there) next.Sleep v new
      halted_part e = has_halted there e

      pub halts_then : (to : HaltAt) → HaltsOn floor there to v new → IsWaiting floor d (places.Halts to) new
      halts_then to on = (released_then on.kept, on.at)

      pub halts_part : (to : HaltAt) → HaltsOn floor there to v new → WakesNoOther v new
          → WaitPart floor d (places.Halts there) (next.Again (places.Halts to)) v new
      halts_part to on nobody = halts_on there to on nobody

      pub halts_one_part : IsAt floor there v → (to : HaltAt) (t : ThreadNo) → HaltsOn floor there to v new
          → WakesOther t.0 v new → WaitPart floor d (places.Halts there) (next.Wake t (places.Halts to)) v new
      halts_one_part h to t on other = halts_one there to t (wakes_of_floor floor there v new t.0 h other) on other

    -- 4. It sleeps

    module _ (p : IsParked v) where
      pub still_parked : new ≡ seeing new.seen v → IsWaiting floor d places.Sleeps new
      still_parked same = (
        released_then (ap kept_of same),
        subst IsParked (sym same) (assumption p),
      )

      pub found_queued : new ≡ seeing new.seen v → FindsQueued floor v new
          → WaitPart floor d places.Sleeps next.Sleep v new
      found_queued same found = is_queued same found

      module _ (aborted : Bool) (r : RunsAgain floor (cause_of aborted) v new) where
        pub then_take_back : IsToTakeBack floor d (cause_of aborted) new
        then_take_back = to_take_back floor d v h p (cause_of aborted) new r

        pub ran_again : WaitPart floor d places.Sleeps (next.TakeBack aborted) v new
        ran_again = runs_again aborted r

-- 5. It notes how its sleep ended

module _ (floor : Description) (d : ChanNo) (aborted : Bool) (v new : Knowledge)
    (n : NotesEnd floor d (cause_of aborted) v new) where
  pub noted_halt : aborted ≡ true → WaitPart floor d (places.Notes aborted) next.Halted v new
  noted_halt is = subst (λ b. WaitPart floor d (places.Notes b) next.Halted v new) (sym is)
      (was_halted (subst (λ b. NotesEnd floor d (cause_of b) v new) is n))

  pub noted_wake : aborted ≡ false → WaitPart floor d (places.Notes aborted) next.Done v new
  noted_wake is = subst (λ b. WaitPart floor d (places.Notes b) next.Done v new) (sym is)
      (woke (subst (λ b. NotesEnd floor d (cause_of b) v new) is n))
