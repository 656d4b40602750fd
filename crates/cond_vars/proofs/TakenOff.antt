-- A wake of a channel takes sleepers off: the channel's chain is taken, the best sleeper or all go to the marked list,
-- that is noted, and the chain is given back. Then the thread is at rest, but for those whom it has yet to wake.
use Rattle.std.proofs.Common.{◌≡◌, ℕ, ◌+◌, ◌%◌, ◌≤◌, Bool, true, false, Option, Some, None, List, [], ◌∷◌, map, count_ones, refl, sym, ap, ◌∙◌, subst, inl, arith}
use Rattle.atomic_table.specs.Table.{rest}
use Rattle.chain_table.specs.Chains.{head_of}
use Rattle.lock_laws.proofs.Kit.{put_same}
use Rattle.lock_model.specs.Config.{Config}
use Rattle.lock_model.specs.Queues.{Waiter, chan_queue}
use Rattle.lock_model.specs.declared.event.Entry.{Entry}
use Rattle.lock_model.specs.declared.event.Event.{Event}
use Rattle.lock_model.specs.declared.numbers.ChanNo.{ChanNo}
use Rattle.lock_model.specs.declared.plan.QueueName.{QueueName}
use Rattle.lock_model.specs.declared.plan.Side.TheVariants.{X}
use Rattle.lock_objects.specs.Represents.{mark_of}
use Rattle.lock_objects.specs.Sleeps.{chain_woken}
use Rattle.lock_state.specs.State.{Wake}
use Rattle.lock_state.specs.Steps.{GivesItem, Stamps, Wakes}
use Rattle.lock_state.specs.Steps.Items.{Item, is_bound, in_its_chain}
use Rattle.lock_state.specs.Steps.LockWords.{bits_of_threads, is_taking_back, changes_base, changes_table, changes_sections, round_after, unstamped_after}
use Rattle.lock_state.specs.Steps.SleepQueues.{after_wake}
use Rattle.sleep_queues.specs.Seen.{SleepQueue, Place}
use Rattle.floor_table.specs.Descriptions.{config_in}
use Rattle.floor_table.specs.Shares.{Doing, ShareColumns}
use Rattle.floor_table.specs.Steps.{Makes, MayMake}
use Rattle.floor_table.specs.Views.{Knowledge, Runs, seeing}
use Rattle.floor_table.specs.declared.description.Description.{Description}
use Rattle.floor_table.specs.declared.slot.Slot.{Slot}
use Rattle.floor_table.specs.declared.slot.Slot.TheVariants.{SleepQueues}
use Rattle.lock_floor.specs.Latches.{Takes}
use Rattle.lock_floor.specs.Marks.{with_marks}
use Rattle.lock_floor.specs.Passes.{IsGoing, IsAtRest}
use Rattle.lock_floor.specs.Sleeps.{HasSleepersOut, MayWakeSleepers, WakesSleepers, sleepers_woken, out_woken, woke}
use Rattle.lock_floor.specs.Views.{took, gave, entry_by, stamped}
use Rattle.lock_floor.specs.Waits.{its_chain, chain_place}
use Rattle.lock_floor.proofs.Finding.{share_behind}
use Rattle.lock_floor.proofs.MaySleep.{waking, may_wake_sleepers, has_woken_up, may_stamp_waking}
use Rattle.lock_floor.proofs.MayWait.{may_give_chain}
use Rattle.lock_floor.proofs.Resting.{IsIdle, rest_noted, rest_seeing}
use Rattle.cond_vars.specs.Wakes.{MayWakeUp, HasTakenOff, threads_woken, wake_of}
use Rattle.cond_vars.proofs.Bits.{bits_counted}
use Rattle.cond_vars.proofs.Coming.{a_sleep_chain}

-- 1. The entry

module _ (d : ChanNo) (woken : ℕ) where
  same_entry : (all : Bool) → waking all d woken ≡ wake_of all d woken
  same_entry false = refl
  same_entry true = refl

  pub keeps_base : (all : Bool) → changes_base (wake_of all d woken) ≡ false
  keeps_base false = refl
  keeps_base true = refl

  pub keeps_tables : (all : Bool) → changes_table (wake_of all d woken) ≡ false
  keeps_tables false = refl
  keeps_tables true = refl

  keeps_sections : (all : Bool) → changes_sections (wake_of all d woken) ≡ false
  keeps_sections false = refl
  keeps_sections true = refl

  no_round_after : (all : Bool) → round_after (wake_of all d woken) None ≡ None
  no_round_after false = refl
  no_round_after true = refl

  -- behind it no wake is to be noted
  notes_it : (all : Bool) (w : Option Wake) → unstamped_after (wake_of all d woken) w ≡ None
  notes_it false w = refl
  notes_it true w = refl

-- 2. Who is taken

threads_marked : (q : QueueName) (ps : List Place) → map (λ m. m.thread) (map (mark_of q) ps) ≡ map (λ p. p.thread) ps
threads_marked q [] = refl
threads_marked q (p ∷ ps) = ap (λ us. p.thread ∷ us) (threads_marked q ps)

taken_in : Option Wake → List ℕ
taken_in None = []
taken_in (Some wake) = wake.taken

-- the wake takes them off the queue as it is at that moment
taken_are : (floor : Description) (d : ℕ) (all : Bool) (woken : ℕ) (old new : Knowledge)
    → (w : WakesSleepers floor d all woken old new)
    → map (λ p. p.thread) (sleepers_woken d all w.sleepers.chain)
    ≡ threads_woken all (w.step.state.lists (chan_queue d)).exclusive
unfolding after_wake taken_in
taken_are floor d all woken old new w =
    let knows = ap (λ (k : Knowledge). taken_in k.share.doing.unstamped) w.view in
    let says = ap (λ (x : ShareColumns). taken_in x.doing.unstamped)
    (share_behind floor (Wakes old.thread d all ∷ []) old new w.step).columns in
    sym knows ∙ says ∙ ap taken_in (put_same w.step.state.unstamped old.thread _)

-- 3. Each step

module _ (floor : Description) (d : ChanNo) (all : Bool) (old : Knowledge) (r : IsAtRest floor old)
    (may : MayWakeUp floor d.0 old) where
  abbrev c : Config
  c = config_in floor

  abbrev q : QueueName
  q = chan_queue d.0

  abbrev i : Item
  i = its_chain floor q

  abbrev j : ℕ
  j = chain_place floor q

  module _ (u : Knowledge) (taken : Takes floor i j old u) where
    u_thread : u.thread ≡ old.thread
    u_thread = ap (λ (k : Knowledge). k.thread) taken.view

    abbrev chain_is : (chain : List (QueueName × SleepQueue)) × (taken.value ≡ SleepQueues chain)
    chain_is = a_sleep_chain (d.0 % floor.chains) taken.value taken.kind

    sleepers_out : HasSleepersOut floor q u
    sleepers_out = record {
      chain = chain_is.0;
      last = subst (λ (k : Knowledge). k.out ≡ (j, SleepQueues chain_is.0) ∷ rest k.out) (sym taken.view)
          (ap (λ y. (j, y) ∷ old.out) chain_is.1);
    }

    runs_on : u.pose ≡ Runs
    runs_on = ap (λ (k : Knowledge). k.pose) taken.view ∙ r.runs

    going_on : IsGoing u
    going_on = subst IsGoing (sym taken.view) r.going

    pub may_wake : MayWakeSleepers floor d.0 all u
    may_wake = may_wake_sleepers floor u d.0 all may.chan sleepers_out runs_on going_on
        (ap (λ (k : Knowledge). k.share.doing.marked) taken.view ∙ r.unmarked)

    round_now : u.share.doing.round ≡ None
    round_now = ap (λ (k : Knowledge). k.share.doing.round) taken.view ∙ ap in_its_chain r.no_round

    module _ (woken : ℕ) (v : Knowledge) (w : WakesSleepers floor d.0 all woken u v) where
      abbrev ps : List Place
      ps = sleepers_woken d.0 all w.sleepers.chain

      abbrev sleepers : List Waiter
      sleepers = (w.step.state.lists q).exclusive

      abbrev e : Event
      e = wake_of all d woken

      v_thread : v.thread ≡ old.thread
      v_thread = ap (λ (k : Knowledge). k.thread) w.view ∙ u_thread

      pub room_for_it : 1 ≤ v.spare
      room_for_it = omega (
        arith,
        may.room,
        ap (λ (k : Knowledge). k.spare) w.view,
        ap (λ (k : Knowledge). k.spare)
            taken.view,
      )

      pub may_note : MayMake floor v (λ s. Unit {0}) (Stamps v.thread e ∷ [])
      may_note = subst (λ x. MayMake floor v (λ s. Unit {0}) (Stamps v.thread x ∷ [])) (same_entry d woken all)
          (may_stamp_waking floor v d all woken
          (has_woken_up floor d.0 all woken u v w runs_on going_on
          (ap (λ (k : Knowledge). k.share.doing.taking) taken.view ∙ r.takes_nothing) round_now
          (subst (λ (k : Knowledge). is_taking_back k.share.log ≡ false) (sym taken.view) r.no_wait)))

      abbrev left : Slot
      left = SleepQueues (chain_woken q all X (head_of q w.sleepers.chain) w.sleepers.chain)

      module _ (ticket : ℕ) (x : Knowledge) (says : x ≡ seeing x.seen (stamped c v (entry_by v.thread ticket e)))
          (stamps : Makes floor (Stamps v.thread e ∷ []) v x) where
        out_now : x.out ≡ (j, left) ∷ []
        out_now = ap (λ (k : Knowledge). k.out) says ∙ ap (λ (k : Knowledge). k.out) w.view
            ∙ ap (λ out. (j, left) ∷ out) (ap (λ (k : Knowledge). rest k.out) taken.view ∙ r.nothing_out)

        pub last_now : (y : Slot) × (x.out ≡ (j, y) ∷ rest x.out)
        last_now = (left, out_now ∙ ap (λ out. (j, left) ∷ out) (sym (ap rest out_now)))

        going_now : IsGoing x
        going_now = subst IsGoing (sym says) record {
          awake = ap (λ (k : Knowledge). k.share.doing.phase) w.view ∙ going_on.awake;
          unended = ap (λ (k : Knowledge). k.share.doing.has_ended) w.view ∙ going_on.unended;
          stamped = notes_it d woken all v.share.doing.unstamped;
        }

        unbound_now : is_bound x.share.doing.round ≡ false
        unbound_now = ap is_bound (ap (λ (k : Knowledge). k.share.doing.round) says
            ∙ ap (λ (k : Knowledge). round_after e k.share.doing.round) w.view ∙ ap (round_after e) round_now
            ∙ no_round_after d woken all)

        pub may_give : MayMake floor x (λ s. Unit {0}) (GivesItem x.thread i ∷ [])
        may_give = may_give_chain floor x q left out_now unbound_now
            (inl (ap (λ (k : Knowledge). k.pose) says ∙ ap (λ (k : Knowledge). k.pose) w.view ∙ runs_on)) going_now

        module _ (y : Knowledge) (given : y ≡ seeing y.seen (gave x i))
            (gives : Makes floor (GivesItem x.thread i ∷ []) x y) where
          abbrev entry : Entry
          entry = entry_by old.thread ticket e

          -- what it knows then, of what it knew
          abbrev then : Knowledge
          then = gave (stamped c (woke (took old i j taken.value) d.0 all ps
              (out_woken floor d.0 all w.sleepers.chain ((j, taken.value) ∷ old.out))) entry) i

          knows : y ≡ seeing y.seen then
          knows =
              given ∙ ap (λ (k : Knowledge). seeing y.seen (gave k i)) says
              ∙ ap (λ (k : Knowledge). seeing y.seen (gave (stamped c k (entry_by k.thread ticket e)) i)) w.view
              ∙ ap (λ (k : Knowledge). seeing y.seen (gave (stamped c (woke k d.0 all ps
              (out_woken floor d.0 all w.sleepers.chain k.out)) (entry_by k.thread ticket e)) i)) taken.view

          -- it would know the same of an entry that has no wake to note
          abbrev before : Knowledge
          before =
              let after : Doing = record old.share.doing {
                marked = [];
                seen_in_section = None;
                round = in_its_chain old.share.doing.round;
              } in
              record old { share = record old.share { doing = after } }

          idle_before : IsIdle before
          idle_before = assumption (ap in_its_chain r.no_round, r)

          abbrev noted : Knowledge
          noted = stamped c before entry

          same_noted : with_marks y [] ≡ seeing y.seen noted
          same_noted =
              ap (λ k. with_marks k []) knows
              ∙ ap (λ z. seeing y.seen (record noted {
                share = record noted.share { doing = record noted.share.doing { unstamped = z } };
              })) (notes_it d woken all (woke (took old i j taken.value) d.0 all ps []).share.doing.unstamped
              ∙ sym (notes_it d woken all old.share.doing.unstamped))

          threads_are : map (λ p. p.thread) ps ≡ threads_woken all sleepers
          threads_are = taken_are floor d.0 all woken u v w

          bits_are : woken ≡ bits_of_threads (threads_woken all sleepers)
          bits_are = w.answer ∙ ap bits_of_threads threads_are

          pub has_taken_off : HasTakenOff floor d all woken old y
          has_taken_off =
              let step : Makes floor (Stamps old.thread e ∷ []) v x =
              subst (λ t. Makes floor (Stamps t e ∷ []) v x) v_thread stamps in
              let x_thread : x.thread ≡ old.thread = ap (λ (k : Knowledge). k.thread) says ∙ v_thread in
              record {
                sleepers = sleepers;
                takes_off = record {
                  came = u;
                  takes = taken.step;
                  off = v;
                  wakes = w.step;
                  slept = refl;
                  marked = ap (λ (k : Knowledge). map (λ m. m.thread) k.share.doing.marked) knows
                      ∙ threads_marked q ps ∙ threads_are;
                  notes = (
                    x,
                    subst (λ n. Makes floor (Stamps old.thread (wake_of all d n) ∷ []) v x) bits_are step,
                    (y, subst (λ t. Makes floor (GivesItem t i ∷ []) x y) x_thread gives, refl),
                  );
                };
                bits = bits_are;
                count = ap count_ones bits_are
                    ∙ bits_counted floor (Wakes u.thread d.0 all ∷ []) u v w.step q all;
                entry = record {
                  ticket = ticket;
                  log = ap (λ (k : Knowledge). k.share.log) knows;
                  held = ap (λ (k : Knowledge). k.share.held) knows;
                  spare = ap (λ (k : Knowledge). k.spare + 1) knows ∙ omega (arith, may.room);
                  thread = ap (λ (k : Knowledge). k.thread) knows;
                  before = v;
                  behind = x;
                  of = v_thread;
                  step = step;
                  log_before = ap (λ (k : Knowledge). k.share.log) w.view
                      ∙ ap (λ (k : Knowledge). k.share.log) taken.view;
                  log_behind = sym (ap (λ (k : Knowledge). k.share.log) given);
                };
                rest = subst (IsAtRest floor) (sym same_noted)
                    (rest_seeing floor noted y.seen
                    (rest_noted floor before ticket e (keeps_sections d woken all) idle_before r.sections r.begun));
              }
