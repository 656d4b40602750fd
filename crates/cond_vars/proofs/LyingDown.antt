-- A thread lies down on a channel's queue, with the chain and its own record out: its wait word says that it is queued,
-- it notes that it sleeps, and stands on the queue by its next step; then it gives both back.
use Rattle.std.proofs.Common.{◌≡◌, ℕ, ◌+◌, ◌≤◌, true, false, List, [], ◌∷◌, refl, sym, ap, ◌∙◌, subst, inr, arith}
use Rattle.std.specs.Box.{with_value}
use Rattle.std.specs.declared.alloc.Global.{Global}
use Rattle.std.specs.declared.boxed.Box.{Box}
use Rattle.atomic_table.specs.Table.{rest}
use Rattle.lock_model.specs.Config.{Config}
use Rattle.lock_model.specs.Queues.{chan_queue}
use Rattle.lock_model.specs.declared.event.Event.TheVariants.{Sleeps}
use Rattle.lock_model.specs.declared.numbers.ChanNo.{ChanNo}
use Rattle.lock_model.specs.declared.plan.QueueName.{QueueName}
use Rattle.lock_model.specs.declared.plan.Side.TheVariants.{X}
use Rattle.lock_objects.specs.Sleeps.{sleeper_of, record_asleep, chain_asleep}
use Rattle.lock_state.specs.Steps.{Stamps, GivesItem, Readies, Adds}
use Rattle.lock_state.specs.Steps.Items.{RecordOf, is_bound}
use Rattle.sleep_queues.specs.Seen.{SleepQueue}
use Rattle.thread_records.specs.declared.record.ThreadRec.{ThreadRec}
use Rattle.floor_table.specs.Descriptions.{config_in}
use Rattle.floor_table.specs.Steps.{Makes, MayMake}
use Rattle.floor_table.specs.Views.{Knowledge, StandsOn, seeing}
use Rattle.floor_table.specs.declared.description.Description.{Description}
use Rattle.floor_table.specs.declared.slot.Slot.{Slot}
use Rattle.floor_table.specs.declared.slot.Slot.TheVariants.{Record, SleepQueues}
use Rattle.lock_floor.specs.Passes.{IsGoing}
use Rattle.lock_floor.specs.Sleeps.{HasSleeperOut, MayAddItself, AddsItself, added, out_asleep, sleeper_out}
use Rattle.lock_floor.specs.Views.{gave, entry_by, stamped}
use Rattle.lock_floor.specs.Waits.{its_chain, chain_place, readied}
use Rattle.lock_floor.proofs.MaySleep.{IsBeforeItsSleep, IsGoingToSleep, may_stamp_sleeps, going_to_sleep, may_add_itself}
use Rattle.lock_floor.proofs.MayWait as wait
use Rattle.cond_vars.specs.Sleeping.{MayLieDown, LiesThere, asleep}
use Rattle.cond_vars.specs.Waits.{lock_of}

module _ (floor : Description) (d : ChanNo) (v : Knowledge) (m : MayLieDown floor d.0 v) where
  abbrev c : Config
  c = config_in floor

  abbrev q : QueueName
  q = chan_queue d.0

  abbrev b : Box ThreadRec Global
  b = m.sleeper.box

  abbrev chain : List (QueueName × SleepQueue)
  chain = m.sleeper.chain

  going : IsGoing v
  going = record { awake = m.rest.going.awake; unended = m.rest.going.unended; stamped = m.rest.going.stamped }

  -- 1. It is made ready

  pub may_ready : MayMake floor v (λ s. Unit {0}) (Readies v.thread q ∷ [])
  may_ready = wait.may_ready floor v q (Record b) (SleepQueues chain) m.sleeper.out m.rest.runs going

  module _ (w : Knowledge) (is_ready : w ≡ seeing w.seen (readied true v))
      (ready : Makes floor (Readies v.thread q ∷ []) v w) where
    w_thread : w.thread ≡ v.thread
    w_thread = ap (λ (k : Knowledge). k.thread) is_ready

    abbrev sleeper_then : HasSleeperOut floor q w
    sleeper_then = record {
      box = b;
      chain = chain;
      out = ap (λ (k : Knowledge). k.out) is_ready ∙ m.sleeper.out
          ∙ ap (λ t. sleeper_out floor t q b chain) (sym w_thread);
    }

    before : IsBeforeItsSleep floor d.0 w
    before = subst (IsBeforeItsSleep floor d.0) (sym is_ready) record {
      ready = refl;
      going = record { awake = going.awake; unended = going.unended; stamped = going.stamped };
      no_wait = m.rest.no_wait;
      wants = m.rest.wants_nothing;
      takes = m.rest.takes_nothing;
      no_round = m.rest.no_round;
      opened = λ closed. m.holds (sym (m.rest.sections (lock_of floor d.0)) ∙ closed);
      sections = λ k ne. m.rest.sections k;
      others = m.others;
      last = m.last;
    }

    -- 2. It notes that it sleeps

    pub room_to_sleep : 1 ≤ w.spare
    room_to_sleep = subst (λ n. 1 ≤ n) (sym (ap (λ (k : Knowledge). k.spare) is_ready)) m.room

    pub may_sleep : MayMake floor w (λ s. Unit {0}) (Stamps w.thread (Sleeps d) ∷ [])
    may_sleep = may_stamp_sleeps floor w d m.chan sleeper_then before

    module _ (ticket : ℕ) (x : Knowledge)
        (says : x ≡ seeing x.seen (stamped c w (entry_by w.thread ticket (Sleeps d))))
        (stamps : Makes floor (Stamps w.thread (Sleeps d) ∷ []) w x) where
      x_thread : x.thread ≡ v.thread
      x_thread = ap (λ (k : Knowledge). k.thread) says ∙ w_thread

      abbrev sleeper_noted : HasSleeperOut floor q x
      sleeper_noted = record {
        box = b;
        chain = chain;
        out = ap (λ (k : Knowledge). k.out) says ∙ ap (λ (k : Knowledge). k.out) is_ready ∙ m.sleeper.out
            ∙ ap (λ t. sleeper_out floor t q b chain) (sym x_thread);
      }

      going_down : IsGoingToSleep floor d.0 x
      going_down = subst (IsGoingToSleep floor d.0) (sym says) (going_to_sleep floor w d ticket x.seen before)

      -- 3. It stands on the queue

      pub may_add : MayAddItself floor d.0 x
      may_add = may_add_itself floor x d.0 m.own m.chan sleeper_noted m.home going_down

      module _ (y : Knowledge) (adds : AddsItself floor d.0 x y) (who : ℕ) (is : who ≡ v.thread) where
        abbrev own_then : Slot
        own_then = Record (with_value adds.sleeper.box (record_asleep q adds.sleeper.box.value))

        abbrev chain_then : Slot
        chain_then = SleepQueues (chain_asleep q X adds.own (sleeper_of adds.sleeper.box.value) adds.sleeper.chain)

        y_thread : y.thread ≡ v.thread
        y_thread = ap (λ (k : Knowledge). k.thread) adds.view ∙ x_thread

        y_out : y.out ≡ (y.thread, own_then) ∷ (chain_place floor q, chain_then) ∷ []
        y_out = ap (λ (k : Knowledge). k.out) adds.view
            ∙ ap (λ t. (t, own_then) ∷ (chain_place floor q, chain_then) ∷ []) (x_thread ∙ sym y_thread)

        stands : y.pose ≡ StandsOn q
        stands = ap (λ (k : Knowledge). k.pose) adds.view

        going_then : IsGoing y
        going_then = subst IsGoing (sym adds.view)
            (assumption going_down.going)

        -- 4. Both go home

        pub own_last : (b : _) × (y.out ≡ (who, Record b) ∷ rest y.out)
        own_last = (
          with_value adds.sleeper.box (record_asleep q adds.sleeper.box.value),
          y_out ∙ ap (λ t. (t, own_then) ∷ (chain_place floor q, chain_then) ∷ []) (y_thread ∙ sym is)
              ∙ ap (λ out. (who, own_then) ∷ out) (sym (ap rest y_out)),
        )

        pub may_give_own : MayMake floor y (λ s. Unit {0}) (GivesItem y.thread (RecordOf who) ∷ [])
        may_give_own =
            subst (λ t. MayMake floor y (λ s. Unit {0}) (GivesItem y.thread (RecordOf t) ∷ [])) (y_thread ∙ sym is)
            (wait.may_give_own floor y q own_then chain_then y_out (inr (q, stands)) going_then)

        module _ (z : Knowledge) (first : z ≡ seeing z.seen (gave y (RecordOf who)))
            (gives_own : Makes floor (GivesItem y.thread (RecordOf who) ∷ []) y z) where
          z_out : z.out ≡ (chain_place floor q, chain_then) ∷ []
          z_out = ap (λ (k : Knowledge). k.out) first ∙ ap rest y_out

          pub chain_last : (x : _) × (z.out ≡ (chain_place floor q, x) ∷ rest z.out)
          chain_last = (
            chain_then,
            z_out ∙ ap (λ out. (chain_place floor q, chain_then) ∷ out) (sym (ap rest z_out)),
          )

          unbound : is_bound z.share.doing.round ≡ false
          unbound = ap is_bound (ap (λ (k : Knowledge). k.share.doing.round) first
              ∙ ap (λ (k : Knowledge). k.share.doing.round) adds.view ∙ going_down.no_round)

          pub may_give_chain : MayMake floor z (λ s. Unit {0}) (GivesItem z.thread (its_chain floor q) ∷ [])
          may_give_chain = wait.may_give_chain floor z q chain_then z_out unbound
              (inr (q, ap (λ (k : Knowledge). k.pose) first ∙ stands))
              (rw first (assumption going_then))

          module _ (new : Knowledge) (second : new ≡ seeing new.seen (gave z (its_chain floor q)))
              (gives_chain : Makes floor (GivesItem z.thread (its_chain floor q) ∷ []) z new) where
            knows : new ≡ seeing new.seen (asleep c v ticket d)
            knows =
                second ∙ ap (λ (k : Knowledge). seeing new.seen (gave k (its_chain floor q))) first
                ∙ ap (λ (k : Knowledge). seeing new.seen (gave (gave k (RecordOf who)) (its_chain floor q))) adds.view
                ∙ ap (λ (k : Knowledge). seeing new.seen (gave (gave (added k d.0
                (out_asleep floor k.thread q X adds.own adds.sleeper.box adds.sleeper.chain)) (RecordOf who))
                (its_chain floor q))) says
                ∙ ap (λ (k : Knowledge). seeing new.seen (gave (gave (added
                (stamped c k (entry_by k.thread ticket (Sleeps d))) d.0
                (out_asleep floor k.thread q X adds.own adds.sleeper.box adds.sleeper.chain)) (RecordOf who))
                (its_chain floor q))) is_ready

            pub lies : LiesThere floor d v new
            lies =
                let z_thread : z.thread ≡ v.thread = ap (λ (k : Knowledge). k.thread) first ∙ y_thread in
                let note : Makes floor (Stamps v.thread (Sleeps d) ∷ []) w x =
                subst (λ t. Makes floor (Stamps t (Sleeps d) ∷ []) w x) w_thread stamps in
                record {
                  own = adds.own;
                  ticket = ticket;
                  view = knows;
                  steps = (
                    w,
                    ready,
                    (
                      x,
                      note,
                      (
                        y,
                        subst (λ t. Makes floor (Adds t d.0 adds.own ∷ []) x y) x_thread adds.step,
                        (
                          z,
                          subst (λ (p : ℕ × ℕ). Makes floor (GivesItem p.0 (RecordOf p.1) ∷ []) y z)
                              (λ i. (y_thread i, is i)) gives_own,
                          (
                            new,
                            subst (λ t. Makes floor (GivesItem t (its_chain floor q) ∷ []) z new) z_thread gives_chain,
                            refl,
                          ),
                        ),
                      ),
                    ),
                  );
                  entry = record {
                    ticket = ticket;
                    log = ap (λ (k : Knowledge). k.share.log) knows;
                    held = ap (λ (k : Knowledge). k.share.held) knows;
                    spare = ap (λ (k : Knowledge). k.spare + 1) knows ∙ omega (arith, m.room);
                    thread = ap (λ (k : Knowledge). k.thread) knows;
                    before = w;
                    behind = x;
                    of = w_thread;
                    step = note;
                    log_before = ap (λ (k : Knowledge). k.share.log) is_ready;
                    log_behind = sym (ap (λ (k : Knowledge). k.share.log) second
                        ∙ ap (λ (k : Knowledge). k.share.log) first ∙ ap (λ (k : Knowledge). k.share.log) adds.view);
                  };
                }
