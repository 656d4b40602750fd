-- What the seat of a thread at halting others knows allows its aborts.
use Rattle.lock_floor.proofs.Names
use Names.{ℕ, true, false, Some, [], append_assoc, refl, sym, ap, subst, rest, head_of, is_turnstile_queue, list_of}
use Names.{times_waiting, Side, QueueName, Lock, Chan, SleepColumns, RepresentsSleepQueue, sleepers_in, sleepers_of}
use Names.{State, Phase, Awake, Asleep, Last, Halting, Aborting, SelfAborted, found_nobody_awake, Halts, Aborts}
use Names.{HasItem, is_halting, SleepChain, IsQueueOf, waiters, SleepQueue, config_in, RepresentsSleepChain, objects_in}
use Names.{slot_of, found, Fits, MayMake, Knowledge, Description, SleepQueues, halted_by, found_first, HasSeenHalt}
use Names.{IsHaltingOthers, IsSleeping, MayAbortSleeper, HasSleepersOut, IsQueueOfFloor, its_chain, chain_place, arith}
use Rattle.std.proofs.Common.{◌≡◌, ◌<◌, ◌∷◌, ◌++◌, ◌∙◌}
use Rattle.lock_floor.proofs.AbortStep.{sleep_chain_of}
use Rattle.lock_floor.proofs.ChainPlaces.{chain_at}
use Rattle.lock_floor.proofs.May.{doing_it, not_away_settled}
use Rattle.lock_floor.proofs.MayWake.{halting_unparked}

pub halting_found : (p : Phase) → is_halting p ≡ true → found_nobody_awake p ≡ true
halting_found f e = grind arith

-- where the seat has seen a halt, the halt word is set
pub halted_now : (floor : Description) (v : Knowledge) (s : State) → Fits floor v s → HasSeenHalt v → s.halted ≡ true
halted_now floor v s f h =
    halted_by floor f.sound.reached (f.seen.later ++ h.later) h.earlier h.by
    (f.seen.is ∙ ap (λ xs. f.seen.later ++ xs) h.is ∙ sym (append_assoc f.seen.later h.later (Halts h.by ∷ h.earlier)))

queue_of_plan : (floor : Description) (q : QueueName) → IsQueueOfFloor floor q → IsQueueOf (config_in floor) q
queue_of_plan floor e low = grind arith

-- it may take off who sleeps on a side of a queue, in a chain that it took last
module _ (floor : Description) (v : Knowledge) (q : QueueName) (side : Side) (u : ℕ)
    (sleepers : HasSleepersOut floor q v) (head : SleepQueue) (there : head_of q sleepers.chain ≡ Some head)
    (stands : 0 < times_waiting u (waiters side head.contents))
    (kind : is_turnstile_queue (config_in floor) q ≡ false) where
  module _ (s : State) (f : Fits floor v s) where
    chain_now : HasItem s v.thread (its_chain floor q) × (0 < times_waiting u (list_of side (s.lists q)))
    chain_now =
        let which = sleep_chain_of floor q kind in
        let j : ℕ = chain_place floor q in
        let has = f.out.each (its_chain floor q) j (SleepQueues sleepers.chain)
        (chain_at floor f.sized.some_chains q)
        (ap (found j) sleepers.last ∙ found_first j (SleepQueues sleepers.chain) (rest v.out)) in
        let out = f.out.each (SleepChain which.0) j (SleepQueues sleepers.chain)
        (subst (λ i. slot_of floor i ≡ Some j) which.1 (chain_at floor f.sized.some_chains q))
        (ap (found j) sleepers.last ∙ found_first j (SleepQueues sleepers.chain) (rest v.out)) in
        let shows : RepresentsSleepChain floor which.0 sleepers.chain (objects_in s) = out.1 in
        let old : sleepers_in s q ≡ sleepers_of head.contents =
        subst (λ o. RepresentsSleepQueue o (sleepers_in s q)) there (shows.queue q which.1) in (
          has.0,
          subst (λ ws. 0 < times_waiting u ws) (sym (ap (λ (a : SleepColumns). list_of side a.lists) old)) stands,
        )

  pub may_abort : IsQueueOfFloor floor q → IsHaltingOthers v
      → MayMake floor v (λ s. Unit {0}) (Aborts v.thread q side u ∷ [])
  may_abort low h s f _ =
      let halting : is_halting (s.phase v.thread) ≡ true =
      ap is_halting (doing_it floor v s f (λ d. d.phase)) ∙ h.phase in
      let stamped = doing_it floor v s f (λ d. d.unstamped) ∙ h.stamped in (
        record {
          fits = record {
            may = record {
              thread = f.thread;
              halted = halted_now floor v s f h.halted;
              found = halting_found (s.phase v.thread) halting;
              unparked = halting_unparked (s.phase v.thread) halting;
              queue = queue_of_plan floor q low;
              sleeps = kind;
              unmarked = doing_it floor v s f (λ d. d.marked) ∙ h.unmarked;
              stamped = stamped;
              stands = (chain_now s f).1;
            };
            has_out = (chain_now s f).0;
            has_seen = tt;
            asks_of_thread = record {
              halting = halting;
              owes = record { added = not_away_settled floor v s f h.there; stamped = stamped };
            };
          };
          keeps_order = tt;
          keeps_count = tt;
        },
        tt,
      )

-- where another stays on the side, if that is an sx lock's
pub may_abort_sleeper : (floor : Description) (v : Knowledge) (q : QueueName) (side : Side) (u : ℕ)
    (sleepers : HasSleepersOut floor q v) → IsSleeping q side u sleepers.chain
    → is_turnstile_queue (config_in floor) q ≡ false → IsQueueOfFloor floor q → IsHaltingOthers v
    → MayAbortSleeper floor q u v
may_abort_sleeper floor v q side u sleepers sleeps kind low h = record {
  sleepers = sleepers;
  side = side;
  sleeps = sleeps;
  may = may_abort floor v q side u sleepers sleeps.head sleeps.there sleeps.stands kind low h;
}
