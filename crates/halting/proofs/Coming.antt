-- A halting goes over the queues: it takes the chain of a sleep queue, and gives it back, and counts itself out again
-- behind the last one.
use Rattle.std.proofs.Common.{◌≡◌, ◌≢◌, ℕ, ◌+◌, ◌<◌, Bool, true, false, cond, Option, Some, None, List, [], ◌∷◌, length, refl, sym, ap, ◌∙◌, subst, inl, inr}
use Rattle.std.proofs.lemmas.Bool.{ne_eqb}
use Rattle.atomic_table.specs.Table.{rest}
use Rattle.lock_model.specs.Config.{Config}
use Rattle.lock_model.specs.Queues.{Mark, is_turnstile_queue}
use Rattle.lock_model.specs.declared.plan.QueueName.{QueueName}
use Rattle.lock_model.specs.declared.plan.QueueName.TheVariants.{Lock, Chan}
use Rattle.lock_state.specs.State.{Round, Asleep, Last, SelfAborted, is_parked}
use Rattle.lock_state.specs.Steps.{TakesItem, GivesItem, CountsOut, is_halting}
use Rattle.lock_state.specs.Steps.Counting.{phase_out}
use Rattle.lock_state.specs.Steps.Items.{Item, SleepChain, item_with, in_its_chain, is_chain}
use Rattle.sleep_queues.specs.Seen.{SleepQueue}
use Rattle.floor_table.specs.Descriptions.{config_in}
use Rattle.floor_table.specs.Steps.{MayMake, Makes}
use Rattle.floor_table.specs.Views.{Knowledge, seeing}
use Rattle.floor_table.specs.declared.description.Description.{Description}
use Rattle.floor_table.specs.declared.slot.Slot.{Slot}
use Rattle.floor_table.specs.declared.slot.Slot.TheVariants.{Record, Cell, Turnstiles, SleepQueues, Graph}
use Rattle.lock_floor.specs.declared.counts.Count.TheVariants.{Out}
use Rattle.lock_floor.specs.declared.queues.HaltAt.{HaltAt}
use Rattle.lock_floor.specs.declared.queues.HaltAt.TheVariants as at
use Rattle.lock_floor.specs.Counts.{counted}
use Rattle.lock_floor.specs.Halting.{NobodySleeps}
use Rattle.lock_floor.specs.Latches.{FindsOut, IsOfKind, Takes}
use Rattle.lock_floor.specs.Passes.{IsOffTheWay}
use Rattle.lock_floor.specs.Queues.{queue_at}
use Rattle.lock_floor.specs.Views.{gave, took}
use Rattle.lock_floor.specs.Waits.{its_chain, chain_place}
use Rattle.lock_floor.proofs.AbortStep.{sleep_chain_of}
use Rattle.lock_floor.proofs.Marked.{head_or}
use Rattle.lock_floor.proofs.MayHalt.{StandsOrEnded, halt_seen, may_count_out_again, may_give_sleepers, may_take_sleepers}
use Rattle.lock_floor.proofs.MayWake.{HasLeft, halting_unparked}
use Rattle.lock_floor.specs.Aborts.{HasSeenHalt}
use Rattle.halting.specs.Halts.{EndsHalting, HaltEnd, HaltLeg, HaltsOn, HasLetGo, HasQueueOut, IsAside, IsAt, IsHalter, IsOut, Kept, WakesNoOther, WakesOther, aborted_itself, all_ended, finds_out, gives_chain, is_last, kept_of, others_awake, passes, takes_chain}
use Rattle.halting.proofs.Finding.{look_of, off_the_way}

-- 1. What stays

-- who had nobody to wake woke no other
pub wakes_nobody : (v new : Knowledge) → v.share.doing.marked ≡ [] → WakesNoOther v new
wakes_nobody v new none t w = let z : w.mark ∷ [] ≡ [] = sym w.marked ∙ none in cc

-- nor does who is done with a halting
pub ends_waking_nobody : (floor : Description) (there : HaltAt) (v new : Knowledge) → IsAt floor there v
    → HaltEnd floor there v new → WakesNoOther v new
ends_waking_nobody floor at.Finds v new h end = wakes_nobody v new h.unmarked
ends_waking_nobody floor (at.Comes over itself) v new h end = wakes_nobody v new h.2
ends_waking_nobody floor (at.Aborts over itself) v new h end = wakes_nobody v new h.2
ends_waking_nobody floor (at.Wakes over itself) v new h end = absurd (none_here (at.Wakes over itself) refl end)
  where
    none_here : (a : HaltAt) → a ≡ at.Wakes over itself → HaltEnd floor a v new → ⊥
    none_here a e (all_ended finds view) = let z : at.Finds ≡ at.Wakes over itself = e in cc
    none_here a e (aborted_itself k none view) = let z : at.Comes k true ≡ at.Wakes over itself = e in cc
    none_here a e (others_awake k none step asleep) = let z : at.Comes k false ≡ at.Wakes over itself = e in cc

-- and whom it wakes is a thread of the floor
pub wakes_of_floor : (floor : Description) (there : HaltAt) (v new : Knowledge) (t : ℕ) → IsAt floor there v
    → WakesOther t v new → t < length floor.threads
wakes_of_floor floor at.Finds v new t h w = let z : w.mark ∷ [] ≡ [] = sym w.marked ∙ h.unmarked in cc
wakes_of_floor floor (at.Comes over itself) v new t h w = let z : w.mark ∷ [] ≡ [] = sym w.marked ∙ h.2 in cc
wakes_of_floor floor (at.Aborts over itself) v new t h w = let z : w.mark ∷ [] ≡ [] = sym w.marked ∙ h.2 in cc
wakes_of_floor floor (at.Wakes over itself) v new t h w =
    subst (λ u. u < length floor.threads) w.thread
    (subst (λ (k : Mark). k.thread < length floor.threads) (ap (head_or w.mark) (sym h.1.1.marked ∙ w.marked))
    h.1.1.of_floor)

-- a chain of a sleep queue is one of sleep queues
sleepers_taken : (floor : Description) (q : QueueName) (j : ℕ) (old new : Knowledge)
    → is_turnstile_queue (config_in floor) q ≡ false → (k : Takes floor (its_chain floor q) j old new)
    → (chain : List (QueueName × SleepQueue)) × (k.value ≡ SleepQueues chain)
sleepers_taken floor q j old new sleeps k =
    let which = sleep_chain_of floor q sleeps in
    go which.0 k.value (subst (λ i. IsOfKind i k.value) which.1 k.kind)
  where
    go : (n : ℕ) (y : Slot) → IsOfKind (SleepChain n) y
        → (chain : List (QueueName × SleepQueue)) × (y ≡ SleepQueues chain)
    go n (SleepQueues chain) is = (chain, refl)
    go n (Record b) is = absurd is
    go n (Cell value) is = absurd is
    go n (Turnstiles chain) is = absurd is
    go n (Graph b) is = absurd is

-- outside rounds a chain that is taken begins nothing
pub no_round_stays : (b : Bool) (r : Option Round) → r ≡ None → cond b (in_its_chain r) r ≡ r
no_round_stays true r none = ap in_its_chain none ∙ sym none
no_round_stays false r none = refl

pub kept_took : (v : Knowledge) (i : Item) (j : ℕ) (x : Slot) → v.share.doing.round ≡ None
    → kept_of (took v i j x) ≡ kept_of v
kept_took v i j x none k =
    record (kept_of v) { round = no_round_stays (is_chain i) v.share.doing.round none k }

-- a thread that is aside is where one counts itself out
pub stands_or_ended : (c : Config) (v : Knowledge) → IsOut c (kept_of v) → StandsOrEnded c v
stands_or_ended c v (inl (q, stands, left)) = inl (q, stands, go q left)
  where
    go : (r : QueueName) → HasLetGo c (kept_of v) r → HasLeft c v r
    go (Lock l) left = tt
    go (Chan d) left = left
stands_or_ended c v (inr (runs, ended)) = inr (runs, ended)

-- what a halter knows still, where what it keeps, its counting and the halt that it has seen stay
pub halter_still : (floor : Description) (itself : Bool) (v w : Knowledge) → IsHalter floor itself v
    → kept_of w ≡ kept_of v → w.share.doing.counting ≡ None → w.share.doing.phase ≡ v.share.doing.phase
    → HasSeenHalt w → IsHalter floor itself w
halter_still floor itself v w h kept uncounted phase halted = record {
  aside = subst (IsAside floor) (sym kept) h.aside;
  uncounted = uncounted;
  halting = ap is_halting phase ∙ h.halting;
  aborted = (λ e. phase ∙ h.aborted.0 e, λ e. h.aborted.1 (sym phase ∙ e));
  stood = λ e. ((h.stood e).0, ap (λ (k : Kept). k.pose) kept ∙ (h.stood e).1);
  halted = halted;
}

-- who found what it needs out stays there
module _ (floor : Description) (itself : Bool) (v new : Knowledge) (h : IsHalter floor itself v)
    (view : new ≡ seeing new.seen v) (i : Item) (finds : FindsOut floor i v new) where
  pub halter_waits : IsHalter floor itself new
  halter_waits = halter_still floor itself v new h (ap kept_of view)
      (ap (λ (k : Knowledge). k.share.doing.counting) view ∙ h.uncounted)
      (ap (λ (k : Knowledge). k.share.doing.phase) view)
      (halt_seen floor [] v new h.halted finds.moment)

-- 2. It comes to a queue

module _ (floor : Description) (over : ℕ) (itself : Bool) (v : Knowledge) (h : IsHalter floor itself v)
    (empty : v.out ≡ []) (unmarked : v.share.doing.marked ≡ []) where
  abbrev c : Config
  c = config_in floor

  there : IsOffTheWay v.pose
  there = off_the_way c (kept_of v) h.aside.is_out

  pub passes_on : (q : QueueName) → queue_at floor over ≡ Some q → is_turnstile_queue c q ≡ true
      → HaltsOn floor (at.Comes over itself) (at.Comes (over + 1) itself) v v
  passes_on q is turnstile = record {
    at = (h, empty, unmarked);
    kept = refl;
    look = inl refl;
    leg = passes over itself q is turnstile refl;
  }

  module _ (q : QueueName) (is : queue_at floor over ≡ Some q) (sleeps : is_turnstile_queue c q ≡ false) where
    pub may_come : MayMake floor v (λ s. item_with s (its_chain floor q) ≡ None)
        (TakesItem v.thread (its_chain floor q) ∷ [])
    may_come = may_take_sleepers floor v there h.aside.stamped h.halting q sleeps empty h.aside.no_round

    pub comes : (new : Knowledge) → Takes floor (its_chain floor q) (chain_place floor q) v new
        → HaltsOn floor (at.Comes over itself) (at.Aborts over itself) v new
    comes new taken =
        let kept : kept_of new ≡ kept_of v =
        ap kept_of taken.view
        ∙ kept_took v (its_chain floor q) (chain_place floor q) taken.value h.aside.no_round in
        let chain = sleepers_taken floor q (chain_place floor q) v new sleeps taken in
        record {
          at = (
            halter_still floor itself v new h kept
                (ap (λ (k : Knowledge). k.share.doing.counting) taken.view ∙ h.uncounted)
                (ap (λ (k : Knowledge). k.share.doing.phase) taken.view)
                (halt_seen floor (TakesItem v.thread (its_chain floor q) ∷ []) v new h.halted taken.step),
            record {
              queue = q;
              there = is;
              sleeps = sleeps;
              chain = chain.0;
              out = ap (λ (k : Knowledge). k.out) taken.view
                  ∙ (λ i. (chain_place floor q, chain.1 i) ∷ empty i);
            },
            ap (λ (k : Knowledge). k.share.doing.marked) taken.view ∙ unmarked,
          );
          kept = kept;
          look = inl (ap look_of taken.view);
          leg = takes_chain over itself q is sleeps taken.step;
        }

    pub stays_coming : (new : Knowledge) → new ≡ seeing new.seen v → FindsOut floor (its_chain floor q) v new
        → HaltsOn floor (at.Comes over itself) (at.Comes over itself) v new
    stays_coming new view finds = record {
      at = (
        halter_waits floor itself v new h view (its_chain floor q) finds,
        ap (λ (k : Knowledge). k.out) view ∙ empty,
        ap (λ (k : Knowledge). k.share.doing.marked) view ∙ unmarked,
      );
      kept = ap kept_of view;
      look = inl (ap look_of view);
      leg = finds_out (at.Comes over itself) (its_chain floor q) (q, is, sleeps, refl) view finds;
    }

  -- 3. Behind the last one

  module _ (none : queue_at floor over ≡ None) where
    pub ends_itself : itself ≡ true → EndsHalting floor (at.Comes over itself) v v
    ends_itself own = record {
      halted = record {
        kept = refl;
        look = inl refl;
        uncounted = h.uncounted;
        nothing_out = empty;
        unmarked = unmarked;
        at_resume = inr (h.aborted.0 own);
        stood = λ _. h.stood own;
      };
      end = subst (λ b. HaltEnd floor (at.Comes over b) v v) (sym own) (aborted_itself over none refl);
    }

    module _ (others : itself ≡ false) where
      unaborted : v.share.doing.phase ≢ SelfAborted
      unaborted e = let z : true ≡ false = sym (h.aborted.1 e) ∙ others in cc

      pub may_leave : MayMake floor v (λ s. Unit {0}) (CountsOut v.thread ∷ [])
      may_leave = may_count_out_again floor v (stands_or_ended c v h.aside.is_out) empty h.aside.no_walk unmarked
          h.aside.stamped (halting_unparked v.share.doing.phase h.halting) unaborted

      module _ (found : ℕ) (new : Knowledge) (view : new ≡ seeing new.seen (counted Out found v))
          (step : Makes floor (CountsOut v.thread ∷ []) v new) where
        phase_now : new.share.doing.phase ≡ phase_out found
        phase_now = ap (λ (k : Knowledge). k.share.doing.phase) view

        pub leaves_last : found ≡ 1 → HaltsOn floor (at.Comes over itself) at.Finds v new
        leaves_last one =
            let last : new.share.doing.phase ≡ Last = phase_now ∙ ap phase_out one in
            record {
              at = record {
                aside = subst (IsAside floor) (sym (ap kept_of view)) h.aside;
                uncounted = ap (λ (k : Knowledge). k.share.doing.counting) view ∙ h.uncounted;
                nothing_out = ap (λ (k : Knowledge). k.out) view ∙ empty;
                unmarked = ap (λ (k : Knowledge). k.share.doing.marked) view ∙ unmarked;
                last = last;
              };
              kept = ap kept_of view;
              look = inl (ap look_of view);
              leg = subst (λ b. HaltLeg floor (at.Comes over b) at.Finds v new) (sym others)
                  (is_last over none step last);
            }

        pub leaves_others : found ≢ 1 → EndsHalting floor (at.Comes over itself) v new
        leaves_others more =
            let asleep : new.share.doing.phase ≡ Asleep =
            phase_now ∙ ap (λ b. cond b Last Asleep) (ne_eqb found 1 more) in
            record {
              halted = record {
                kept = ap kept_of view;
                look = inl (ap look_of view);
                uncounted = ap (λ (k : Knowledge). k.share.doing.counting) view ∙ h.uncounted;
                nothing_out = ap (λ (k : Knowledge). k.out) view ∙ empty;
                unmarked = ap (λ (k : Knowledge). k.share.doing.marked) view ∙ unmarked;
                at_resume = inl (ap is_parked asleep);
                stood = λ e. absurd (let z : Asleep ≡ SelfAborted = sym asleep ∙ e in cc);
              };
              end = subst (λ b. HaltEnd floor (at.Comes over b) v new) (sym others)
                  (others_awake over none step asleep);
            }

-- 4. It gives the chain back

module _ (floor : Description) (over : ℕ) (itself : Bool) (v : Knowledge) (h : IsHalter floor itself v)
    (has : HasQueueOut floor over v) (unmarked : v.share.doing.marked ≡ []) where
  pub may_go_on : MayMake floor v (λ s. Unit {0}) (GivesItem v.thread (its_chain floor has.queue) ∷ [])
  may_go_on = may_give_sleepers floor v (off_the_way (config_in floor) (kept_of v) h.aside.is_out) h.aside.stamped
      h.halting has.queue (SleepQueues has.chain) has.out has.sleeps h.aside.no_round

  pub goes_on : NobodySleeps has.queue has.chain → (new : Knowledge)
      → new ≡ seeing new.seen (gave v (its_chain floor has.queue))
      → Makes floor (GivesItem v.thread (its_chain floor has.queue) ∷ []) v new
      → HaltsOn floor (at.Aborts over itself) (at.Comes (over + 1) itself) v new
  goes_on nobody new view step = record {
    at = (
      halter_still floor itself v new h (ap kept_of view)
          (ap (λ (k : Knowledge). k.share.doing.counting) view ∙ h.uncounted)
          (ap (λ (k : Knowledge). k.share.doing.phase) view)
          (halt_seen floor (GivesItem v.thread (its_chain floor has.queue) ∷ []) v new h.halted step),
      ap (λ (k : Knowledge). k.out) view ∙ ap rest has.out,
      ap (λ (k : Knowledge). k.share.doing.marked) view ∙ unmarked,
    );
    kept = ap kept_of view;
    look = inl (ap look_of view);
    leg = gives_chain over itself has.queue has.there (record { chain = has.chain; out = has.out; nobody = nobody })
        step;
  }
