-- One sleeper is taken off a queue: it is alone in the marked list then.
use Rattle.std.proofs.Common.{◌≡◌, ℕ, ◌+◌, ◌<◌, ◌≤◌, Bool, true, Option, Some, None, List, [], ◌∷◌, length, refl, sym, ap, ◌∙◌, subst, inl, inr, arith}
use Rattle.std.proofs.lemmas.List.Elements.{All-head}
use Rattle.std.specs.List.{All}
use Rattle.std.proofs.lemmas.Option.{same_Some}
use Rattle.atomic_table.specs.Table.{rest}
use Rattle.lock_laws.proofs.Kit.{put_same}
use Rattle.lock_model.specs.Counts.{some}
use Rattle.lock_model.specs.Queues.{Waiter, Mark, ByAbort, dealt, list_of, lock_queue, times_waiting, waiting}
use Rattle.lock_model.specs.declared.numbers.ChanNo.{ChanNo}
use Rattle.lock_model.specs.declared.plan.QueueName.{QueueName}
use Rattle.lock_model.specs.declared.plan.QueueName.TheVariants.{Chan}
use Rattle.lock_model.specs.declared.plan.Side.{Side}
use Rattle.lock_model.specs.declared.plan.Side.TheVariants.{X, S}
use Rattle.lock_objects.specs.Aborts.{chain_aborted}
use Rattle.lock_objects.proofs.StepsOfSleepers.{balanced}
use Rattle.lock_state.specs.State.{State, Phase, Awake, Asleep, Last, Halting, Aborting, SelfAborted}
use Rattle.lock_state.specs.Steps.{Aborts, GivesItem, is_halting}
use Rattle.lock_state.specs.Steps.SleepQueues.{after_abort, by_abort, phase_aborting, sleeper}
use Rattle.sleep_queues.specs.Seen.{SleepQueue}
use Rattle.floor_table.specs.Descriptions.{config_in}
use Rattle.floor_table.specs.Represents.{RepresentsShare, thread_in}
use Rattle.floor_table.specs.Shares.{ShareColumns}
use Rattle.floor_table.specs.Steps.{MayMake, Makes}
use Rattle.floor_table.specs.Views.{Knowledge, OfThread, seeing}
use Rattle.floor_table.specs.declared.description.Description.{Description}
use Rattle.floor_table.specs.declared.slot.Slot.TheVariants.{SleepQueues}
use Rattle.floor_table.proofs.Sound.{sound_kept}
use Rattle.floor_table.proofs.Known.{fits_made}
use Rattle.lock_floor.specs.declared.halting.FirstSleeper.{FirstSleeper}
use Rattle.lock_floor.specs.declared.queues.HaltAt.TheVariants as at
use Rattle.lock_floor.specs.Aborts.{AbortsSleeper, IsHaltingOthers, MayAbortSleeper}
use Rattle.lock_floor.specs.Halting.{AbortsLast, MayAbortLast, NobodySleeps, SleepsFirst}
use Rattle.lock_floor.specs.Sleeps.{HasSleepersOut}
use Rattle.lock_floor.specs.Queues.{queue_at}
use Rattle.lock_floor.specs.Views.{gave}
use Rattle.lock_floor.specs.Waits.{IsQueueOf, its_chain, chain_place}
use Rattle.lock_floor.proofs.FirstAsleep.{first_last, first_sleeps}
use Rattle.lock_floor.proofs.MayAbort.{may_abort_sleeper}
use Rattle.lock_floor.proofs.MayHalt.{halt_seen, may_abort_last}
use Rattle.lock_floor.proofs.OpenStep.{marked_low}
use Rattle.halting.specs.Halts.{FindsFirst, HaltsOn, HasQueueOut, HasTakenOff, IsAside, IsFirstOf, IsHalter, Kept, TakesOff, aborts, kept_of}
use Rattle.halting.proofs.Coming.{goes_on, may_go_on}
use Rattle.halting.proofs.Finding.{look_of, off_the_way}

-- 1. It may take it off

module _ (floor : Description) (q : QueueName) (x : FirstSleeper) (v : Knowledge) (f : FindsFirst floor q x v) where
  abbrev sleepers : HasSleepersOut floor q v
  sleepers = record {
    chain = f.chain;
    last = f.out ∙ ap (λ xs. (chain_place floor q, SleepQueues f.chain) ∷ xs) (sym (ap rest f.out));
  }

  pub may_take_off : IsQueueOf floor q → IsHaltingOthers v → (x.alone ≡ true → (d : ChanNo) × (q ≡ Chan d))
      → MayAbortSleeper floor q x.thread.0 v
  may_take_off low h stays =
      may_abort_sleeper floor v q x.side x.thread.0 sleepers (first_sleeps q x f.chain f.first stays) f.sleeps low h

pub may_take_last : (floor : Description) (l : ℕ) (x : FirstSleeper) (v : Knowledge)
    → FindsFirst floor (lock_queue l) x v → l < length floor.locks → IsHaltingOthers v → x.alone ≡ true
    → MayAbortLast floor l x.side x.thread.0 v
may_take_last floor l x v f low h alone =
    may_abort_last floor v l x.side x.thread.0 (sleepers floor (lock_queue l) x v f)
    (first_last (lock_queue l) x f.chain f.first alone) f.sleeps low h

-- 2. It took it off

module _ (floor : Description) (q : QueueName) (u : ℕ) (old new : Knowledge) (a : AbortsSleeper floor q u old new)
    (chain : List (QueueName × SleepQueue)) (out : old.out ≡ (chain_place floor q, SleepQueues chain) ∷ []) where
  pub took_off : TakesOff floor q u old new
  took_off = record {
    side = a.side;
    kept = ap kept_of a.view;
    look = inl (ap look_of a.view);
    uncounted = ap (λ (k : Knowledge). k.share.doing.counting) a.view;
    phase = ap (λ (k : Knowledge). k.share.doing.phase) a.view;
    chain = chain_aborted q u a.sleeps.head a.sleepers.chain;
    out = ap (λ (k : Knowledge). k.out) a.view
        ∙ ap (λ xs. (chain_place floor q, SleepQueues (chain_aborted q u a.sleeps.head a.sleepers.chain)) ∷ xs)
        (ap rest out);
    step = a.step;
  }

module _ (floor : Description) (l : ℕ) (side : Side) (u : ℕ) (old new : Knowledge)
    (a : AbortsLast floor l side u old new) (chain : List (QueueName × SleepQueue))
    (out : old.out ≡ (chain_place floor (lock_queue l), SleepQueues chain) ∷ []) where
  pub took_last : TakesOff floor (lock_queue l) u old new
  took_last = record {
    side = side;
    kept = ap kept_of a.view;
    look = inr (ap look_of a.view);
    uncounted = ap (λ (k : Knowledge). k.share.doing.counting) a.view;
    phase = ap (λ (k : Knowledge). k.share.doing.phase) a.view;
    chain = chain_aborted (lock_queue l) u a.sleeps.head a.sleepers.chain;
    out = ap (λ (k : Knowledge). k.out) a.view
        ∙ ap (λ xs. (
          chain_place floor (lock_queue l),
          SleepQueues (chain_aborted (lock_queue l) u a.sleeps.head a.sleepers.chain),
        ) ∷ xs) (ap rest out);
    step = a.step;
  }

-- 3. It is alone in the marked list

some_in : (u : ℕ) (ws : List Waiter) → 0 < times_waiting u ws → 1 ≤ length ws
some_in u [] here = absurd (omega arith)
some_in u (w ∷ ws) here = omega arith

some_stands : (side : Side) (u : ℕ) (s : State) (q : QueueName) → 0 < times_waiting u (list_of side (s.lists q))
    → 1 ≤ waiting (s.lists q)
some_stands X u s q here = omega (arith, some_in u (s.lists q).exclusive here)
some_stands S u s q here = omega (arith, some_in u (s.lists q).shared here)

one_dealt : (q : QueueName) (w : Waiter) (xs : List ℕ) (h : Option ℕ) → 1 ≤ length xs + some h
    → (x : ℕ) × (by_abort (dealt q (w ∷ []) xs h)
    ≡ record { thread = w.thread; object = x; queue = q; cause = ByAbort } ∷ [])
one_dealt q w (x ∷ xs) h few = (x, refl)
one_dealt q w [] (Some x) few = (x, refl)
one_dealt q w [] None few = absurd (omega (arith, few))

module _ (floor : Description) (q : QueueName) (side : Side) (u : ℕ) (old new : Knowledge)
    (m : Makes floor (Aborts old.thread q side u ∷ []) old new) where
  abbrev s : State
  s = m.state

  abbrev n : State
  n = after_abort s old.thread q side u

  its_marked : new.share.doing.marked ≡ n.marked old.thread
  its_marked =
      let role : (thread_in m.behind.views old.thread).role ≡ OfThread =
      ap (λ (k : Knowledge). k.role) m.is ∙ m.role_behind in
      let seat = m.represents_behind.seats.thread old.thread role in
      let share : RepresentsShare new.share n old.thread =
      subst (λ (k : Knowledge). RepresentsShare k.share n old.thread) m.is seat.share in
      ap (λ (x : ShareColumns). x.doing.marked) share.columns

  pub taken_off : (off : HasTakenOff floor q new) × (off.mark.thread ≡ u)
  unfolding after_abort
  taken_off =
      let c = config_in floor in
      let stands = m.may.0.fits.may.stands in
      let some_there = some_stands side u s q stands in
      let even = (balanced c s q m.sound.facts.lawful).balanced in
      let one = one_dealt q (sleeper s u) (s.free_list q) (s.head q) (omega (arith, some_there, even)) in
      let is : new.share.doing.marked ≡ record { thread = u; object = one.0; queue = q; cause = ByAbort } ∷ [] =
      its_marked ∙ put_same s.marked old.thread _ ∙ one.1 in
      let behind = sound_kept floor s (Aborts old.thread q side u ∷ []) m.may m.sound in
      let low = (fits_made floor (Aborts old.thread q side u ∷ []) old new m).thread in
      let each = marked_low floor n old.thread behind.facts.lawful low new.share.doing.marked its_marked in (
        record {
          mark = record { thread = u; object = one.0; queue = q; cause = ByAbort };
          marked = is;
          off = refl;
          by_abort = refl;
          of_floor = All-head (λ (k : Mark). k.thread < length floor.threads)
              (record { thread = u; object = one.0; queue = q; cause = ByAbort }) []
              (subst (All (λ (k : Mark). k.thread < length floor.threads)) is each);
        },
        refl,
      )

-- 4. So it stands at the waking of it

-- an abort leaves whether the thread halts others, and whether it aborted itself
halting_on : (p : Phase) → is_halting p ≡ true → is_halting (phase_aborting p) ≡ true
halting_on Awake e = absurd cc
halting_on Asleep e = absurd cc
halting_on Last e = absurd cc
halting_on Halting e = refl
halting_on Aborting e = refl
halting_on SelfAborted e = refl

itself_on : (p : Phase) → phase_aborting p ≡ SelfAborted → p ≡ SelfAborted
itself_on Awake e = absurd cc
itself_on Asleep e = absurd cc
itself_on Last e = absurd cc
itself_on Halting e = absurd cc
itself_on Aborting e = absurd cc
itself_on SelfAborted e = refl

module _ (floor : Description) (over : ℕ) (itself : Bool) (v new : Knowledge) (h : IsHalter floor itself v)
    (has : HasQueueOut floor over v) (u : ℕ) (first : IsFirstOf floor has.queue u v)
    (off : TakesOff floor has.queue u v new) where
  abbrev taken : HasTakenOff floor has.queue new
  taken = (taken_off floor has.queue off.side u v new off.step).0

  pub aborts_one : HaltsOn floor (at.Aborts over itself) (at.Wakes over itself) v new
  aborts_one = record {
    at = (
      record {
        aside = subst (IsAside floor) (sym off.kept) h.aside;
        uncounted = off.uncounted ∙ h.uncounted;
        halting = ap is_halting off.phase ∙ halting_on v.share.doing.phase h.halting;
        aborted = (
          λ e. off.phase ∙ ap phase_aborting (h.aborted.0 e),
          λ e. h.aborted.1 (itself_on v.share.doing.phase (sym off.phase ∙ e)),
        );
        stood = λ e. ((h.stood e).0, ap (λ (k : Kept). k.pose) off.kept ∙ (h.stood e).1);
        halted = halt_seen floor (Aborts v.thread has.queue off.side u ∷ []) v new h.halted off.step;
      },
      (
        record {
          queue = has.queue;
          there = has.there;
          sleeps = has.sleeps;
          chain = off.chain;
          out = off.out;
        },
        taken,
      ),
    );
    kept = off.kept;
    look = off.look;
    leg = aborts over itself has.queue off.side taken.mark has.there
        (subst (λ n. IsFirstOf floor has.queue n v) (sym (taken_off floor has.queue off.side u v new off.step).1) first)
        taken.marked
        (subst (λ n. Makes floor (Aborts v.thread has.queue off.side n ∷ []) v new)
        (sym (taken_off floor has.queue off.side u v new off.step).1) off.step);
  }

-- before it
pub halts_others : (floor : Description) (itself : Bool) (v : Knowledge) → IsHalter floor itself v
    → v.share.doing.marked ≡ [] → IsHaltingOthers v
halts_others floor itself v h unmarked = assumption (
  h.halting,
  off_the_way (config_in floor) (kept_of v) h.aside.is_out,
  unmarked,
  h,
)

-- 5. The same of the queue that a call finds at the place, from what the thread knew when it had looked for a sleeper

module _ (floor : Description) (over : ℕ) (itself : Bool) (v : Knowledge) (h : IsHalter floor itself v)
    (has : HasQueueOut floor over v) (unmarked : v.share.doing.marked ≡ []) (q : QueueName)
    (is : queue_at floor over ≡ Some q) (w : Knowledge) (same : w ≡ v) where
  its_queue : has.queue ≡ q
  its_queue = same_Some has.queue q (sym has.there ∙ is)

  pub told_halting : IsHaltingOthers w
  told_halting = subst IsHaltingOthers (sym same) (halts_others floor itself v h unmarked)

  pub told_may_give : MayMake floor w (λ s. Unit {0}) (GivesItem w.thread (its_chain floor q) ∷ [])
  told_may_give = subst (λ (z : Knowledge × QueueName). MayMake floor z.0 (λ s. Unit {0})
      (GivesItem z.0.thread (its_chain floor z.1) ∷ [])) (λ i. (sym same i, its_queue i))
      (may_go_on floor over itself v h has unmarked)

  its_out : v.out ≡ (chain_place floor q, SleepQueues has.chain) ∷ rest v.out
  its_out = has.out ∙ (λ i. (chain_place floor (its_queue i), SleepQueues has.chain) ∷ rest (sym has.out i))

  pub told_aborts : (x : FirstSleeper) → ((chain : List (QueueName × SleepQueue))
      → v.out ≡ (chain_place floor q, SleepQueues chain) ∷ rest v.out → SleepsFirst q x chain)
      → (new : Knowledge) → TakesOff floor q x.thread.0 w new
      → HaltsOn floor (at.Aborts over itself) (at.Wakes over itself) v new
  told_aborts x first new off = aborts_one floor over itself v new h has x.thread.0 (
    x,
    record {
      sleeps = has.sleeps;
      chain = has.chain;
      out = has.out;
      first = subst (λ r. SleepsFirst r x has.chain) (sym its_queue) (first has.chain its_out);
    },
    refl,
  )
      (subst (λ (z : Knowledge × QueueName). TakesOff floor z.1 x.thread.0 z.0 new)
      (λ i. (same i, sym its_queue i)) off)

  pub told_gives : ((chain : List (QueueName × SleepQueue))
      → v.out ≡ (chain_place floor q, SleepQueues chain) ∷ rest v.out → NobodySleeps q chain)
      → (new : Knowledge) → new ≡ seeing new.seen (gave w (its_chain floor q))
      → Makes floor (GivesItem w.thread (its_chain floor q) ∷ []) w new
      → HaltsOn floor (at.Aborts over itself) (at.Comes (over + 1) itself) v new
  told_gives nobody new view step =
      goes_on floor over itself v h has unmarked
      (subst (λ r. NobodySleeps r has.chain) (sym its_queue) (nobody has.chain its_out)) new
      (view ∙ (λ i. seeing new.seen (gave (same i) (its_chain floor (sym its_queue i)))))
      (subst (λ (z : Knowledge × QueueName). Makes floor (GivesItem z.0.thread (its_chain floor z.1) ∷ []) z.0 new)
      (λ i. (same i, sym its_queue i)) step)
