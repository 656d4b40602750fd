-- Those whom a thread took off a queue are woken, one after the other; then it is at rest.
use Rattle.std.proofs.Common.{◌≡◌, ℕ, Bool, true, false, Option, Some, None, IfNone, IfSome, List, [], ◌∷◌, ◌++◌, map, option_map, count_ones, ◌+◌, refl, sym, ap, ◌∙◌, subst}
use Rattle.std.proofs.lemmas.List.{length-map}
use Rattle.lock_model.specs.Queues.{Waiter, Mark, best_of}
use Rattle.lock_model.specs.declared.numbers.ChanNo.{ChanNo}
use Rattle.lock_model.specs.declared.numbers.ThreadNo.{ThreadNo}
use Rattle.lock_state.specs.Steps.{Step, TakesItem}
use Rattle.lock_state.specs.Steps.Items.{RecordOf}
use Rattle.lock_state.specs.Steps.LockWords.{bits_of_threads}
use Rattle.floor_table.specs.Steps.{Makes, MakesEach}
use Rattle.floor_table.specs.Views.{Knowledge, seeing}
use Rattle.floor_table.specs.declared.description.Description.{Description}
use Rattle.floor_table.proofs.Made.{sooner}
use Rattle.lock_floor.specs.Marks.{CanMark, WakesFirst, marking, wakes, with_marks}
use Rattle.lock_floor.specs.Passes.{IsAtRest, MakesEntry}
use Rattle.lock_floor.proofs.MayWake.{runners_mark}
use Rattle.lock_floor.proofs.Resting.{rest_seeing}
use Rattle.lock_floor.proofs.Taking.{HasWaited, waits_none, waits_on}
use Rattle.cond_vars.specs.declared.waking.WakeNext.{WakeNext}
use Rattle.cond_vars.specs.declared.waking.WakeNext.TheVariants.{Done, Again, Wake}
use Rattle.cond_vars.specs.Wakes.{MayWakeUp, TakesOff, HasTakenOff, GoesOnWaking, HasWoken, Signals, Broadcasts, threads_woken, wake_of}

-- 1. One part

pub can_mark : (floor : Description) (v : Knowledge) → IsAtRest floor (with_marks v []) → CanMark v
can_mark floor v r = runners_mark v r.runs r.nothing_out
    (record { awake = r.going.awake; unended = r.going.unended; stamped = r.going.stamped }) r.uncounted

-- it is at rest as before, but for those who are left
pub rests_on : (floor : Description) (next : WakeNext) (v w : Knowledge) → IsAtRest floor (with_marks v [])
    → GoesOnWaking floor next v w → IsAtRest floor (with_marks w [])
rests_on floor Done v w r g = subst (λ k. IsAtRest floor (with_marks k [])) (sym g.1) r
rests_on floor Again v w r g = subst (λ k. IsAtRest floor (with_marks k [])) (sym g.3)
    (rest_seeing floor (with_marks v []) w.seen r)
rests_on floor (Wake t) v w r g =
    let x : WakesFirst floor t.0 v w = g.1 in
    subst (λ k. IsAtRest floor (with_marks k [])) (sym x.view) (assumption r)

-- 2. All of it

each_append : (floor : Description) (xs : List (List Step)) (ys : List (List Step)) (a b c : Knowledge)
    → MakesEach floor xs a b → MakesEach floor ys b c → MakesEach floor (xs ++ ys) a c
each_append floor [] ys a b c m n = subst (λ k. MakesEach floor ys k c) (sym m) n
each_append floor (x ∷ xs) ys a b c m n = (m.0, m.1, each_append floor xs ys m.0 b c m.2 n)

-- Since it began it woke some, and waited for the next one's record: once those who are left are woken, all are
pub record WakesSince (floor : Description) (begun now : Knowledge) : Type 0 where
  pub came : Knowledge
  pub whole : (z : Knowledge) → MakesEach floor (marking begun.thread came.share.doing.marked) came z
      → MakesEach floor (marking begun.thread begun.share.doing.marked) begun z
  pub waited : HasWaited came now
  pub settled : now.share.doing.marked ≡ [] → now ≡ came
  pub log : now.share.log ≡ begun.share.log
  pub held : now.share.held ≡ begun.share.held
  pub spare : now.spare ≡ begun.spare
  pub thread : now.thread ≡ begun.thread

pub wakes_begun : (floor : Description) (v : Knowledge) → WakesSince floor v v
wakes_begun floor v = record {
  came = v;
  whole = λ z m. m;
  waited = waits_none v;
  settled = λ nobody. refl;
  log = refl;
  held = refl;
  spare = refl;
  thread = refl;
}

module _ (floor : Description) (begun now new : Knowledge) (h : WakesSince floor begun now) where
  -- nobody is left
  pub has_woken : GoesOnWaking floor Done now new → HasWoken floor begun new
  has_woken g =
      let none_left : h.came.share.doing.marked ≡ [] =
      sym (ap (λ (k : Knowledge). k.share.doing.marked) h.waited.view) ∙ g.0 in
      record {
        steps = subst (λ k. MakesEach floor (marking begun.thread begun.share.doing.marked) begun k)
            (sym (g.1 ∙ h.settled g.0))
            (h.whole h.came
            (subst (λ ms. MakesEach floor (marking begun.thread ms) h.came h.came) (sym none_left) refl));
        log = ap (λ (k : Knowledge). k.share.log) g.1 ∙ h.log;
        held = ap (λ (k : Knowledge). k.share.held) g.1 ∙ h.held;
        spare = ap (λ (k : Knowledge). k.spare) g.1 ∙ h.spare;
        thread = ap (λ (k : Knowledge). k.thread) g.1 ∙ h.thread;
      }

  -- the next one's record is out
  pub still_waits : GoesOnWaking floor Again now new → WakesSince floor begun new
  still_waits g = record {
    came = h.came;
    whole = h.whole;
    waited = waits_on floor (RecordOf g.0.thread) h.came now new h.waited g.3 g.4;
    settled = λ nobody. absurd
        (let z : g.0 ∷ g.1 ≡ [] = sym g.2 ∙ sym (ap (λ (k : Knowledge). k.share.doing.marked) g.3) ∙ nobody in cc);
    log = ap (λ (k : Knowledge). k.share.log) g.3 ∙ h.log;
    held = ap (λ (k : Knowledge). k.share.held) g.3 ∙ h.held;
    spare = ap (λ (k : Knowledge). k.spare) g.3 ∙ h.spare;
    thread = ap (λ (k : Knowledge). k.thread) g.3 ∙ h.thread;
  }

  -- the next one was woken
  pub wakes_on : (t : ThreadNo) → GoesOnWaking floor (Wake t) now new → WakesSince floor begun new
  wakes_on t g =
      let x : WakesFirst floor t.0 now new = g.1 in
      let left : new.share.doing.marked ≡ x.others = ap (λ (k : Knowledge). k.share.doing.marked) x.view in
      let all : h.came.share.doing.marked ≡ x.mark ∷ x.others =
      sym (ap (λ (k : Knowledge). k.share.doing.marked) h.waited.view) ∙ x.marked in
      let made : MakesEach floor (wakes begun.thread x.mark x.others) now new =
      subst (λ n. MakesEach floor (wakes n x.mark x.others) now new) h.thread x.steps in
      let first : Makes floor (TakesItem begun.thread (RecordOf x.mark.thread) ∷ []) h.came made.0 =
      sooner floor (TakesItem begun.thread (RecordOf x.mark.thread) ∷ []) now.seen h.came made.0 h.waited.since
      (subst (λ k. Makes floor (TakesItem begun.thread (RecordOf x.mark.thread) ∷ []) k made.0) h.waited.view made.1) in
      record {
        came = new;
        whole = λ z woken. h.whole z
            (subst (λ ms. MakesEach floor (marking begun.thread ms) h.came z) (sym all)
            (each_append floor (wakes begun.thread x.mark x.others) (marking begun.thread x.others) h.came new z
            (made.0, first, made.2)
            (subst (λ ms. MakesEach floor (marking begun.thread ms) new z) left woken)));
        waited = waits_none new;
        settled = λ nobody. refl;
        log = ap (λ (k : Knowledge). k.share.log) x.view ∙ h.log;
        held = ap (λ (k : Knowledge). k.share.held) x.view ∙ h.held;
        spare = ap (λ (k : Knowledge). k.spare) x.view ∙ h.spare;
        thread = ap (λ (k : Knowledge). k.thread) x.view ∙ h.thread;
      }

-- behind it, it is at rest
pub rests_done : (floor : Description) (v w : Knowledge) → IsAtRest floor (with_marks v [])
    → GoesOnWaking floor Done v w → IsAtRest floor w
rests_done floor v w r g =
    subst (IsAtRest floor) (sym g.1) (subst (IsAtRest floor) (λ i. with_marks v (sym g.0 i)) r)

-- 3. A take-off that waited for the chain, and what the calls promise

pub rest_waiting : (floor : Description) (old mid : Knowledge) → HasWaited old mid → IsAtRest floor old
    → IsAtRest floor mid
rest_waiting floor old mid h r = subst (IsAtRest floor) (sym h.view) (rest_seeing floor old mid.seen r)

pub may_waiting : (floor : Description) (d : ℕ) (old mid : Knowledge) → HasWaited old mid → MayWakeUp floor d old
    → MayWakeUp floor d mid
may_waiting floor d old mid h m = subst (MayWakeUp floor d) (sym h.view) (record { chan = m.chan; room = m.room })

pub taken_off_then : (floor : Description) (d : ChanNo) (all : Bool) (woken : ℕ) (old mid new : Knowledge)
    → HasWaited old mid → HasTakenOff floor d all woken mid new → HasTakenOff floor d all woken old new
taken_off_then floor d all woken old mid new h taken =
    let x : HasTakenOff floor d all woken (seeing mid.seen old) new =
    subst (λ (k : Knowledge). HasTakenOff floor d all woken k new) h.view taken in
    let t : TakesOff floor d all x.sleepers (seeing mid.seen old) new = x.takes_off in
    record {
      sleepers = x.sleepers;
      takes_off = record {
        came = t.came;
        takes = sooner floor (TakesItem old.thread _ ∷ []) mid.seen old t.came h.since t.takes;
        off = t.off;
        wakes = t.wakes;
        slept = t.slept;
        marked = t.marked;
        notes = t.notes;
      };
      bits = x.bits;
      count = x.count;
      entry = record {
        ticket = x.entry.ticket;
        log = x.entry.log;
        held = x.entry.held;
        spare = x.entry.spare;
        thread = x.entry.thread;
        before = x.entry.before;
        behind = x.entry.behind;
        of = x.entry.of;
        step = x.entry.step;
        log_before = x.entry.log_before;
        log_behind = x.entry.log_behind;
      };
      rest = x.rest;
    }

-- the entry stands behind the waking too
entry_then : (floor : Description) (d : ChanNo) (all : Bool) (woken : ℕ) (old mid new : Knowledge)
    (taken : HasTakenOff floor d all woken old mid) → HasWoken floor mid new
    → MakesEntry floor (wake_of all d (bits_of_threads (threads_woken all taken.sleepers))) old.share.held old new
entry_then floor d all woken old mid new taken w =
    let e = taken.entry in
    subst (λ n. MakesEntry floor (wake_of all d n) old.share.held old new) taken.bits record {
      ticket = e.ticket;
      log = w.log ∙ e.log;
      held = w.held ∙ e.held;
      spare = ap (λ n. n + 1) w.spare ∙ e.spare;
      thread = w.thread ∙ e.thread;
      before = e.before;
      behind = e.behind;
      of = e.of;
      step = e.step;
      log_before = e.log_before;
      log_behind = e.log_behind ∙ sym w.log;
    }

-- who is in the marked list first
head_of_all : List ℕ → Option ℕ
head_of_all [] = None
head_of_all (u ∷ us) = Some u

module _ (floor : Description) (d : ChanNo) (woken : ℕ) (old mid new : Knowledge) where
  module _ (taken : HasTakenOff floor d false woken old mid) (w : HasWoken floor mid new) where
    waking_steps : MakesEach floor (marking old.thread mid.share.doing.marked) mid new
    waking_steps = subst (λ t. MakesEach floor (marking t mid.share.doing.marked) mid new) taken.entry.thread w.steps

    best_or_none : (ws : List Waiter) → head_of_all (threads_woken false ws) ≡ option_map (λ w. w.thread) (best_of ws)
    unfolding head_of_all
    best_or_none [] = refl
    best_or_none (x ∷ ws) = refl

    -- nobody was in the marked list
    signals_nobody : mid.share.doing.marked ≡ [] → Signals floor d None old new
    unfolding head_of_all
    signals_nobody none =
        let nobody : [] ≡ threads_woken false taken.sleepers =
        sym (ap (map (λ (m : Mark). m.thread)) none) ∙ taken.takes_off.marked in
        let best : None ≡ option_map (λ w. w.thread) (best_of taken.sleepers) =
        ap head_of_all nobody ∙ best_or_none taken.sleepers in
        record {
          sleepers = taken.sleepers;
          wakes_up = record { taken = mid; takes_off = taken.takes_off; wakes = waking_steps };
          best = best;
          nobody = (λ _. without_best taken.sleepers best, λ _. refl);
          entry = entry_then floor d false woken old mid new taken w;
        }
      where
        without_best : (ws : List Waiter) → None ≡ option_map (λ (w : Waiter). w.thread) (best_of ws) → ws ≡ []
        without_best [] e = refl
        without_best (x ∷ ws) e = absurd cc

    -- that thread was the first there
    signals_one : (t : ThreadNo) (m : Mark) (ms : List Mark) → mid.share.doing.marked ≡ m ∷ ms → m.thread ≡ t.0
        → Signals floor d (Some t) old new
    unfolding head_of_all
    signals_one t m ms is its =
        let first : Some t.0 ≡ head_of_all (threads_woken false taken.sleepers) =
        sym (ap Some its) ∙ sym (ap (λ ks. head_of_all (map (λ (k : Mark). k.thread) ks)) is)
        ∙ ap head_of_all taken.takes_off.marked in
        let best : Some t.0 ≡ option_map (λ w. w.thread) (best_of taken.sleepers) =
        first ∙ best_or_none taken.sleepers in
        record {
          sleepers = taken.sleepers;
          wakes_up = record { taken = mid; takes_off = taken.takes_off; wakes = waking_steps };
          best = best;
          nobody = (
            λ e. absurd (let z : Some t ≡ None = e in cc),
            λ none. absurd (let z : Some t.0 ≡ None =
                best ∙ ap (λ ws. option_map (λ (w : Waiter). w.thread) (best_of ws)) none in cc),
          );
          entry = entry_then floor d false woken old mid new taken w;
        }

    pub signals : (first : Option ThreadNo) → IfNone first (mid.share.doing.marked ≡ [])
        → IfSome first (λ t. (m : Mark) × (ms : List Mark) × (mid.share.doing.marked ≡ m ∷ ms) × (m.thread ≡ t.0))
        → Signals floor d first old new
    signals None none some = signals_nobody none
    signals (Some t) none some = signals_one t some.0 some.1 some.2 some.3

  module _ (taken : HasTakenOff floor d true woken old mid) (w : HasWoken floor mid new) where
    pub broadcasts : Broadcasts floor d (count_ones woken) old new
    broadcasts = record {
      sleepers = taken.sleepers;
      wakes_up = record {
        taken = mid;
        takes_off = taken.takes_off;
        wakes = subst (λ t. MakesEach floor (marking t mid.share.doing.marked) mid new) taken.entry.thread w.steps;
      };
      count = taken.count ∙ length-map taken.sleepers (λ (w : Waiter). w.thread);
      entry = entry_then floor d true woken old mid new taken w;
    }
