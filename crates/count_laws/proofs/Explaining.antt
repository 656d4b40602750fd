-- Each step of a running floor that keeps to the order keeps the facts by which halts are explained, and so the part of
-- the law of a history that speaks of the causes of halts.
use Rattle.std.proofs.Common.{◌≡◌, ℕ, ◌≤◌, true, false, Bool, List, length, Option, Some, None, refl, ap, arith}
use Rattle.lock_model.specs.Config.{Config}
use Rattle.lock_model.specs.Holds.{Holds}
use Rattle.lock_model.specs.Halts.{HaltsAreHonest, waits_for_another}
use Rattle.lock_model.specs.Queues.{lock_queue, chan_queue}
use Rattle.lock_model.specs.declared.plan.Mode.TheVariants.{Excl}
use Rattle.lock_model.specs.declared.plan.QueueName.{QueueName}
use Rattle.lock_model.specs.declared.plan.QueueName.TheVariants.{Lock, Chan}
use Rattle.lock_model.specs.declared.event.Entry.{Entry}
use Rattle.lock_state.specs.State.{State, Running, Queued, Awake, Halting, start_state}
use Rattle.lock_state.specs.Facts.{Lawful, LawfulFloor, StandingIsQueued, NextIsNew, Counted, Ordered, Explained, StandersAreOpen, RestingHasReleased, WantsFitTakes, SleepersTakeNothing, UnhaltedBefore, HaltedSince, HaltsHaveCauses}
use Rattle.lock_state.specs.Facts.Counts.{is_at_rest}
use Rattle.lock_state.specs.Facts.Halts.{NobodyIsHalted}
use Rattle.lock_state.specs.Steps.{Step, Seeks, Gains, Drops, Stamps, Readies, Unreadies, Enters, Opens, EntersSleepQueue, OpensSleepQueue, Adds, Marks, Resumes, Claims, Admits, CountsOut, CountsSelfIn, CountsEnd, Halts, Aborts, FitsFloor, KeepsToOrder, after}
use Rattle.lock_state.specs.Steps.LockWords.{is_woken, taking_from, after_seek, after_look, after_gain, after_drop, after_stamp, after_ready, after_unready}
use Rattle.lock_state.specs.Steps.Turnstiles.{taking_by, after_enter, after_open, after_mark, after_resume}
use Rattle.lock_state.specs.Steps.SleepQueues.{after_enter_sleep, after_open_sleep, after_add, after_wake, after_abort}
use Rattle.lock_state.specs.Steps.Lending.{after_claim, after_lend, after_shift, after_end_walk}
use Rattle.lock_state.specs.Steps.Items.{after_take, after_give}
use Rattle.lock_state.specs.Steps.Orders.{after_admit, after_refuse}
use Rattle.lock_state.specs.Steps.Counting.{after_count_out, after_count_in, after_count_self_in, after_count_end, after_halt}
use Rattle.sleep_laws.specs.Sleepers.{SleepersFit}
use Rattle.lock_laws.proofs.Resume.{unnamed}
use Rattle.lock_laws.proofs.Standing.{marked_named}
use Rattle.order_laws.proofs.WantFacts as wants
use Rattle.order_laws.proofs.WantFacts.Steps as wants_on
use Rattle.count_laws.proofs.Explained as facts
use Rattle.count_laws.proofs.Causes as causes
use Rattle.count_laws.proofs.Moments.{none_since, halts_to_come, cause_honest}

-- a thread that runs stands on no queue
runs_nowhere : (c : Config) (s : State) (t : ℕ) → Lawful c s → s.wait t ≡ Running → s.blocked_on t ≡ None
unfolding StandingIsQueued
runs_nowhere c s t l r = grind arith

module _ {at_work : ℕ → Option ℕ} (c : Config) (s : State) (w : LawfulFloor c s) (h : Counted c s) (o : Ordered c s)
    (p : SleepersFit at_work c s) (x : Explained c s) where
  abbrev l : Lawful c s
  l = w.lawful

  unhalted_no_more : UnhaltedBefore c true s.history
  unfolding UnhaltedBefore
  unhalted_no_more i = absurd cc

  resume_waits : (t : ℕ) (q : QueueName) → ((d : ℕ) → q ≡ chan_queue d → s.taking t ≡ None) → (past : List Entry)
      → waits_for_another c past t (s.taking t) ≡ true → waits_for_another c past t (taking_by c q (s.taking t)) ≡ true
  resume_waits t (Lock j) f past z = z
  resume_waits t (Chan d) f past z = causes.none_waits c s x t (s.taking t) (Some (c.chan_lock d.0)) (f d.0 refl) past z

  -- wants fit takes behind it, by the laws of orders
  fitting : (chains : ℕ) (step : Step) → FitsFloor chains c s step → KeepsToOrder c s step
      → WantsFitTakes (after c s step)
  fitting chains step f k = wants_on.keeps chains c s step f k l o x.wants

  pub keeps : (chains : ℕ) (step : Step) → FitsFloor chains c s step → KeepsToOrder c s step
      → Explained c (after c s step)
  unfolding after_seek after_look after_gain after_drop after_stamp after_ready after_unready after_enter after_open
      after_mark after_resume after_enter_sleep after_open_sleep after_add after_wake after_claim after_lend after_shift
      after_end_walk after_admit after_refuse after_take after_give after_count_out after_count_in after_count_self_in
      after_count_end after_halt after_abort
  keeps chains (Seeks t j by_try) f k =
      let b = facts.acting_sleepers c s x t (taking_from by_try (s.wanted t) j (s.taking t)) f.may.acting.unnamed
      f.may.acting.unwoken in
      let d = causes.causes_taking c s x t (taking_from by_try (s.wanted t) j (s.taking t))
      (causes.seek_waits c s x t by_try (s.wanted t) j (s.taking t) f.has_seen.takes) in
      assumption (x, fitting chains (Seeks t j by_try) f k, b, d)
  keeps chains (Gains t j mode by_try) f k =
      let n = f.may.acting.unnamed in
      assumption (
        x,
        fitting chains (Gains t j mode by_try) f k,
        facts.gain_open c s x t j (Holds mode) n,
        facts.gain_released c s x t j (Holds mode) n,
      )
  keeps chains (Claims t j y by_try) f k =
      let n = f.may.acting.unnamed in
      assumption (
        x,
        fitting chains (Claims t j y by_try) f k,
        facts.gain_open c s x t j (Holds Excl) n,
        facts.gain_released c s x t j (Holds Excl) n,
      )
  keeps chains (Drops t j mode) f k =
      assumption (x, fitting chains (Drops t j mode) f k, facts.left_open c s x t j, facts.left_released c s x t j)
  keeps chains (Opens t j mode) f k =
      assumption (x, fitting chains (Opens t j mode) f k, facts.left_open c s x t j, facts.left_released c s x t j)
  keeps chains (OpensSleepQueue t j mode) f k = assumption (
    x,
    fitting chains (OpensSleepQueue t j mode) f k,
    facts.left_open c s x t j,
    facts.left_released c s x t j,
  )
  keeps chains (Stamps t e) f k =
      let g = f.may in
      let ends = f.has_seen.takes in
      let alive = f.asks_of_thread.runs.unended in
      assumption (
        x,
        fitting chains (Stamps t e) f k,
        facts.stamp_open c s x t e g.acting.unnamed,
        facts.stamp_sleepers c s x t e,
        causes.unhalted l p x t e g f.has_seen.asleep,
        causes.since l p x t e g,
        causes.causes l p x t e g alive ends,
      )
  keeps chains (Readies t q) f k =
      assumption (x, fitting chains (Readies t q) f k, facts.wait_sleepers c s x t Queued refl)
  keeps chains (Unreadies t q) f k =
      assumption (x, fitting chains (Unreadies t q) f k, facts.wait_sleepers c s x t Running refl)
  keeps chains (Enters t j mode y) f k =
      let a = f.asks_of_thread.runs.phase in
      assumption (
        x,
        fitting chains (Enters t j mode y) f k,
        facts.all_open c s x t j f.may.waits.sections,
        facts.stand_released c s x t (lock_queue j) a,
        facts.enter_sleepers c s x t j,
      )
  keeps chains (EntersSleepQueue t j mode y) f k =
      let a = f.asks_of_thread.runs.phase in
      assumption (
        x,
        fitting chains (EntersSleepQueue t j mode y) f k,
        facts.all_open c s x t j f.may.waits.sections,
        facts.stand_released c s x t (lock_queue j) a,
        facts.enter_sleepers c s x t j,
      )
  keeps chains (Adds t d y) f k =
      let a = f.asks_of_thread.phase in
      assumption (
        x,
        fitting chains (Adds t d y) f k,
        facts.others_open c s x t d f.may.sections,
        facts.stand_released c s x t (chan_queue d) a,
        facts.add_sleepers c s x t d k.takes,
      )
  keeps chains (Marks t m ms) f k =
      let stood = marked_named c s t m ms l f.may.thread f.may.marked in
      assumption (
        x,
        fitting chains (Marks t m ms) f k,
        facts.mark_open c s x t m stood,
        facts.mark_released c s x t m stood,
        facts.mark_sleepers c s x t m stood,
      )
  keeps chains (Resumes t q cause) f k =
      let g = f.may in
      let n = unnamed c s t q cause g l in
      let rests = facts.rests_less c s x t Awake (λ i. absurd cc) in
      let d = causes.causes_taking c s x t (taking_by c q (s.taking t))
      (resume_waits t q (λ d i. facts.took_nothing c s x t q cause g n d i)) in
      assumption (
        x,
        fitting chains (Resumes t q cause) f k,
        rests,
        facts.resume_sleepers c s x t q cause g n,
        d,
      )
  keeps chains (Admits t j) f k =
      let free = f.may.free in
      let n = runs_nowhere c s t l free.running in
      let b = facts.acting_sleepers c s x t (Some j) n (ap is_woken free.running) in
      let d = causes.causes_taking c s x t (Some j) (causes.none_waits c s x t (s.taking t) (Some j) free.takes) in
      assumption (x, fitting chains (Admits t j) f k, b, d)
  keeps chains (CountsOut t) f k =
      assumption (x, fitting chains (CountsOut t) f k, facts.out_released c s x t f.may.released)
  keeps chains (CountsSelfIn t) f k =
      let rests = facts.rests_less c s x t Halting (λ i. ap is_at_rest f.may.last) in
      assumption (x, fitting chains (CountsSelfIn t) f k, rests)
  keeps chains (CountsEnd t) f k = assumption (x, fitting chains (CountsEnd t) f k, causes.causes_end c s x t)
  keeps chains (Halts t) f k = assumption (
    x,
    fitting chains (Halts t) f k,
    unhalted_no_more,
    causes.halt_since l h o p x t f.may,
    causes.halt_causes l h o p x t f.may,
  )
  keeps chains (Aborts t q side u) f k =
      let rests = facts.rests_less c s x t _ (facts.aborting_rests (s.phase t)) in
      assumption (x, fitting chains (Aborts t q side u) f k, rests)
  keeps chains other f k = assumption (x, fitting chains other f k)

-- so part 10 of the law holds of its history
pub honest : (c : Config) (s : State) → Lawful c s → Explained c s → HaltsAreHonest c s.history
unfolding UnhaltedBefore HaltedSince HaltsHaveCauses NextIsNew
honest c s l x = go s.halted refl
  where
    go : (b : Bool) → s.halted ≡ b → HaltsAreHonest c s.history
    go true i = record {
      moment = s.halted_at;
      comes_first = (x.halted_since i).1;
      honest = λ t lt. cause_honest c (s.has_ended t) (s.taking t) s.halted_at s.history t (x.halts_have_causes i t lt);
    }
    go false i =
        let few : length s.history ≤ s.next = omega (arith, l.books.next_is_new) in
        record {
          moment = s.next;
          comes_first = halts_to_come c s.next s.history (x.unhalted_before i);
          honest = λ t lt. rw (none_since s.next s.history l.books.tickets_run few) refl;
        }

pub begins : (c : Config) → Explained c (start_state c)
unfolding start_state StandersAreOpen RestingHasReleased SleepersTakeNothing UnhaltedBefore HaltedSince HaltsHaveCauses
    NobodyIsHalted
begins c = record {
  standers_are_open = λ t q e. absurd cc;
  resting_has_released = λ t d e. absurd cc;
  wants = wants.begins c;
  sleepers_take_nothing = λ t d y. refl;
  unhalted_before = λ i. tt;
  halted_since = λ i. absurd cc;
  halts_have_causes = λ i. absurd cc;
}
