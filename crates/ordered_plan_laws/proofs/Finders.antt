-- Where takes go upward, a thread whose counting out leaves nobody awake is the last: of those that hadn't ended, each
-- would wait for a lock declared behind the one for which the next one waits.
use Rattle.std.proofs.Common.{◌≡◌, ℕ, zero, suc, ◌+◌, ◌<◌, ◌≤◌, Bool, true, false, not, cond, eqb, ◌&&◌, List, [], ◌∷◌, Option, Some, None, refl, sym, ap, inl, inr, arith, ◌∙◌}
use Rattle.std.proofs.lemmas.Bool.{and_parts, or_parts}
use Rattle.std.proofs.lemmas.Option.{same_Some}
use Rattle.lock_model.specs.Config.{Config}
use Rattle.lock_model.specs.Counts.{one}
use Rattle.lock_model.specs.Events.{of_sleep, is_falling}
use Rattle.lock_model.specs.Halts.{ends_asleep, waits_for_another}
use Rattle.lock_model.specs.History.{open_in, entries_of}
use Rattle.lock_model.specs.Holds.{Holds, is_unheld}
use Rattle.lock_model.specs.Law.{is_named}
use Rattle.lock_model.specs.declared.plan.Mode.{Mode}
use Rattle.lock_model.specs.declared.plan.QueueName.{QueueName}
use Rattle.lock_model.specs.declared.plan.QueueName.TheVariants.{Lock, Chan}
use Rattle.lock_model.specs.declared.event.Entry.{Entry}
use Rattle.lock_state.specs.State.{State, is_finder}
use Rattle.lock_state.specs.Steps.{Step, Halts, FitsFloor, after}
use Rattle.lock_state.specs.Steps.LockWords.{after_seek, after_look, after_gain, after_drop, after_stamp, after_ready, after_unready}
use Rattle.lock_state.specs.Steps.Turnstiles.{after_enter, after_open, after_mark, after_resume}
use Rattle.lock_state.specs.Steps.SleepQueues.{after_enter_sleep, after_open_sleep, after_add, after_wake, after_abort}
use Rattle.lock_state.specs.Steps.Lending.{after_claim, after_lend, after_shift, after_end_walk}
use Rattle.lock_state.specs.Steps.Items.{after_take, after_give}
use Rattle.lock_state.specs.Steps.Orders.{after_admit, after_refuse}
use Rattle.lock_state.specs.Steps.Counting.{after_count_out, after_count_in, after_count_self_in, after_count_end, after_halt}
use Rattle.lock_state.specs.Facts.{Lawful, LawfulFloor, StandingWants, SectionsAreHeld, Counted, EndedIsBare, EndedIsCounted, Ordered, WantsAreOrdered, Taken, OnlyLocksAreHeld, Explained, WantedIsTaken, SleepersTakeNothing, UnhaltedBefore}
use Rattle.lock_state.specs.Facts.Halts.{NobodyIsHalted}
use Rattle.sleep_laws.specs.Sleepers.{SleepersFit}
use Rattle.lock_laws.proofs.Best.{any_below-true}
use Rattle.lock_laws.proofs.Sums.{sum_below-all}
use Rattle.order_laws.proofs.OrderFacts.Lists.{is_held}
use Rattle.count_laws.proofs.Alone.{all_stand}
use Rattle.count_laws.proofs.Finders.{all_halted}
use Rattle.ordered_plan_laws.specs.Upward.{HaveOwnClasses, IsUpward, EdgesGoUp, has_sleep}
use Rattle.ordered_plan_laws.proofs.Edges.{edge_up}

-- where no entry begins a sleep, a thread's newest one doesn't
unslept_ends : (es : List Entry) (t : ℕ) → has_sleep es ≡ false → ends_asleep (entries_of es t) ≡ false
unslept_ends [] t n = refl
unslept_ends (e ∷ es) t n =
    let p = or_parts (is_falling (of_sleep e.event)) (has_sleep es) n in
    go (eqb e.thread.0 t) p.0 (unslept_ends es t p.1)
  where
    go : (b : Bool) → is_falling (of_sleep e.event) ≡ false → ends_asleep (entries_of es t) ≡ false
        → ends_asleep (cond b (e ∷ entries_of es t) (entries_of es t)) ≡ false
    go true here rest = here
    go false here rest = rest

-- a thread waits for a lock that another holds
pub record Waits (c : Config) (s : State) (t : ℕ) : Type 0 where
  pub lock : ℕ
  pub wants : s.wanted t ≡ Some lock
  pub holder : ℕ
  pub its : holder < c.threads
  pub mode : Mode
  pub holds : s.held holder lock ≡ Holds mode

module _ {at_work : ℕ → Option ℕ} (c : Config) (s : State) (own : HaveOwnClasses c) (w : LawfulFloor c s)
    (h : Counted c s) (o : Ordered c s) (k : Taken c s) (p : SleepersFit at_work c s) (x : Explained c s)
    (u : IsUpward c s) (f : ℕ) (e : is_finder (s.phase f) ≡ true) where
  abbrev l : Lawful c s
  l = w.lawful

  alive_waits : (t : ℕ) → t < c.threads → s.has_ended t ≡ false → Waits c s t
  unfolding StandingWants SectionsAreHeld WantedIsTaken SleepersTakeNothing
  alive_waits t lt alive = elim (all_halted c s l h o x f e p t lt) [
    | inl i ↦ absurd (let z : false ≡ true = sym alive ∙ i in cc)
    | inr y ↦ elim y [
      | inl i ↦ absurd (let z : false ≡ true = sym (unslept_ends s.history t u.unslept)
          ∙ (and_parts (ends_asleep (entries_of s.history t)) (not (is_named s.history t)) i).0 in cc)
      | inr i ↦ by_taken (s.taking t) refl i
    ]
  ]
    where
      wants_it : (j : ℕ) → s.taking t ≡ Some j → s.wanted t ≡ Some j
      wants_it j i = let z = all_stand c s l h f e t lt alive in by_queue z.queue z.named
        where
          by_queue : (q : QueueName) → s.blocked_on t ≡ Some q → s.wanted t ≡ Some j
          by_queue (Lock a) n =
              let wants = l.waits.standing_wants t a.0 n in
              let same = same_Some a.0 j (sym (x.wants.wanted_is_taken t a.0 wants) ∙ i) in
              wants ∙ ap Some same
          by_queue (Chan d) n =
              absurd (let z : None ≡ Some j = sym (x.sleepers_take_nothing t d.0 (inl n)) ∙ i in cc)

      by_taken : (y : Option ℕ) → s.taking t ≡ y → waits_for_another c s.history t y ≡ true → Waits c s t
      by_taken None i y = absurd cc
      by_taken (Some j) i y =
          let r = any_below-true c.threads (λ v. not (eqb v t) && not (is_unheld (open_in c s.history v j))) y in
          let a = and_parts (not (eqb r.0 t)) (not (is_unheld (open_in c s.history r.0 j))) r.2 in
          let m = is_held (open_in c s.history r.0 j) a.1 in
          record {
            lock = j;
            wants = wants_it j i;
            holder = r.0;
            its = r.1;
            mode = m.0;
            holds = l.books.sections_are_held r.0 j m.0 m.1;
          }

  -- a thread that holds a lock hasn't ended
  holder_alive : (t j : ℕ) (mode : Mode) → s.held t j ≡ Holds mode → s.has_ended t ≡ false
  unfolding EndedIsBare
  holder_alive t j mode i = grind arith

  -- who holds a lock waits for one declared behind it; so at last for none
  climb : (n t j : ℕ) (mode : Mode) → t < c.threads → s.held t j ≡ Holds mode → c.locks ≤ j + n → ⊥
  unfolding OnlyLocksAreHeld WantsAreOrdered EdgesGoUp
  climb zero t j mode lt i le = omega (arith, k.only_locks_are_held t j mode i, le)
  climb (suc n) t j mode lt i le =
      let y = alive_waits t lt (holder_alive t j mode i) in
      let a = k.only_locks_are_held t j mode i in
      let b = k.only_locks_are_held y.holder y.lock y.mode y.holds in
      let up = edge_up c own s.edges u.edges_go_up j y.lock a b (o.wants_are_ordered t y.lock y.wants j mode i) in
      climb n y.holder y.lock y.mode y.its y.holds (omega (arith, le, up))

  pub all_ended : (t : ℕ) → t < c.threads → s.has_ended t ≡ true
  all_ended t lt = go (s.has_ended t) refl
    where
      go : (b : Bool) → s.has_ended t ≡ b → b ≡ true
      go true i = refl
      go false i =
          let y = alive_waits t lt i in
          absurd (climb c.locks y.holder y.lock y.mode y.its y.holds (omega arith))

  -- so no thread is left that hasn't ended
  pub none_left : s.ended < c.threads → ⊥
  unfolding EndedIsCounted
  none_left less =
      let all = sum_below-all c.threads (λ t. one (s.has_ended t)) (λ j lt. rw (all_ended j lt) (omega arith)) in
      omega (arith, less, h.ended_is_counted, all)

module _ {at_work : ℕ → Option ℕ} (c : Config) (s : State) (own : HaveOwnClasses c) (w : LawfulFloor c s)
    (h : Counted c s) (o : Ordered c s) (k : Taken c s) (p : SleepersFit at_work c s) (x : Explained c s)
    (u : IsUpward c s) where
  pub none_halted : (chains : ℕ) (step : Step) → FitsFloor chains c s step → s.halted ≡ false
      → (after c s step).halted ≡ false
  unfolding after_seek after_look after_gain after_drop after_stamp after_ready after_unready after_enter after_open
      after_mark after_resume after_enter_sleep after_open_sleep after_add after_wake after_claim after_lend after_shift
      after_end_walk after_admit after_refuse after_take after_give after_count_out after_count_in after_count_self_in
      after_count_end after_halt after_abort
  none_halted chains (Halts t) f i =
      absurd (none_left c s own w h o k p x u t (ap is_finder f.may.finder) f.may.alive)
  none_halted chains other f i = i

pub no_halt : (c : Config) (s : State) → Explained c s → s.halted ≡ false → NobodyIsHalted c s.history
unfolding UnhaltedBefore
no_halt c s x i = x.unhalted_before i
