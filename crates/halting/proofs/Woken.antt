-- The one that was taken off is woken: its record is taken, it is counted in, but for the thread itself, and marked,
-- and the record is given back.
use Rattle.std.proofs.Common.{◌≡◌, ◌≢◌, ◌↔◌, ℕ, Bool, true, cond, None, List, [], ◌∷◌, refl, sym, ap, ◌∙◌, subst, inl, inr, eq-eqb}
use Rattle.std.proofs.lemmas.Bool.{ne_eqb}
use Rattle.std.specs.Box.{with_value}
use Rattle.std.specs.declared.alloc.Global.{Global}
use Rattle.std.specs.declared.boxed.Box.{Box}
use Rattle.atomic_table.specs.Table.{rest}
use Rattle.lock_model.specs.Queues.{Mark}
use Rattle.lock_model.specs.declared.plan.QueueName.{QueueName}
use Rattle.lock_state.specs.State.{SelfAborted}
use Rattle.lock_state.specs.Steps.{TakesItem, GivesItem, CountsIn, Marks, is_halting}
use Rattle.lock_state.specs.Steps.Items.{RecordOf}
use Rattle.lock_state.specs.Steps.Turnstiles.{phase_marked}
use Rattle.thread_records.specs.declared.record.ThreadRec.{ThreadRec}
use Rattle.floor_table.specs.Descriptions.{config_in}
use Rattle.floor_table.specs.Steps.{MayMake, Makes}
use Rattle.floor_table.specs.Views.{Knowledge, StandsOn, seeing}
use Rattle.floor_table.specs.declared.description.Description.{Description}
use Rattle.floor_table.specs.declared.slot.Slot.TheVariants.{Record, SleepQueues}
use Rattle.lock_floor.specs.declared.queues.HaltAt.TheVariants as at
use Rattle.lock_floor.specs.Aborts.{HasSeenHalt}
use Rattle.lock_floor.specs.Counts.{counted_first}
use Rattle.lock_floor.specs.Latches.{FindsOut, Takes}
use Rattle.lock_floor.specs.Marks.{HasFirstOut, MarksFirst, MayMark, MayWakeOthers, record_marked}
use Rattle.lock_floor.specs.Passes.{IsOffTheWay}
use Rattle.lock_floor.specs.Views.{gave}
use Rattle.lock_floor.proofs.Marked.{head_or, tail_of}
use Rattle.lock_floor.proofs.MarkedRecords.{lacks}
use Rattle.lock_floor.proofs.MayHalt.{halt_seen, may_give_sleeper, may_take_sleeper}
use Rattle.lock_floor.proofs.MayWake.{may_count_in, may_mark}
use Rattle.lock_floor.proofs.Waking.{box_is, first_out, first_then}
use Rattle.halting.specs.Halts.{HaltsOn, HasQueueOut, HasTakenOff, IsAside, IsAt, IsHalter, Kept, WakesNoOther, WakesOther, finds_out, kept_of, wakes_other, wakes_own}
use Rattle.halting.proofs.Coming.{halter_waits}
use Rattle.halting.proofs.Finding.{look_of, off_the_way}

module _ (floor : Description) (over : ℕ) (itself : Bool) (v : Knowledge) (h : IsHalter floor itself v)
    (has : HasQueueOut floor over v) (off : HasTakenOff floor has.queue v) where
  abbrev m : Mark
  m = off.mark

  abbrev u : ℕ
  u = m.thread

  -- it is somebody
  pub somebody : v.share.doing.marked ≢ []
  somebody none = let z : m ∷ [] ≡ [] = sym off.marked ∙ none in cc

  -- the first is that one
  pub is_the_one : (t : ℕ) → (k : Mark) × (ks : List Mark) × (v.share.doing.marked ≡ k ∷ ks) × (k.thread ≡ t) → t ≡ u
  is_the_one t (k, ks, is, thread) =
      let same : k ∷ ks ≡ m ∷ [] = sym is ∙ off.marked in
      sym thread ∙ ap (λ (x : Mark). x.thread) (ap (head_or k) same)

  there : IsOffTheWay v.pose
  there = off_the_way (config_in floor) (kept_of v) h.aside.is_out

  -- 1. Its record

  pub may_take_it : MayMake floor v (λ s. s.record_with u ≡ None) (TakesItem v.thread (RecordOf u) ∷ [])
  may_take_it = may_take_sleeper floor v there h.aside.stamped h.halting has.queue (SleepQueues has.chain) has.out u
      off.of_floor

  pub stays_waking : (new : Knowledge) → new ≡ seeing new.seen v → FindsOut floor (RecordOf u) v new
      → HaltsOn floor (at.Wakes over itself) (at.Wakes over itself) v new
  stays_waking new view finds = record {
    at = (
      halter_waits floor itself v new h view (RecordOf u) finds,
      (
        record {
          queue = has.queue;
          there = has.there;
          sleeps = has.sleeps;
          chain = has.chain;
          out = ap (λ (k : Knowledge). k.out) view ∙ has.out;
        },
        record {
          mark = m;
          marked = ap (λ (k : Knowledge). k.share.doing.marked) view ∙ off.marked;
          off = off.off;
          by_abort = off.by_abort;
          of_floor = off.of_floor;
        },
      ),
    );
    kept = ap kept_of view;
    look = inl (ap look_of view);
    leg = finds_out (at.Wakes over itself) (RecordOf u) (m, off.marked, refl) view finds;
  }

  -- it was taken
  module _ (a : Knowledge) (taken : Takes floor (RecordOf u) u v a) where
    a_there : IsOffTheWay a.pose
    a_there = subst IsOffTheWay (sym (ap (λ (k : Knowledge). k.pose) taken.view)) there

    a_wakes : MayWakeOthers a
    a_wakes = inr (
      ap (λ (k : Knowledge). is_halting k.share.doing.phase) taken.view ∙ h.halting,
      ap (λ (k : Knowledge). k.share.doing.unstamped) taken.view ∙ h.aside.stamped,
    )

    a_thread : a.thread ≡ v.thread
    a_thread = ap (λ (k : Knowledge). k.thread) taken.view

    abbrev its_first : HasFirstOut a
    its_first = first_out floor v a m [] off.marked taken

    its_box : (b : Box ThreadRec Global) × (taken.value ≡ Record b)
    its_box = box_is floor v a m [] off.marked taken

    -- 2. Behind its mark

    -- from what the thread knew, with that one in its marked list and its record out, it is woken, and the record goes
    -- home
    module _ (d : Knowledge) (first : HasFirstOut d) (same : first.mark ≡ m) (alone : first.others ≡ [])
        (d_kept : kept_of d ≡ kept_of v) (d_out : rest d.out ≡ v.out)
        (b : Knowledge) (marks : MarksFirst floor u d b) where
      heads : marks.first.mark ≡ m
      heads = ap (head_or marks.first.mark) (sym marks.first.marked ∙ first.marked) ∙ same

      tails : marks.first.others ≡ []
      tails = ap tail_of (sym marks.first.marked ∙ first.marked) ∙ alone

      b_kept : kept_of b ≡ kept_of v
      b_kept = ap kept_of marks.view ∙ d_kept

      abbrev new_box : Box ThreadRec Global
      new_box = with_value marks.first.box (record_marked (config_in floor) marks.first.mark marks.first.box.value)

      pub b_out : b.out ≡ (u, Record new_box) ∷ v.out
      b_out = ap (λ (k : Knowledge). k.out) marks.view
          ∙ (λ i. (marks.thread i, Record new_box) ∷ d_out i)

      abbrev pub give_last : (x : Box ThreadRec Global) × (b.out ≡ (u, Record x) ∷ rest b.out)
      give_last = (new_box, b_out ∙ ap (λ xs. (u, Record new_box) ∷ xs) (sym (ap rest b_out)))

      b_phase : b.share.doing.phase ≡ phase_marked d.thread u d.share.doing.phase
      b_phase = ap (λ (k : Knowledge). k.share.doing.phase) marks.view
          ∙ ap (λ n. phase_marked d.thread n d.share.doing.phase) marks.thread

      module _ (halting : is_halting b.share.doing.phase ≡ true) where
        pub give_may : MayMake floor b (λ s. Unit {0}) (GivesItem b.thread (RecordOf u) ∷ [])
        give_may = may_give_sleeper floor b
            (subst IsOffTheWay (sym (ap (λ (k : Kept). k.pose) b_kept)) there)
            (ap (λ (k : Kept). k.unstamped) b_kept ∙ h.aside.stamped) halting u (Record new_box) off.of_floor
            give_last.1 (ap (λ (k : Knowledge). k.share.doing.counting) marks.view)

        module _ (d_seen : HasSeenHalt d) (now : Bool) (own : (now ≡ true) ↔ (b.share.doing.phase ≡ SelfAborted))
            (stood : now ≡ true → (q : QueueName) × (v.pose ≡ StandsOn q))
            (e : Knowledge) (view : e ≡ seeing e.seen (gave b (RecordOf u)))
            (gives : Makes floor (GivesItem b.thread (RecordOf u) ∷ []) b e) where
          e_kept : kept_of e ≡ kept_of v
          e_kept = ap kept_of view ∙ b_kept

          b_seen : HasSeenHalt b
          b_seen = halt_seen floor (Marks d.thread marks.first.mark marks.first.others ∷ []) d b d_seen marks.step

          pub behind : IsAt floor (at.Aborts over now) e
          behind = (
            record {
              aside = subst (IsAside floor) (sym e_kept) h.aside;
              uncounted = ap (λ (k : Knowledge). k.share.doing.counting) view
                  ∙ ap (λ (k : Knowledge). k.share.doing.counting) marks.view;
              halting = ap (λ (k : Knowledge). is_halting k.share.doing.phase) view ∙ halting;
              aborted = (
                λ x. ap (λ (k : Knowledge). k.share.doing.phase) view ∙ own.0 x,
                λ x. own.1 (sym (ap (λ (k : Knowledge). k.share.doing.phase) view) ∙ x),
              );
              stood = λ x. ((stood x).0, ap (λ (k : Kept). k.pose) e_kept ∙ (stood x).1);
              halted = halt_seen floor (GivesItem b.thread (RecordOf u) ∷ []) b e b_seen gives;
            },
            record {
              queue = has.queue;
              there = has.there;
              sleeps = has.sleeps;
              chain = has.chain;
              out = ap (λ (k : Knowledge). k.out) view ∙ ap rest b_out ∙ has.out;
            },
            ap (λ (k : Knowledge). k.share.doing.marked) view
                ∙ ap (λ (k : Knowledge). k.share.doing.marked) marks.view ∙ tails,
          )

          pub kept_behind : kept_of e ≡ kept_of v
          kept_behind = e_kept

          d_thread : d.thread ≡ v.thread
          d_thread = ap (λ (k : Kept). k.thread) d_kept

          pub mark_step : Makes floor (Marks v.thread m [] ∷ []) d b
          mark_step = subst (λ (z : ℕ × Mark × List Mark). Makes floor (Marks z.0 z.1 z.2 ∷ []) d b)
              (λ i. (d_thread i, heads i, tails i)) marks.step

          pub give_step : Makes floor (GivesItem v.thread (RecordOf u) ∷ []) b e
          give_step = subst (λ t. Makes floor (GivesItem t (RecordOf u) ∷ []) b e) (ap (λ (k : Kept). k.thread) b_kept)
              gives

-- 3. Another: it is counted in before

module _ (floor : Description) (over : ℕ) (itself : Bool) (v : Knowledge) (h : IsHalter floor itself v)
    (has : HasQueueOut floor over v) (off : HasTakenOff floor has.queue v) (other : off.mark.thread ≢ v.thread)
    (a : Knowledge) (taken : Takes floor (RecordOf off.mark.thread) off.mark.thread v a) where
  abbrev w : ℕ
  w = off.mark.thread

  pub may_count_it : MayMake floor a (λ s. Unit {0}) (CountsIn a.thread w ∷ [])
  may_count_it =
      may_count_in floor a (its_first floor over itself v h has off a taken)
      (a_there floor over itself v h has off a taken) (a_wakes floor over itself v h has off a taken)
      (λ s f e. other (sym e ∙ a_thread floor over itself v h has off a taken))
      (ap (λ (k : Knowledge). k.share.doing.counting) taken.view ∙ h.uncounted) off.of_floor

  module _ (d : Knowledge) (counts : d ≡ seeing d.seen (counted_first w a))
      (counts_step : Makes floor (CountsIn a.thread w ∷ []) a d) where
    abbrev first_now : HasFirstOut d
    first_now = first_then floor v a off.mark [] off.marked taken d counts

    d_kept : kept_of d ≡ kept_of v
    d_kept = ap kept_of counts ∙ ap kept_of taken.view

    d_out : rest d.out ≡ v.out
    d_out = ap (λ (k : Knowledge). rest k.out) counts ∙ ap (λ (k : Knowledge). rest k.out) taken.view

    d_phase : d.share.doing.phase ≡ v.share.doing.phase
    d_phase = ap (λ (k : Knowledge). k.share.doing.phase) counts
        ∙ ap (λ (k : Knowledge). k.share.doing.phase) taken.view

    pub may_mark_other : MayMark floor d
    may_mark_other = record {
      first = first_now;
      lacks = lacks floor v a off.mark [] off.marked (box_is floor v a off.mark [] off.marked taken).0 taken
          (box_is floor v a off.mark [] off.marked taken).1;
      may = may_mark floor d first_now
          (subst IsOffTheWay (sym (ap (λ (k : Kept). k.pose) d_kept)) (there floor over itself v h has off))
          (inr (ap is_halting d_phase ∙ h.halting, ap (λ (k : Kept). k.unstamped) d_kept ∙ h.aside.stamped))
          (inl (ap (λ (k : Knowledge). k.share.doing.counting) counts)) off.of_floor;
    }

    module _ (b : Knowledge) (marks : MarksFirst floor w d b) where
      same_phase : b.share.doing.phase ≡ v.share.doing.phase
      same_phase = b_phase floor over itself v h has off a taken d first_now refl refl d_kept d_out b marks
          ∙ ap (λ x. cond x SelfAborted d.share.doing.phase)
          (ne_eqb d.thread w (λ e. other (sym e ∙ ap (λ (k : Kept). k.thread) d_kept))) ∙ d_phase

      still : is_halting b.share.doing.phase ≡ true
      still = ap is_halting same_phase ∙ h.halting

      pub other_last : (x : Box ThreadRec Global) × (b.out ≡ (w, Record x) ∷ rest b.out)
      other_last = give_last floor over itself v h has off a taken d first_now refl refl d_kept d_out b marks

      pub other_give : MayMake floor b (λ s. Unit {0}) (GivesItem b.thread (RecordOf w) ∷ [])
      other_give = give_may floor over itself v h has off a taken d first_now refl refl d_kept d_out b marks still

      module _ (e : Knowledge) (view : e ≡ seeing e.seen (gave b (RecordOf w)))
          (gives : Makes floor (GivesItem b.thread (RecordOf w) ∷ []) b e) where
        d_seen : HasSeenHalt d
        d_seen = halt_seen floor (CountsIn a.thread w ∷ []) a d
            (halt_seen floor (TakesItem v.thread (RecordOf w) ∷ []) v a h.halted taken.step) counts_step

        own : (itself ≡ true) ↔ (b.share.doing.phase ≡ SelfAborted)
        own = (λ x. same_phase ∙ h.aborted.0 x, λ x. h.aborted.1 (sym same_phase ∙ x))

        count_step : Makes floor (CountsIn v.thread w ∷ []) a d
        count_step = subst (λ t. Makes floor (CountsIn t w ∷ []) a d) (ap (λ (k : Knowledge). k.thread) taken.view)
            counts_step

        pub wakes_it : HaltsOn floor (at.Wakes over itself) (at.Aborts over itself) v e
        wakes_it = record {
          at = behind floor over itself v h has off a taken d first_now refl refl d_kept d_out b marks still d_seen
              itself own h.stood e view gives;
          kept = kept_behind floor over itself v h has off a taken d first_now refl refl d_kept d_out b marks still
              d_seen itself own h.stood e view gives;
          look = inl (ap look_of view ∙ ap look_of marks.view ∙ ap look_of counts ∙ ap look_of taken.view);
          leg = wakes_other over itself off.mark off.marked other (
            a,
            taken.step,
            (
              d,
              count_step,
              (
                b,
                mark_step floor over itself v h has off a taken d first_now refl refl d_kept d_out b marks still
                    d_seen itself own h.stood e view gives,
                (
                  e,
                  give_step floor over itself v h has off a taken d first_now refl refl d_kept d_out b marks still
                      d_seen itself own h.stood e view gives,
                  refl,
                ),
              ),
            ),
          );
        }

-- 4. Itself: it was counted in before it halted others

module _ (floor : Description) (over : ℕ) (itself : Bool) (v : Knowledge) (h : IsHalter floor itself v)
    (has : HasQueueOut floor over v) (off : HasTakenOff floor has.queue v) (its_own : off.mark.thread ≡ v.thread)
    (a : Knowledge) (taken : Takes floor (RecordOf off.mark.thread) off.mark.thread v a) where
  abbrev o : ℕ
  o = off.mark.thread

  abbrev first_here : HasFirstOut a
  first_here = its_first floor over itself v h has off a taken

  pub may_mark_own : MayMark floor a
  may_mark_own = record {
    first = first_here;
    lacks = lacks floor v a off.mark [] off.marked (box_is floor v a off.mark [] off.marked taken).0 taken
        (box_is floor v a off.mark [] off.marked taken).1;
    may = may_mark floor a first_here (a_there floor over itself v h has off a taken)
        (a_wakes floor over itself v h has off a taken)
        (inr (a_thread floor over itself v h has off a taken ∙ sym its_own)) off.of_floor;
  }

  a_out : rest a.out ≡ v.out
  a_out = ap (λ (k : Knowledge). rest k.out) taken.view

  module _ (b : Knowledge) (marks : MarksFirst floor o a b) where
    now_own : b.share.doing.phase ≡ SelfAborted
    now_own = b_phase floor over itself v h has off a taken a first_here refl refl (ap kept_of taken.view) a_out b marks
        ∙ ap (λ x. cond x SelfAborted a.share.doing.phase)
        (eq-eqb a.thread o (a_thread floor over itself v h has off a taken ∙ sym its_own))

    still_own : is_halting b.share.doing.phase ≡ true
    still_own = ap is_halting now_own

    pub own_last : (x : Box ThreadRec Global) × (b.out ≡ (o, Record x) ∷ rest b.out)
    own_last =
        give_last floor over itself v h has off a taken a first_here refl refl (ap kept_of taken.view) a_out b marks

    pub own_give : MayMake floor b (λ s. Unit {0}) (GivesItem b.thread (RecordOf o) ∷ [])
    own_give = give_may floor over itself v h has off a taken a first_here refl refl (ap kept_of taken.view) a_out b
        marks still_own

    module _ (e : Knowledge) (view : e ≡ seeing e.seen (gave b (RecordOf o)))
        (gives : Makes floor (GivesItem b.thread (RecordOf o) ∷ []) b e) where
      a_seen : HasSeenHalt a
      a_seen = halt_seen floor (TakesItem v.thread (RecordOf o) ∷ []) v a h.halted taken.step

      is_own : (true ≡ true) ↔ (b.share.doing.phase ≡ SelfAborted)
      is_own = (λ x. now_own, λ x. refl)

      stands_there : true ≡ true → (q : QueueName) × (v.pose ≡ StandsOn q)
      stands_there _ = (
        marks.first.mark.queue,
        sym (ap (λ (k : Knowledge). k.pose) taken.view)
            ∙ marks.itself (its_own ∙ sym (a_thread floor over itself v h has off a taken)),
      )

      pub wakes_self : HaltsOn floor (at.Wakes over itself) (at.Aborts over true) v e
      wakes_self = record {
        at = behind floor over itself v h has off a taken a first_here refl refl (ap kept_of taken.view) a_out b marks
            still_own a_seen true is_own stands_there e view gives;
        kept = kept_behind floor over itself v h has off a taken a first_here refl refl (ap kept_of taken.view) a_out b
            marks still_own a_seen true is_own stands_there e view gives;
        look = inl (ap look_of view ∙ ap look_of marks.view ∙ ap look_of taken.view);
        leg = wakes_own over itself off.mark off.marked its_own (
          a,
          taken.step,
          (
            b,
            mark_step floor over itself v h has off a taken a first_here refl refl (ap kept_of taken.view) a_out b
                marks still_own a_seen true is_own stands_there e view gives,
            (
              e,
              give_step floor over itself v h has off a taken a first_here refl refl (ap kept_of taken.view) a_out b
                  marks still_own a_seen true is_own stands_there e view gives,
              refl,
            ),
          ),
        );
      }

-- 5. The same of a call that is told its number

-- the one that a mark woke is that one
marked_number : (floor : Description) (d b : Knowledge) (first : HasFirstOut d) (n : ℕ) → MarksFirst floor n d b
    → n ≡ first.mark.thread
marked_number floor d b first n marks =
    sym marks.thread ∙ ap (λ (k : Mark). k.thread)
    (ap (head_or marks.first.mark) (sym marks.first.marked ∙ first.marked))

module _ (floor : Description) (over : ℕ) (itself : Bool) (v : Knowledge) (h : IsHalter floor itself v)
    (has : HasQueueOut floor over v) (off : HasTakenOff floor has.queue v) (t : ℕ)
    (some : (k : Mark) × (ks : List Mark) × (v.share.doing.marked ≡ k ∷ ks) × (k.thread ≡ t)) where
  its : t ≡ off.mark.thread
  its = is_the_one floor over itself v h has off t some

  pub told_may_take : MayMake floor v (λ s. s.record_with t ≡ None) (TakesItem v.thread (RecordOf t) ∷ [])
  told_may_take = subst (λ n. MayMake floor v (λ s. s.record_with n ≡ None) (TakesItem v.thread (RecordOf n) ∷ []))
      (sym its) (may_take_it floor over itself v h has off)

  pub told_stays : (new : Knowledge) → new ≡ seeing new.seen v → FindsOut floor (RecordOf t) v new
      → HaltsOn floor (at.Wakes over itself) (at.Wakes over itself) v new × WakesNoOther v new
  told_stays new view finds =
      let on = stays_waking floor over itself v h has off new view
      (subst (λ n. FindsOut floor (RecordOf n) v new) its finds) in
      (on, λ u w. let z : on.at.1.1.mark ∷ [] ≡ [] = sym on.at.1.1.marked ∙ w.woken in cc)

  module _ (a : Knowledge) (taken : Takes floor (RecordOf t) t v a) where
    abbrev its_taken : Takes floor (RecordOf off.mark.thread) off.mark.thread v a
    its_taken = subst (λ n. Takes floor (RecordOf n) n v a) its taken

    -- another

    module _ (other : t ≢ v.thread) where
      another : off.mark.thread ≢ v.thread
      another e = other (its ∙ e)

      pub told_may_count : MayMake floor a (λ s. Unit {0}) (CountsIn a.thread t ∷ [])
      told_may_count = subst (λ n. MayMake floor a (λ s. Unit {0}) (CountsIn a.thread n ∷ [])) (sym its)
          (may_count_it floor over itself v h has off another a its_taken)

      module _ (d : Knowledge) (counts : d ≡ seeing d.seen (counted_first t a))
          (counts_step : Makes floor (CountsIn a.thread t ∷ []) a d) where
        abbrev its_counts : d ≡ seeing d.seen (counted_first off.mark.thread a)
        its_counts = subst (λ n. d ≡ seeing d.seen (counted_first n a)) its counts

        its_step : Makes floor (CountsIn a.thread off.mark.thread ∷ []) a d
        its_step = subst (λ n. Makes floor (CountsIn a.thread n ∷ []) a d) its counts_step

        pub told_may_mark : MayMark floor d
        told_may_mark = may_mark_other floor over itself v h has off another a its_taken d its_counts its_step

        module _ (n : ℕ) (b : Knowledge) (marks : MarksFirst floor n d b) where
          its_marks : MarksFirst floor off.mark.thread d b
          its_marks = subst (λ k. MarksFirst floor k d b)
              (marked_number floor d b (first_then floor v a off.mark [] off.marked its_taken d its_counts) n marks)
              marks

          pub told_last : (x : Box ThreadRec Global) × (b.out ≡ (t, Record x) ∷ rest b.out)
          told_last = subst (λ k. (x : Box ThreadRec Global) × (b.out ≡ (k, Record x) ∷ rest b.out)) (sym its)
              (other_last floor over itself v h has off another a its_taken d its_counts its_step b its_marks)

          pub told_give : MayMake floor b (λ s. Unit {0}) (GivesItem b.thread (RecordOf t) ∷ [])
          told_give = subst (λ k. MayMake floor b (λ s. Unit {0}) (GivesItem b.thread (RecordOf k) ∷ [])) (sym its)
              (other_give floor over itself v h has off another a its_taken d its_counts its_step b its_marks)

          pub told_wakes : (e : Knowledge) → e ≡ seeing e.seen (gave b (RecordOf t))
              → Makes floor (GivesItem b.thread (RecordOf t) ∷ []) b e
              → HaltsOn floor (at.Wakes over itself) (at.Aborts over itself) v e × WakesOther t v e
          told_wakes e view gives =
              let on = wakes_it floor over itself v h has off another a its_taken d its_counts its_step b its_marks e
              (subst (λ k. e ≡ seeing e.seen (gave b (RecordOf k))) its view)
              (subst (λ k. Makes floor (GivesItem b.thread (RecordOf k) ∷ []) b e) its gives) in (
                on,
                record { mark = off.mark; marked = off.marked; thread = sym its; other = other; woken = on.at.2 },
              )

    -- itself

    module _ (own : t ≡ v.thread) where
      its_own_thread : off.mark.thread ≡ v.thread
      its_own_thread = sym its ∙ own

      pub told_may_mark_own : MayMark floor a
      told_may_mark_own = may_mark_own floor over itself v h has off its_own_thread a its_taken

      module _ (n : ℕ) (b : Knowledge) (marks : MarksFirst floor n a b) where
        own_marks : MarksFirst floor off.mark.thread a b
        own_marks = subst (λ k. MarksFirst floor k a b)
            (marked_number floor a b (first_out floor v a off.mark [] off.marked its_taken) n marks) marks

        pub told_own_last : (x : Box ThreadRec Global) × (b.out ≡ (t, Record x) ∷ rest b.out)
        told_own_last = subst (λ k. (x : Box ThreadRec Global) × (b.out ≡ (k, Record x) ∷ rest b.out)) (sym its)
            (own_last floor over itself v h has off its_own_thread a its_taken b own_marks)

        pub told_own_give : MayMake floor b (λ s. Unit {0}) (GivesItem b.thread (RecordOf t) ∷ [])
        told_own_give = subst (λ k. MayMake floor b (λ s. Unit {0}) (GivesItem b.thread (RecordOf k) ∷ [])) (sym its)
            (own_give floor over itself v h has off its_own_thread a its_taken b own_marks)

        pub told_wakes_own : (e : Knowledge) → e ≡ seeing e.seen (gave b (RecordOf t))
            → Makes floor (GivesItem b.thread (RecordOf t) ∷ []) b e
            → HaltsOn floor (at.Wakes over itself) (at.Aborts over true) v e × WakesNoOther v e
        told_wakes_own e view gives = (
          wakes_self floor over itself v h has off its_own_thread a its_taken b own_marks e
              (subst (λ k. e ≡ seeing e.seen (gave b (RecordOf k))) its view)
              (subst (λ k. Makes floor (GivesItem b.thread (RecordOf k) ∷ []) b e) its gives),
          λ u w. w.other (is_the_one floor over itself v h has off u (w.mark, [], w.marked, w.thread)
              ∙ its_own_thread),
        )
