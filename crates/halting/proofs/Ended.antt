-- A thread ends: its own record is taken, it counts itself among those that have ended, the record goes home, and it
-- counts itself out.
use Rattle.std.proofs.Common.{◌≡◌, ◌≢◌, ℕ, true, false, cond, None, [], ◌∷◌, refl, sym, ap, ◌∙◌, subst, inl, inr}
use Rattle.std.proofs.lemmas.Bool.{ne_eqb}
use Rattle.std.specs.declared.alloc.Global.{Global}
use Rattle.std.specs.declared.boxed.Box.{Box}
use Rattle.atomic_table.specs.Table.{rest}
use Rattle.lock_state.specs.State.{Awake, Asleep, Last, SelfAborted, is_parked}
use Rattle.lock_state.specs.Steps.{TakesItem, GivesItem, CountsEnd, CountsOut}
use Rattle.lock_state.specs.Steps.Counting.{phase_out}
use Rattle.lock_state.specs.Steps.Items.{RecordOf}
use Rattle.thread_records.specs.declared.record.ThreadRec.{ThreadRec}
use Rattle.floor_table.specs.Shelves.{found}
use Rattle.floor_table.specs.Past.{IsSeenBy}
use Rattle.floor_table.specs.Steps.{MayMake, Makes, MakesEach}
use Rattle.floor_table.specs.Views.{Knowledge, Runs, StandsOn, seeing}
use Rattle.floor_table.specs.declared.description.Description.{Description}
use Rattle.floor_table.specs.declared.slot.Slot.{Slot}
use Rattle.floor_table.specs.declared.slot.Slot.TheVariants.{Record}
use Rattle.floor_table.proofs.Made.{sooner}
use Rattle.floor_table.proofs.Shelved.{found_first}
use Rattle.lock_floor.specs.declared.counts.Count.TheVariants.{Out}
use Rattle.lock_floor.specs.declared.queues.HaltAt.{HaltAt}
use Rattle.lock_floor.specs.declared.queues.HaltAt.TheVariants as at
use Rattle.lock_floor.specs.Counts.{counted}
use Rattle.lock_floor.specs.Ends.{ended}
use Rattle.lock_floor.specs.Latches.{FindsOut, Takes}
use Rattle.lock_floor.specs.Passes.{IsAtRest, IsGoing, IsOffTheWay}
use Rattle.lock_floor.specs.Views.{gave}
use Rattle.lock_floor.proofs.May.{doing_it, keeps_own_out, not_away_settled, settled_now}
use Rattle.lock_floor.proofs.MayHalt.{may_count_out_again, may_end}
use Rattle.lock_floor.proofs.Priorities.{a_record}
use Rattle.lock_floor.proofs.Taking.{record_at}
use Rattle.halting.specs.declared.ending.EndAt.{EndAt}
use Rattle.halting.specs.declared.ending.EndAt.TheVariants.{Takes as TakesRecord, Halts}
use Rattle.halting.specs.Ends.{EndDone, EndLeg, EndsItself, EndsOn, EndsThread, HasEnded, IsHaltingEnded, ends, ends_by, finds_out, halted, halts, leaves_some}
use Rattle.halting.proofs.Finding.{look_of, none_still}
use Rattle.halting.specs.Halts.{EndsHalting, HaltsOn, HaltsOthers, HasHalted, HasNoNewLook, IsAside, IsAt, IsLast, Kept, kept_of, nobody_is_awake, somebody_is_awake}

-- a thread that isn't parked gives its own record back
may_give_own : (floor : Description) (v : Knowledge) (y : Slot) → IsOffTheWay v.pose → v.share.doing.unstamped ≡ None
    → is_parked v.share.doing.phase ≡ false → v.out ≡ (v.thread, y) ∷ rest v.out
    → MayMake floor v (λ s. Unit {0}) (GivesItem v.thread (RecordOf v.thread) ∷ [])
may_give_own floor v y there stamped unparked out s f _ =
    let has = (f.out.each (RecordOf v.thread) v.thread y (record_at floor v.thread f.thread)
    (ap (found v.thread) out ∙ found_first v.thread y (rest v.out))).0 in (
      record {
        fits = record {
          may = record { thread = f.thread; out = has; done = λ own. settled_now floor v s f there };
          has_out = has;
          has_seen = tt;
          asks_of_thread = record {
            unparked = ap is_parked (doing_it floor v s f (λ d. d.phase)) ∙ unparked;
            owes = record {
              added = not_away_settled floor v s f there;
              stamped = doing_it floor v s f (λ d. d.unstamped) ∙ stamped;
            };
          };
        };
        keeps_order = tt;
        keeps_count = keeps_own_out floor v s f;
      },
      tt,
    )

-- 1. Its record isn't at home

pub stays : (floor : Description) (v new : Knowledge) → IsAtRest floor v → v.share.held ≡ []
    → new ≡ seeing new.seen v → FindsOut floor (RecordOf v.thread) v new
    → EndsOn floor TakesRecord TakesRecord v new
stays floor v new h bare view finds = record {
  at = (subst (IsAtRest floor) (sym view) (rest_seen h), ap (λ (k : Knowledge). k.share.held) view ∙ bare);
  kept = ap kept_of view;
  look = inl (ap look_of view);
  leg = finds_out view finds;
}
  where
    rest_seen : IsAtRest floor v → IsAtRest floor (seeing new.seen v)
    rest_seen h = assumption h

-- 2. It ends

module _ (floor : Description) (v a : Knowledge) (mine : v.description ≡ floor) (h : IsAtRest floor v)
    (bare : v.share.held ≡ []) (taken : Takes floor (RecordOf v.thread) v.thread v a) where
  box_is : (b : Box ThreadRec Global) × (taken.value ≡ Record b)
  box_is = a_record v.thread taken.value taken.kind

  a_thread : a.thread ≡ v.thread
  a_thread = ap (λ (k : Knowledge). k.thread) taken.view

  a_out : a.out ≡ (v.thread, Record box_is.0) ∷ []
  a_out = ap (λ (k : Knowledge). k.out) taken.view ∙ (λ i. (v.thread, box_is.1 i) ∷ h.nothing_out i)

  pub may_end_now : MayMake floor a (λ s. Unit {0}) (CountsEnd a.thread ∷ [])
  may_end_now = may_end floor a box_is.0 (ap (λ (k : Knowledge). k.pose) taken.view ∙ h.runs)
      (subst IsGoing (sym taken.view)
      record { awake = h.going.awake; unended = h.going.unended; stamped = h.going.stamped })
      (ap (λ (k : Knowledge). k.share.held) taken.view ∙ bare)
      (ap (λ (k : Knowledge). k.share.doing.wanted) taken.view ∙ h.wants_nothing)
      (a_out ∙ (λ i. (sym a_thread i, Record box_is.0) ∷ rest (sym a_out i)))

  module _ (e : Knowledge) (view : e ≡ seeing e.seen (ended a)) (end_step : Makes floor (CountsEnd a.thread ∷ []) a e)
    where
      e_out : e.out ≡ (v.thread, Record box_is.0) ∷ []
      e_out = ap (λ (k : Knowledge). k.out) view ∙ a_out

      pub give_last : (x : Box ThreadRec Global) × (e.out ≡ (v.thread, Record x) ∷ rest e.out)
      give_last = (box_is.0, e_out ∙ ap (λ xs. (v.thread, Record box_is.0) ∷ xs) (sym (ap rest e_out)))

      e_thread : e.thread ≡ v.thread
      e_thread = ap (λ (k : Knowledge). k.thread) view ∙ a_thread

      e_runs : e.pose ≡ Runs
      e_runs = ap (λ (k : Knowledge). k.pose) view ∙ ap (λ (k : Knowledge). k.pose) taken.view ∙ h.runs

      e_awake : e.share.doing.phase ≡ Awake
      e_awake = ap (λ (k : Knowledge). k.share.doing.phase) view
          ∙ ap (λ (k : Knowledge). k.share.doing.phase) taken.view ∙ h.going.awake

      pub give_may : MayMake floor e (λ s. Unit {0}) (GivesItem e.thread (RecordOf v.thread) ∷ [])
      give_may = subst (λ t. MayMake floor e (λ s. Unit {0}) (GivesItem e.thread (RecordOf t) ∷ [])) e_thread
          (may_give_own floor e (Record box_is.0) (inl e_runs)
          (ap (λ (k : Knowledge). k.share.doing.unstamped) view
          ∙ ap (λ (k : Knowledge). k.share.doing.unstamped) taken.view ∙ h.going.stamped)
          (ap is_parked e_awake)
          (e_out ∙ (λ i. (sym e_thread i, Record box_is.0) ∷ rest (sym e_out i))))

      module _ (g : Knowledge) (home : g ≡ seeing g.seen (gave e (RecordOf v.thread)))
          (give_step : Makes floor (GivesItem e.thread (RecordOf v.thread) ∷ []) e g) where
        g_out : g.out ≡ []
        g_out = ap (λ (k : Knowledge). k.out) home ∙ ap rest e_out

        g_kept : kept_of g ≡ record (kept_of v) { has_ended = true }
        g_kept = ap kept_of home ∙ ap kept_of view ∙ (λ i. record (kept_of (taken.view i)) { has_ended = true })

        aside : IsAside floor (kept_of g)
        aside = subst (IsAside floor) (sym g_kept) record {
          description = mine;
          is_out = inr (h.runs, refl);
          no_round = h.no_round;
          no_walk = h.no_walk;
          stamped = h.going.stamped;
        }

        g_awake : g.share.doing.phase ≡ Awake
        g_awake = ap (λ (k : Knowledge). k.share.doing.phase) home ∙ e_awake

        g_unmarked : g.share.doing.marked ≡ []
        g_unmarked = ap (λ (k : Knowledge). k.share.doing.marked) home
            ∙ ap (λ (k : Knowledge). k.share.doing.marked) view
            ∙ ap (λ (k : Knowledge). k.share.doing.marked) taken.view ∙ h.unmarked

        g_uncounted : g.share.doing.counting ≡ None
        g_uncounted = ap (λ (k : Knowledge). k.share.doing.counting) home
            ∙ ap (λ (k : Knowledge). k.share.doing.counting) view
            ∙ ap (λ (k : Knowledge). k.share.doing.counting) taken.view ∙ h.uncounted

        pub may_count_out_now : MayMake floor g (λ s. Unit {0}) (CountsOut g.thread ∷ [])
        may_count_out_now = may_count_out_again floor g
            (inr (ap (λ (k : Kept). k.pose) g_kept ∙ h.runs, ap (λ (k : Kept). k.has_ended) g_kept)) g_out
            (ap (λ (k : Kept). k.walk) g_kept ∙ h.no_walk) g_unmarked
            (ap (λ (k : Kept). k.unstamped) g_kept ∙ h.going.stamped) (ap is_parked g_awake)
            (λ z. let y : Awake ≡ SelfAborted = sym g_awake ∙ z in cc)

        steps : MakesEach floor (ends_by v.thread) v g
        steps = (
          a,
          taken.step,
          (
            e,
            subst (λ t. Makes floor (CountsEnd t ∷ []) a e) a_thread end_step,
            (g, subst (λ t. Makes floor (GivesItem t (RecordOf v.thread) ∷ []) e g) e_thread give_step, refl),
          ),
        )

        module _ (n : ℕ) (new : Knowledge) (counts : new ≡ seeing new.seen (counted Out n g))
            (count_step : Makes floor (CountsOut g.thread ∷ []) g new) where
          phase_now : new.share.doing.phase ≡ phase_out n
          phase_now = ap (λ (k : Knowledge). k.share.doing.phase) counts

          kept_now : kept_of new ≡ record (kept_of v) { has_ended = true }
          kept_now = ap kept_of counts ∙ g_kept

          look_now : HasNoNewLook v new
          look_now = inl (ap look_of counts ∙ ap look_of home ∙ ap look_of view ∙ ap look_of taken.view)

          pub ends_last : n ≡ 1 → EndsOn floor TakesRecord (Halts at.Finds) v new
          ends_last one = record {
            at = record {
              halts = record {
                aside = subst (IsAside floor) (sym (ap kept_of counts)) aside;
                uncounted = ap (λ (k : Knowledge). k.share.doing.counting) counts ∙ g_uncounted;
                nothing_out = ap (λ (k : Knowledge). k.out) counts ∙ g_out;
                unmarked = ap (λ (k : Knowledge). k.share.doing.marked) counts ∙ g_unmarked;
                last = phase_now ∙ ap phase_out one;
              };
              runs = ap (λ (k : Kept). k.pose) kept_now ∙ h.runs;
              ended = ap (λ (k : Kept). k.has_ended) kept_now;
              unheld = ap (λ (k : Kept). k.held) kept_now ∙ bare;
            };
            kept = kept_now;
            look = look_now;
            leg = ends steps count_step;
          }

          pub ends_others : n ≢ 1 → EndsThread floor TakesRecord v new
          ends_others more =
              let asleep : new.share.doing.phase ≡ Asleep =
              phase_now ∙ ap (λ b. cond b Last Asleep) (ne_eqb n 1 more) in
              record {
                ended = record {
                  aside = subst (IsAside floor) (sym (ap kept_of counts)) aside;
                  runs = ap (λ (k : Kept). k.pose) kept_now ∙ h.runs;
                  ended = ap (λ (k : Kept). k.has_ended) kept_now;
                  parked = ap is_parked asleep;
                  nothing_out = ap (λ (k : Knowledge). k.out) counts ∙ g_out;
                  unmarked = ap (λ (k : Knowledge). k.share.doing.marked) counts ∙ g_unmarked;
                  unheld = ap (λ (k : Kept). k.held) kept_now ∙ bare;
                };
                kept = kept_now;
                look = look_now;
                end = leaves_some steps count_step asleep;
              }

-- 3. It halts others

module _ (floor : Description) (there : HaltAt) (v : Knowledge) (h : IsHaltingEnded floor there v) where
  -- it has ended before
  same_kept : kept_of v ≡ record (kept_of v) { has_ended = true }
  same_kept i = record (kept_of v) { has_ended = h.ended i }

  pub halts_on : (to : HaltAt) (new : Knowledge) → HaltsOn floor there to v new
      → EndsOn floor (Halts there) (Halts to) v new
  halts_on to new on = assumption (
    on.at,
    ap (λ (k : Kept). k.pose) on.kept ∙ h.runs,
    ap (λ (k : Kept). k.has_ended) on.kept ∙ h.ended,
    ap (λ (k : Kept). k.held) on.kept ∙ h.unheld,
    on.kept ∙ same_kept,
    halts there to on.leg,
    on,
  )

  -- who has ended isn't among those that it aborts
  pub has_ended : (new : Knowledge) → IsAside floor (kept_of v) → HasHalted floor v new → HasEnded floor new
  has_ended new aside done = record {
    aside = subst (IsAside floor) (sym done.kept) aside;
    runs = runs_now;
    ended = ap (λ (k : Kept). k.has_ended) done.kept ∙ h.ended;
    parked = elim done.at_resume [
      | inl parked ↦ parked
      | inr own ↦ absurd (let z : Runs ≡ StandsOn (done.stood own).0 = sym runs_now ∙ (done.stood own).1 in cc)
    ];
    nothing_out = done.nothing_out;
    unmarked = done.unmarked;
    unheld = ap (λ (k : Kept). k.held) done.kept ∙ h.unheld;
  }
    where
      runs_now : new.pose ≡ Runs
      runs_now = ap (λ (k : Kept). k.pose) done.kept ∙ h.runs

  pub ends_done : (new : Knowledge) → IsAside floor (kept_of v) → EndsHalting floor there v new
      → EndsThread floor (Halts there) v new
  ends_done new aside done = assumption (
    has_ended new aside done.halted,
    done.halted.kept ∙ same_kept,
    halted there done.end,
    done.halted,
  )

-- wherever it stands, it is aside
pub aside_at : (floor : Description) (there : HaltAt) (v : Knowledge) → IsAt floor there v → IsAside floor (kept_of v)
aside_at floor at.Finds v h = h.aside
aside_at floor (at.Comes over itself) v h = h.0.aside
aside_at floor (at.Aborts over itself) v h = h.0.aside
aside_at floor (at.Wakes over itself) v h = h.0.aside

-- 4. The same of a call that is told the thread's number

module _ (floor : Description) (v : Knowledge) (mine : v.description ≡ floor) (h : IsAtRest floor v)
    (bare : v.share.held ≡ []) (t : ℕ) (is : t ≡ v.thread) where
  pub told_stays : (new : Knowledge) → new ≡ seeing new.seen v → FindsOut floor (RecordOf t) v new
      → EndsOn floor TakesRecord TakesRecord v new
  told_stays new view finds = stays floor v new h bare view (subst (λ n. FindsOut floor (RecordOf n) v new) is finds)

  module _ (a : Knowledge) (taken : Takes floor (RecordOf t) t v a) where
    its_taken : Takes floor (RecordOf v.thread) v.thread v a
    its_taken = subst (λ n. Takes floor (RecordOf n) n v a) is taken

    pub told_may_end : MayMake floor a (λ s. Unit {0}) (CountsEnd a.thread ∷ [])
    told_may_end = may_end_now floor v a mine h bare its_taken

    module _ (e : Knowledge) (view : e ≡ seeing e.seen (ended a)) (step : Makes floor (CountsEnd a.thread ∷ []) a e)
      where
        pub told_last : (x : Box ThreadRec Global) × (e.out ≡ (t, Record x) ∷ rest e.out)
        told_last = subst (λ n. (x : Box ThreadRec Global) × (e.out ≡ (n, Record x) ∷ rest e.out)) (sym is)
            (give_last floor v a mine h bare its_taken e view step)

        pub told_give_may : MayMake floor e (λ s. Unit {0}) (GivesItem e.thread (RecordOf t) ∷ [])
        told_give_may = subst (λ n. MayMake floor e (λ s. Unit {0}) (GivesItem e.thread (RecordOf n) ∷ [])) (sym is)
            (give_may floor v a mine h bare its_taken e view step)

        module _ (g : Knowledge) (home : g ≡ seeing g.seen (gave e (RecordOf t)))
            (give_step : Makes floor (GivesItem e.thread (RecordOf t) ∷ []) e g) where
          its_home : g ≡ seeing g.seen (gave e (RecordOf v.thread))
          its_home = subst (λ n. g ≡ seeing g.seen (gave e (RecordOf n))) is home

          its_give : Makes floor (GivesItem e.thread (RecordOf v.thread) ∷ []) e g
          its_give = subst (λ n. Makes floor (GivesItem e.thread (RecordOf n) ∷ []) e g) is give_step

          pub told_count : MayMake floor g (λ s. Unit {0}) (CountsOut g.thread ∷ [])
          told_count = may_count_out_now floor v a mine h bare its_taken e view step g its_home its_give

          module _ (n : ℕ) (new : Knowledge) (counts : new ≡ seeing new.seen (counted Out n g))
              (count_step : Makes floor (CountsOut g.thread ∷ []) g new) where
            pub told_ends_last : n ≡ 1 → EndsOn floor TakesRecord (Halts at.Finds) v new
            told_ends_last = ends_last floor v a mine h bare its_taken e view step g its_home its_give n new counts
                count_step

            pub told_ends_others : n ≢ 1 → EndsThread floor TakesRecord v new
            told_ends_others = ends_others floor v a mine h bare its_taken e view step g its_home its_give n new counts
                count_step

-- 5. The whole of a thread that ends: where its record wasn't at home, the first step is one from what it knew before

pub record EndsSince (floor : Description) (begun v : Knowledge) : Type 0 where
  pub at : IsAtRest floor v
  pub bare : v.share.held ≡ []
  pub kept : kept_of v ≡ kept_of begun
  pub whole_then : (new : Knowledge) → EndsItself floor v new → EndsItself floor begun new

-- what stays where it has ended
abbrev when_ended : Kept → Kept
when_ended k = record k { has_ended = true }

abbrev there_of : EndAt → HaltAt
there_of TakesRecord = at.Finds
there_of (Halts there) = there

module _ (floor : Description) (begun v w : Knowledge) (s : EndsSince floor begun v) where
  not_home : (a b : EndAt) → a ≡ TakesRecord → b ≡ TakesRecord → EndLeg floor a b v w
      → (w ≡ seeing w.seen v) × FindsOut floor (RecordOf v.thread) v w
  not_home a b e f (ends x y) = absurd (let z : Halts at.Finds ≡ TakesRecord = f in cc)
  not_home a b e f (finds_out view finds) = (view, finds)
  not_home a b e f (halts there to x) = absurd (let z : Halts to ≡ TakesRecord = f in cc)

  pub again : EndsOn floor TakesRecord TakesRecord v w → EndsSince floor begun w
  again on = record {
    at = on.at.0;
    bare = on.at.1;
    kept = on.kept ∙ s.kept;
    whole_then = λ new x. s.whole_then new (sooner_ends new x);
  }
    where
      n : (w ≡ seeing w.seen v) × FindsOut floor (RecordOf v.thread) v w
      n = not_home TakesRecord TakesRecord refl refl on.leg

      since : IsSeenBy v.thread v.seen w.seen
      since = subst (IsSeenBy v.thread v.seen) (sym n.1.moment.seen) n.1.moment.since

      sooner_ends : (new : Knowledge) → EndsItself floor w new → EndsItself floor v new
      sooner_ends new x =
          let m = subst (λ u. MakesEach floor (ends_by u) w x.ended) (ap (λ (k : Knowledge). k.thread) n.0) x.ends in
          record {
            ended = x.ended;
            ends = (
              m.0,
              sooner floor (TakesItem v.thread (RecordOf v.thread) ∷ []) w.seen v m.0 since
                  (subst (λ k. Makes floor (TakesItem v.thread (RecordOf v.thread) ∷ []) k m.0) n.0 m.1),
              m.2,
            );
            counts = x.counts;
          }

  pub ends_kept : EndsThread floor TakesRecord v w → kept_of w ≡ when_ended (kept_of begun)
  ends_kept d = d.kept ∙ ap when_ended s.kept

  pub ends_unseen : EndsThread floor TakesRecord v w → w.share.doing.last_look ≡ None
  ends_unseen d = none_still v w d.look s.at.no_last_look

  pub ends_whole : EndsThread floor TakesRecord v w → EndsItself floor begun w
  ends_whole d = s.whole_then w (by TakesRecord refl d.end)
    where
      by : (a : EndAt) → a ≡ TakesRecord → EndDone floor a v w → EndsItself floor v w
      by a e (leaves_some {mid = mid} steps counts asleep) =
          record { ended = mid; ends = steps; counts = somebody_is_awake counts asleep }
      by a e (halted there x) = absurd (let z : Halts there ≡ TakesRecord = e in cc)

  module _ (to : HaltAt) (on : EndsOn floor TakesRecord (Halts to) v w) where
    was_last : (a b : EndAt) → a ≡ TakesRecord → b ≡ Halts to → EndLeg floor a b v w
        → (to ≡ at.Finds) × ((mid : Knowledge) × MakesEach floor (ends_by v.thread) v mid
        × Makes floor (CountsOut mid.thread ∷ []) mid w)
    was_last a b e f (ends {mid = mid} x y) = (sym (ap there_of f), (mid, x, y))
    was_last a b e f (finds_out view finds) = absurd (let z : TakesRecord ≡ Halts to = f in cc)
    was_last a b e f (halts there there2 x) = absurd (let z : Halts there ≡ TakesRecord = e in cc)

    went : (to ≡ at.Finds) × ((mid : Knowledge) × MakesEach floor (ends_by v.thread) v mid
        × Makes floor (CountsOut mid.thread ∷ []) mid w)
    went = was_last TakesRecord (Halts to) refl refl on.leg

    pub is_last : IsLast floor w
    is_last = subst (λ a. IsAt floor a w) went.0 on.at.halts

    pub halts_kept : (new : Knowledge) → HasHalted floor w new → kept_of new ≡ when_ended (kept_of begun)
    halts_kept new done = done.kept ∙ on.kept ∙ ap when_ended s.kept

    pub halts_unseen : (new : Knowledge) → HasHalted floor w new → new.share.doing.last_look ≡ None
    halts_unseen new done = none_still w new done.look (none_still v w on.look s.at.no_last_look)

    pub halts_whole : (new : Knowledge) → HasHalted floor w new → HaltsOthers floor w new
        → HasEnded floor new × EndsItself floor begun new
    halts_whole new done whole = (
      has_ended floor to w on.at new (aside_at floor to w on.at.halts) done,
      s.whole_then new
          record { ended = went.1.0; ends = went.1.1; counts = nobody_is_awake went.1.2 is_last.last whole },
    )
