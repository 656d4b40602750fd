-- The first turn of a take: the order of its lock is checked. An admission may be made and leaves the run on track, and
-- from there the turn goes on; a refusal may be made and noted, and cuts the thread.
use Rattle.run_laws.proofs.Names
use Names.{ℕ, true, false, List, [], length, take, Some, None, refl, sym, ap, arith, subst, is_some, take_all}
use Names.{none-some, same_Some, config_of, IsProper, hold_in, Config, Sections, NotHeld, HaltsOnlyWhenRunning}
use Names.{IsAdmitted, has_reversal, none_found, first_found, State, OrderRefused, put, gained_order, Stamps, Admits}
use Names.{Refuses, MayAll, TurnstileChain, SleepChain, RecordOf, CellOf, ClassGraph, MayStamp, entry_of, after_stamp}
use Names.{IsFreeToTake, MayAdmit, classes_held, after_admit, after_refuse, NothingIsOut, Run, does, waits_on, LockNo}
use Names.{Mode, Take, Plan, Event, Held, IsOnTrack, BeginsTake, admitted, first_against, put_same, GainFits}
use Names.{gain_passes, sections_stay}
use Rattle.std.proofs.Common.{◌≡◌, ◌<◌, ◌∷◌, ◌∙◌}
use Rattle.lock_model.specs.declared.turn.StepKind.TheVariants as kind
use Rattle.lock_model.specs.declared.event.Event.TheVariants as event
use Rattle.run_laws.proofs.LastHeld.{length-gained}
use Rattle.run_laws.proofs.OnTrack.{KeepsTrack, NoneOut, waits_back, IsAwake, IsWhere, is_awake, is_led, share_in, there_wanting, stays_on_track, noted_behind, none_unnoted, acting_in, before, behind, fit, holds_all, all_listed, all_open}

-- nothing is out still once the class graph is home
graph_home : (s : State) → NoneOut s
    → NothingIsOut s.turnstile_chain_with s.sleep_chain_with s.record_with s.cell_with None
unfolding NothingIsOut
graph_home s none (TurnstileChain k) = none (TurnstileChain k)
graph_home s none (SleepChain k) = none (SleepChain k)
graph_home s none (RecordOf t) = none (RecordOf t)
graph_home s none (CellOf l k) = none (CellOf l k)
graph_home s none ClassGraph = refl

module _ (plan : Plan) (r : Run) (t : ℕ) (l : LockNo) (mode : Mode) (p : IsProper plan) (k : IsOnTrack plan r)
    (lt : t < length plan.threads) (b : BeginsTake plan r t l mode) where
  abbrev c : Config
  c = config_of plan

  abbrev s : State
  s = r.state

  up : IsAwake s t
  up = is_awake plan r t k (Take l mode) b.at refl

  fits : GainFits plan l mode false (before plan r t) (behind plan r t)
  fits = let f = fit plan r t p (Take l mode) b.at.next in gain_passes plan l mode false _ _ f.passes f.behind

  free : IsFreeToTake c s t l.0
  free = record {
    thread = lt;
    lock = fits.lock;
    running = b.at.running;
    wants = b.wants;
    takes = k.taking t ∙ b.wants;
    unnoted = k.unnoted t;
    awake = waits_back (s.log t) ∙ ap is_some up.no_wait;
    sections = λ j m e. all_open plan r t k up.no_wait j ∙ e;
  }

  -- 1. An admission

  pub may_admit : IsAdmitted s.edges (classes_held c s t) (c.class l.0) → MayAdmit c s t l.0
  may_admit a = record { free = free; admitted = a }

  admitted_keeps : KeepsTrack plan r t (does kind.Note (Admits t l.0 ∷ []))
  unfolding after_admit
  admitted_keeps = record {
    asks = (tt, tt);
    out = graph_home s k.lawful.nothing_out;
    stands = k.lawful.queued_stands;
    noted = none_unnoted plan r t k;
    no_halts = k.no_halts;
    there = rw (put_same s.wanted t (Some l.0), put_same s.taking t (Some l.0))
        (there_wanting plan r t (Some l.0) (Some l.0) k refl (record {
          takes = λ j e. rw (up.no_wait, b.at.next) e;
          unheld =
              λ j e. subst (λ m. s.held t m ≡ NotHeld) (same_Some l.0 j e) (holds_all plan r t k up l.0 ∙ fits.unheld);
          uncut = λ e. absurd (let z = sym e ∙ b.at.uncut in cc);
        }));
    back = λ d e runs. absurd (none-some d (sym up.no_wait ∙ e));
  }

  pub admitted_on_track : IsAdmitted s.edges (classes_held c s t) (c.class l.0) → IsOnTrack plan (admitted plan r t l)
  unfolding after_admit
  admitted_on_track a = stays_on_track plan r t (does kind.Note (Admits t l.0 ∷ [])) k (may_admit a, tt) (tt, tt)
      (refl, tt) admitted_keeps (is_led plan r t k)

  -- by the test
  pub found_admitted : first_against plan r t l ≡ None → IsAdmitted s.edges (classes_held c s t) (c.class l.0)
  found_admitted e = none_found s.edges (c.class l.0) (classes_held c s t) e

  -- 2. A refusal

  -- the first that it holds, as many as are listed, are all
  pub has_all : take (length (s.held_locks t)) (before plan r t) ≡ before plan r t
  has_all =
      let few = ap length (all_listed plan r t k up) ∙ length-gained (before plan r t) in
      ap (λ n. take n (before plan r t)) few ∙ take_all (length (before plan r t)) (before plan r t) (omega arith)

  module _ (class : ℕ) (e : first_against plan r t l ≡ Some class) where
    abbrev noted : Event
    noted = event.Reversed l (record { 0 = class })

    abbrev refused : State
    refused = after_refuse s t l.0 class

    may_note : MayStamp c refused t noted
    unfolding after_refuse
    may_note = record {
      thread = lt;
      acting = acting_in plan r t k refused refl refl b.at.running;
      asks = put_same s.noted t (Some (OrderRefused l.0 class));
    }

    pub may_refuse_all : MayAll c s (Refuses t l.0 class ∷ Stamps t noted ∷ [])
    may_refuse_all = (
      record { free = free; refused = first_found s.edges (c.class l.0) (classes_held c s t) class e },
      (may_note, tt),
    )

    abbrev now : State
    now = after_stamp c refused t noted

    there : IsWhere plan t (share_in plan now t (r.next_op t))
    unfolding after_refuse after_stamp
    there = rw (waits, cut, b.wants, takes, put_same (put s.noted t (Some (OrderRefused l.0 class))) t None) (record {
      within = k.within t;
      no_endtry = k.no_endtry t;
      waiting = λ d f. absurd cc;
      holds = λ j. holds_all plan r t k up j ∙ ap (λ (hs : List Held). hold_in hs j) (sym has_all);
      listed = all_listed plan r t k up ∙ ap gained_order (sym has_all);
      left = λ j f. absurd cc;
      opened = λ j. ap (λ (x : Sections). x.now) (sections_stay c refused t noted t j refl)
          ∙ all_open plan r t k up.no_wait j;
      begun = k.begun t;
      wants = λ j f. absurd cc;
      wants_unheld = λ j f. absurd cc;
      cut_wants_nothing = λ f. refl;
      taking = refl;
      unnoted = refl;
    })
      where
        waits : waits_on (put s.log t (entry_of refused t noted ∷ s.log t) t) ≡ None
        waits = ap waits_on (put_same s.log t _)

        cut : has_reversal (put s.log t (entry_of refused t noted ∷ s.log t) t) ≡ true
        cut = ap has_reversal (put_same s.log t _)

        takes : put s.taking t (s.taking t) t ≡ None
        takes = put_same s.taking t (s.taking t) ∙ k.taking t ∙ b.wants

    pub refused_keeps : KeepsTrack plan r t (does kind.Note (Refuses t l.0 class ∷ Stamps t noted ∷ []))
    unfolding after_refuse after_stamp HaltsOnlyWhenRunning
    refused_keeps = record {
      asks = (tt, ((λ d f. refl), tt));
      out = graph_home s k.lawful.nothing_out;
      stands = k.lawful.queued_stands;
      noted = noted_behind plan r t noted k;
      no_halts = ((λ f. refl), k.no_halts);
      there = there;
      back = λ d f. absurd (none-some d (sym (ap waits_on (put_same s.log t _)) ∙ f));
    }
