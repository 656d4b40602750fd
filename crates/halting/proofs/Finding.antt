-- A halting begins: where a thread is left that hasn't ended, the last counts itself in and sets the halt word; and
-- where none is left it is done.
use Rattle.std.proofs.Common.{◌≡◌, ℕ, true, false, Option, None, [], ◌∷◌, refl, sym, ap, ◌∙◌, subst, inl, inr}
use Rattle.lock_model.specs.Config.{Config}
use Rattle.lock_state.specs.State.{Look, Last, Halting, SelfAborted, is_finder, is_parked}
use Rattle.lock_state.specs.Steps.{CountsSelfIn, Halts, is_halting}
use Rattle.floor_table.specs.Descriptions.{config_in}
use Rattle.floor_table.specs.Past.{LeadsTo}
use Rattle.floor_table.specs.Steps.{MayMake, Makes}
use Rattle.floor_table.specs.Views.{Knowledge, seeing}
use Rattle.floor_table.specs.declared.description.Description.{Description}
use Rattle.finder_laws.specs.Left.{HasSeenLeft}
use Rattle.finder_laws.proofs.AllSeen.{left_counted}
use Rattle.lock_floor.specs.declared.counts.Count.TheVariants.{SelfIn}
use Rattle.lock_floor.specs.declared.queues.HaltAt.TheVariants as at
use Rattle.lock_floor.specs.Counts.{counted}
use Rattle.lock_floor.specs.Ends.{FindsWhetherLeft}
use Rattle.lock_floor.specs.Passes.{IsOffTheWay}
use Rattle.lock_floor.proofs.MayHalt.{may_count_self_in, may_halt, halt_made_seen}
use Rattle.halting.specs.Halts.{EndsHalting, HaltsOn, HasNoNewLook, IsAside, IsLast, IsOut, Kept, kept_of, all_ended, halts}

-- who counts itself out stands on a queue or runs
pub off_the_way : (c : Config) (k : Kept) → IsOut c k → IsOffTheWay k.pose
off_the_way c k (inl (q, stands, left)) = inr (q, stands)
off_the_way c k (inr (runs, ended)) = inl runs

-- what it saw last of a lock's word
abbrev pub look_of : Knowledge → Option Look
look_of v = v.share.doing.last_look

-- through two parts it has no new look where it has none through each
pub no_new_look : (u v w : Knowledge) → HasNoNewLook u v → HasNoNewLook v w → HasNoNewLook u w
no_new_look u v w before (inr none) = inr none
no_new_look u v w (inl same) (inl still) = inl (still ∙ same)
no_new_look u v w (inr none) (inl still) = inr (still ∙ none)

pub none_still : (v w : Knowledge) → HasNoNewLook v w → v.share.doing.last_look ≡ None
    → w.share.doing.last_look ≡ None
none_still v w (inl same) none = same ∙ none
none_still v w (inr gone) none = gone

-- who found that a thread is left has seen it
pub left_seen : (floor : Description) (old new : Knowledge) → FindsWhetherLeft floor true old new
    → HasSeenLeft floor new
left_seen floor old new f = record {
  state = f.moment.state;
  led = subst (λ xs. LeadsTo floor xs f.moment.state) (sym f.moment.seen) f.moment.sound.reached;
  left = f.left.0 refl;
}

module _ (floor : Description) (v found : Knowledge) (h : IsLast floor v) (view : found ≡ seeing found.seen v) where
  pub ends_at_once : FindsWhetherLeft floor false v found → EndsHalting floor at.Finds v found
  ends_at_once f = record {
    halted = record {
      kept = ap kept_of view;
      look = inl (ap look_of view);
      uncounted = ap (λ (k : Knowledge). k.share.doing.counting) view ∙ h.uncounted;
      nothing_out = ap (λ (k : Knowledge). k.out) view ∙ h.nothing_out;
      unmarked = ap (λ (k : Knowledge). k.share.doing.marked) view ∙ h.unmarked;
      at_resume = inl (ap (λ (k : Knowledge). is_parked k.share.doing.phase) view ∙ ap is_parked h.last);
      stood = λ e. absurd (let z : Last ≡ SelfAborted =
          sym (ap (λ (k : Knowledge). k.share.doing.phase) view ∙ h.last) ∙ e in cc);
    };
    end = all_ended f view;
  }

  module _ (f : FindsWhetherLeft floor true v found) where
    there : IsOffTheWay found.pose
    there = subst IsOffTheWay (sym (ap (λ (k : Knowledge). k.pose) view))
        (off_the_way (config_in floor) (kept_of v) h.aside.is_out)

    stamped : found.share.doing.unstamped ≡ None
    stamped = ap (λ (k : Knowledge). k.share.doing.unstamped) view ∙ h.aside.stamped

    last : found.share.doing.phase ≡ Last
    last = ap (λ (k : Knowledge). k.share.doing.phase) view ∙ h.last

    pub may_count_in_now : MayMake floor found (λ s. Unit {0}) (CountsSelfIn found.thread ∷ [])
    may_count_in_now = may_count_self_in floor found there stamped last (left_seen floor v found f)

    module _ (n : ℕ) (in_now : Knowledge) (counts : in_now ≡ seeing in_now.seen (counted SelfIn n found))
        (step : Makes floor (CountsSelfIn found.thread ∷ []) found in_now) where
      halting_now : in_now.share.doing.phase ≡ Halting
      halting_now = ap (λ (k : Knowledge). k.share.doing.phase) counts

      left_now : HasSeenLeft floor in_now
      left_now = left_counted floor found in_now (ap is_finder last) (left_seen floor v found f) step

      pub may_halt_now : MayMake floor in_now (λ s. Unit {0}) (Halts in_now.thread ∷ [])
      may_halt_now = may_halt floor in_now
          (subst IsOffTheWay (sym (ap (λ (k : Knowledge). k.pose) counts)) there)
          (ap (λ (k : Knowledge). k.share.doing.unstamped) counts ∙ stamped) halting_now left_now

      module _ (new : Knowledge) (same : new ≡ seeing new.seen in_now)
          (sets : Makes floor (Halts in_now.thread ∷ []) in_now new) where
        all_kept : kept_of new ≡ kept_of v
        all_kept = ap kept_of same ∙ ap kept_of counts ∙ ap kept_of view

        own_thread : in_now.thread ≡ v.thread
        own_thread = ap (λ (k : Knowledge). k.thread) counts ∙ ap (λ (k : Knowledge). k.thread) view

        phase_now : new.share.doing.phase ≡ Halting
        phase_now = ap (λ (k : Knowledge). k.share.doing.phase) same ∙ halting_now

        pub begins : HaltsOn floor at.Finds (at.Comes 0 false) v new
        begins = record {
          at = (
            record {
              aside = subst (IsAside floor) (sym all_kept) h.aside;
              uncounted = ap (λ (k : Knowledge). k.share.doing.counting) same
                  ∙ ap (λ (k : Knowledge). k.share.doing.counting) counts
                  ∙ ap (λ (k : Knowledge). k.share.doing.counting) view ∙ h.uncounted;
              halting = ap is_halting phase_now;
              aborted = (λ e. absurd cc, λ e. absurd (let z : Halting ≡ SelfAborted = sym phase_now ∙ e in cc));
              stood = λ e. absurd cc;
              halted = halt_made_seen floor in_now new sets;
            },
            ap (λ (k : Knowledge). k.out) same ∙ ap (λ (k : Knowledge). k.out) counts
                ∙ ap (λ (k : Knowledge). k.out) view ∙ h.nothing_out,
            ap (λ (k : Knowledge). k.share.doing.marked) same ∙ ap (λ (k : Knowledge). k.share.doing.marked) counts
                ∙ ap (λ (k : Knowledge). k.share.doing.marked) view ∙ h.unmarked,
          );
          kept = all_kept;
          look = inl (ap look_of same ∙ ap look_of counts ∙ ap look_of view);
          leg = halts f (
            in_now,
            subst (λ t. Makes floor (CountsSelfIn t ∷ []) found in_now) (ap (λ (k : Knowledge). k.thread) view) step,
            (new, subst (λ t. Makes floor (Halts t ∷ []) in_now new) own_thread sets, refl),
          );
        }
