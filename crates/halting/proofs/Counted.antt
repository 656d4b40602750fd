-- A thread counts itself out: where that left somebody awake it is parked, and else it is the last, which halts others.
-- Calls above that go on with a halting part by part cite these lemmas, and `HaltsSince` of `Whole`.
use Rattle.std.proofs.Common.{◌≡◌, ℕ, cond, [], ◌∷◌, sym, ap, ◌∙◌, subst, inl}
use Rattle.std.proofs.lemmas.Bool.{ne_eqb}
use Rattle.lock_state.specs.State.{Awake, Asleep, Last, SelfAborted, is_parked}
use Rattle.lock_state.specs.Steps.{CountsOut}
use Rattle.lock_state.specs.Steps.Counting.{phase_out}
use Rattle.floor_table.specs.Descriptions.{config_in}
use Rattle.floor_table.specs.Steps.{MayMake, Makes}
use Rattle.floor_table.specs.Views.{Knowledge, seeing}
use Rattle.floor_table.specs.declared.description.Description.{Description}
use Rattle.lock_floor.specs.declared.counts.Count.TheVariants.{Out}
use Rattle.lock_floor.specs.Counts.{counted}
use Rattle.lock_floor.proofs.MayHalt.{may_count_out_again}
use Rattle.halting.specs.Halts.{CountsItselfOut, HaltsOthers, HasHalted, IsAside, IsLast, MayCountOut, kept_of, nobody_is_awake, somebody_is_awake}
use Rattle.halting.proofs.Coming.{stands_or_ended}
use Rattle.halting.proofs.Finding.{look_of}
use Rattle.halting.proofs.Whole.{halted_since}

pub may_count : (floor : Description) (v : Knowledge) → MayCountOut floor v
    → MayMake floor v (λ s. Unit {0}) (CountsOut v.thread ∷ [])
may_count floor v h =
    may_count_out_again floor v (stands_or_ended (config_in floor) v h.aside.is_out) h.nothing_out h.aside.no_walk
    h.unmarked h.aside.stamped (ap is_parked h.awake) (λ e. let z : Awake ≡ SelfAborted = sym h.awake ∙ e in cc)

module _ (floor : Description) (found : ℕ) (v new : Knowledge) (h : MayCountOut floor v)
    (view : new ≡ seeing new.seen (counted Out found v)) where
  phase_now : new.share.doing.phase ≡ phase_out found
  phase_now = ap (λ (k : Knowledge). k.share.doing.phase) view

  -- nobody else was awake

  pub is_last_of : found ≡ 1 → IsLast floor new × ((kept_of new ≡ kept_of v) × (new.share.doing.phase ≡ Last))
  is_last_of one =
      let last : new.share.doing.phase ≡ Last = phase_now ∙ ap phase_out one in (
        record {
          aside = subst (IsAside floor) (sym (ap kept_of view)) h.aside;
          uncounted = ap (λ (k : Knowledge). k.share.doing.counting) view ∙ h.uncounted;
          nothing_out = ap (λ (k : Knowledge). k.out) view ∙ h.nothing_out;
          unmarked = ap (λ (k : Knowledge). k.share.doing.marked) view ∙ h.unmarked;
          last = last;
        },
        (ap kept_of view, last),
      )

  -- and it halted others then
  pub counts_last : (one : found ≡ 1) → Makes floor (CountsOut v.thread ∷ []) v new → (end : Knowledge)
      → HasHalted floor new end → HaltsOthers floor new end → HasHalted floor v end × CountsItselfOut floor v end
  counts_last one step end halted whole = (
    halted_since floor v new end (ap kept_of view) (inl (ap look_of view)) halted,
    nobody_is_awake step (is_last_of one).1.1 whole,
  )

  -- somebody is awake

  pub is_counted_out : (found ≡ 1 → ⊥) → HasHalted floor v new × (new.share.doing.phase ≡ Asleep)
  is_counted_out more =
      let asleep : new.share.doing.phase ≡ Asleep =
      phase_now ∙ ap (λ b. cond b Last Asleep) (ne_eqb found 1 more) in (
        record {
          kept = ap kept_of view;
          look = inl (ap look_of view);
          uncounted = ap (λ (k : Knowledge). k.share.doing.counting) view ∙ h.uncounted;
          nothing_out = ap (λ (k : Knowledge). k.out) view ∙ h.nothing_out;
          unmarked = ap (λ (k : Knowledge). k.share.doing.marked) view ∙ h.unmarked;
          at_resume = inl (ap is_parked asleep);
          stood = λ e. absurd (let z : Asleep ≡ SelfAborted = sym asleep ∙ e in cc);
        },
        asleep,
      )

  pub counts_others : (found ≡ 1 → ⊥) → Makes floor (CountsOut v.thread ∷ []) v new → CountsItselfOut floor v new
  counts_others more step = somebody_is_awake step (is_counted_out more).1
