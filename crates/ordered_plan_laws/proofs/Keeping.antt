-- Each step of a thread of an ordered plan keeps that takes go upward.
use Rattle.std.proofs.Common.{◌≡◌, ℕ, Bool, false, Option, Some, None, refl}
use Rattle.std.proofs.lemmas.Bool.{or_from}
use Rattle.lock_model.specs.Config.{Config}
use Rattle.lock_model.specs.Events.{of_sleep, is_falling}
use Rattle.lock_model.specs.Queues.{Cause}
use Rattle.lock_model.specs.Takes.{is_reversal, has_reversal}
use Rattle.lock_model.specs.declared.plan.QueueName.{QueueName}
use Rattle.lock_model.specs.declared.event.Event.{Event}
use Rattle.lock_model.specs.declared.event.Event.TheVariants.{Sleeps}
use Rattle.lock_state.specs.State.{State, Note, OrderRefused, start_state, put}
use Rattle.lock_state.specs.Facts.{Lawful}
use Rattle.lock_state.specs.Steps.{Step, Stamps, Resumes, Admits, Refuses, May, after}
use Rattle.lock_state.specs.Steps.LockWords.{MayStamp, is_taking_back, after_seek, after_look, after_gain, after_drop, after_stamp, after_ready, after_unready}
use Rattle.lock_state.specs.Steps.Turnstiles.{noted_after, after_enter, after_open, after_mark, after_resume}
use Rattle.lock_state.specs.Steps.SleepQueues.{after_enter_sleep, after_open_sleep, after_add, after_wake, after_abort}
use Rattle.lock_state.specs.Steps.Lending.{after_claim, after_lend, after_shift, after_end_walk}
use Rattle.lock_state.specs.Steps.Items.{after_take, after_give}
use Rattle.lock_state.specs.Steps.Orders.{after_admit, after_refuse}
use Rattle.lock_state.specs.Steps.Counting.{after_count_out, after_count_in, after_count_self_in, after_count_end, after_halt}
use Rattle.lock_laws.proofs.Kit.{at_put}
use Rattle.ordered_plan_laws.specs.Upward.{HaveOwnClasses, IsOfOrderedPlan, admits, refuses, IsUpward, EdgesGoUp, NothingIsRefused, has_sleep}
use Rattle.ordered_plan_laws.proofs.Edges.{admits_up, none_refused}
use Rattle.std.proofs.Common.{arith}

module _ (c : Config) (s : State) (x : IsUpward c s) (t : ℕ) where
  -- a new note that is no refusal
  note_other : (o : Option Note) → ((j i : ℕ) → o ≡ Some (OrderRefused j i) → ⊥)
      → NothingIsRefused (put s.noted t o)
  unfolding NothingIsRefused
  note_other o n =
      at_put (λ u (v : Option Note). (j i : ℕ) → v ≡ Some (OrderRefused j i) → ⊥) s.noted t o n
      (λ u ne. x.nothing_is_refused u)

  resumed : (q : QueueName) (cause : Cause) (back : Bool) (j i : ℕ)
      → noted_after q cause back (s.noted t) ≡ Some (OrderRefused j i) → ⊥
  unfolding NothingIsRefused
  resumed q cause back j i e = grind arith

  no_reversal : (e : Event) → MayStamp c s t e → is_reversal e ≡ false
  unfolding NothingIsRefused
  no_reversal e g = grind arith

  no_sleep : (e : Event) → IsOfOrderedPlan s (Stamps t e) → is_falling (of_sleep e) ≡ false
  no_sleep (Sleeps d) p = absurd (p.stays_awake t d refl)
  no_sleep other p = refl

pub keeps : (c : Config) (s : State) (step : Step) → HaveOwnClasses c → May c s step → IsOfOrderedPlan s step
    → Lawful c s → IsUpward c s → IsUpward c (after c s step)
unfolding after_seek after_look after_gain after_drop after_stamp after_ready after_unready after_enter after_open
    after_mark after_resume after_enter_sleep after_open_sleep after_add after_wake after_claim after_lend after_shift
    after_end_walk after_admit after_refuse after_take after_give after_count_out after_count_in after_count_self_in
    after_count_end after_halt after_abort
keeps c s (Stamps t e) own g p w x = record {
  edges_go_up = x.edges_go_up;
  nothing_is_refused = note_other c s x t None (λ j i e. cc);
  unrefused = or_from (is_reversal e) (has_reversal s.history) (no_reversal c s x t e g) x.unrefused;
  unslept = or_from (is_falling (of_sleep e)) (has_sleep s.history) (no_sleep c s x t e p) x.unslept;
}
keeps c s (Resumes t q cause) own g p w x = record {
  edges_go_up = x.edges_go_up;
  nothing_is_refused = note_other c s x t _ (resumed c s x t q cause (is_taking_back (s.log t)));
  unrefused = x.unrefused;
  unslept = x.unslept;
}
keeps c s (Admits t l) own g p w x = record {
  edges_go_up = admits_up c s w t l (p.upward t l (admits t l)) g x.edges_go_up;
  nothing_is_refused = x.nothing_is_refused;
  unrefused = x.unrefused;
  unslept = x.unslept;
}
keeps c s (Refuses t l k) own g p w x =
    absurd (none_refused c s w t l (p.upward t l (refuses t l k)) own k g x.edges_go_up)
keeps c s other own g p w x = record {
  edges_go_up = x.edges_go_up;
  nothing_is_refused = x.nothing_is_refused;
  unrefused = x.unrefused;
  unslept = x.unslept;
}

pub begins : (c : Config) → IsUpward c (start_state c)
unfolding start_state EdgesGoUp NothingIsRefused
begins c = grind arith
