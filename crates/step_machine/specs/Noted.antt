-- What an entry changes of its thread.
use Rattle.std.specs.Prelude.{◌≡◌, ℕ, ◌||◌, List, Some, option_map, slice_get, slice_set}
use Rattle.lock_model.specs.Events.{of_sleep, fell_asleep, new_base}
use Rattle.lock_model.specs.Takes.{is_reversal}
use Rattle.lock_model.specs.declared.event.Event.{Event}
use Rattle.thread_records.specs.Records.{with_given_base}
use Rattle.step_machine.specs.declared.thread.Thread.{Thread}

-- One thread changes: its record is the one behind the event, it waits exactly where the event is that it goes to
-- sleep, and it was cut where it was before or the event is the refusal of a take.
pub record IsNoted (event : Event) (t : ℕ) (old new : List Thread) : Type 0 where
  pub before : Thread
  pub behind : Thread
  pub was : slice_get old t ≡ Some before
  pub is : new ≡ slice_set old t behind
  pub its_record : behind.record.value ≡ with_given_base (new_base event) before.record.value
  pub waits_on : option_map (λ d. d.0) behind.waits_on ≡ fell_asleep (of_sleep event)
  pub its_cut : behind.cut ≡ (is_reversal event || before.cut)
  pub others : behind ≡ record before {
    «record» = behind.record;
    waits_on = behind.waits_on;
    cut = behind.cut;
  }
