-- Steps of threads of a floor keep what holds of its states.
use Rattle.std.proofs.Common.{List, [], ◌∷◌, refl}
use Rattle.lock_model.specs.Config.{Config}
use Rattle.lock_state.specs.State.{State, start_state}
use Rattle.lock_state.specs.Steps.{Step, IsFloorStep, after, after_all}
use Rattle.lock_laws.proofs.FloorSteps as facts
use Rattle.lock_laws.proofs.Rounds as rounds
use Rattle.lock_laws.proofs.Signals as signals
use Rattle.order_laws.proofs.OrderFacts as order_facts
use Rattle.order_laws.proofs.OrderFacts.Steps as orders
use Rattle.order_laws.proofs.TakeFacts as take_facts
use Rattle.order_laws.proofs.TakeFacts.Steps as takes
use Rattle.count_laws.proofs.Started as first_counts
use Rattle.count_laws.proofs.Keeping as counts
use Rattle.count_laws.proofs.Explaining as causes
use Rattle.busy_laws.proofs.Keeping as busy
use Rattle.sleep_laws.proofs.SleepFacts as sleep_facts
use Rattle.sleep_laws.proofs.SleepFacts.Floor as sleepers
use Rattle.floor_table.specs.Descriptions.{config_in}
use Rattle.floor_table.specs.declared.description.Description.{Description}
use Rattle.floor_table.specs.Past.{none, more, IsAllowed, past_with}
use Rattle.floor_table.specs.Steps.{IsSound, FitAll}

pub sound_begins : (floor : Description) → IsSound floor [] (start_state (config_in floor))
sound_begins floor =
    let c : Config = config_in floor in
    record {
      reached = none;
      facts = facts.begins c;
      rounds = rounds.begins floor.chains c;
      sleepers = sleep_facts.begins _ c;
      turnstiles = signals.begins c;
      ordered = order_facts.begins c;
      taken = take_facts.begins c;
      counted = first_counts.counted c;
      explained = causes.begins c;
      busy_words = busy.begins c;
    }

one_keeps : (floor : Description) {past : List Step} (s : State) (step : Step) → IsAllowed floor s step
    → IsSound floor past s → IsSound floor (step ∷ past) (after (config_in floor) s step)
one_keeps floor s step may h =
    let c : Config = config_in floor in
    let made : IsFloorStep floor.chains c s (after c s step) = (step, may.fits, refl) in
    record {
      reached = more step h.reached may;
      facts = facts.floor_keeps floor.chains c s (after c s step) made h.facts;
      rounds = rounds.rounds_keep floor.chains c s (after c s step) made h.facts.lawful h.rounds;
      sleepers = sleepers.keeps floor.chains c s (after c s step) made h.facts.lawful h.sleepers;
      turnstiles = signals.keeps floor.chains c s (after c s step) made h.turnstiles;
      ordered = orders.keeps c s step may.fits.may may.keeps_order h.facts.lawful h.ordered;
      taken = takes.keeps c s step may.fits.may may.keeps_order h.facts.lawful h.taken;
      counted = counts.keeps floor.chains c s step may.fits may.keeps_count h.facts h.counted;
      explained = causes.keeps c s h.facts h.counted h.ordered h.sleepers h.explained floor.chains step may.fits
          may.keeps_order;
      busy_words = busy.keeps c s h.facts.lawful h.busy_words step may.fits.may;
    }

pub sound_kept : (floor : Description) {past : List Step} (s : State) (steps : List Step) → FitAll floor s steps
    → IsSound floor past s → IsSound floor (past_with past steps) (after_all (config_in floor) s steps)
sound_kept floor s [] may h = h
sound_kept floor s (step ∷ steps) may h =
    let c : Config = config_in floor in
    sound_kept floor (after c s step) steps may.1 (one_keeps floor s step may.0 h)
