-- Once a thread set the halt word, it stays set.
use Rattle.std.proofs.Common.{◌≡◌, ℕ, true, List, [], ◌∷◌, ◌++◌, refl, sym, ap, subst}
use Rattle.lock_model.specs.Config.{Config}
use Rattle.lock_state.specs.State.{State}
use Rattle.lock_state.specs.Steps.{Step, Halts, after}
use Rattle.lock_state.specs.Steps.LockWords.{after_seek, after_look, after_gain, after_drop, after_stamp, after_ready, after_unready}
use Rattle.lock_state.specs.Steps.Turnstiles.{after_enter, after_open, after_mark, after_resume}
use Rattle.lock_state.specs.Steps.SleepQueues.{after_enter_sleep, after_open_sleep, after_add, after_wake, after_abort}
use Rattle.lock_state.specs.Steps.Lending.{after_claim, after_lend, after_shift, after_end_walk}
use Rattle.lock_state.specs.Steps.Orders.{after_admit, after_refuse}
use Rattle.lock_state.specs.Steps.Counting.{after_count_out, after_count_in, after_count_self_in, after_count_end, after_halt}
use Rattle.lock_state.specs.Steps.Items.{after_take, after_give}
use Rattle.floor_table.specs.Descriptions.{config_in}
use Rattle.floor_table.specs.declared.description.Description.{Description}
use Rattle.floor_table.specs.Past.{LeadsTo, none, more}

-- each step keeps it
stays_halted : (c : Config) (s : State) (step : Step) → s.halted ≡ true → (after c s step).halted ≡ true
unfolding after_seek after_look after_gain after_drop after_stamp after_ready after_unready after_enter after_open
    after_mark after_resume after_enter_sleep after_open_sleep after_add after_wake after_claim after_lend after_shift
    after_end_walk after_admit after_refuse after_count_out after_count_in after_count_self_in after_count_end
    after_halt after_abort after_take after_give
stays_halted c s (Halts t) e = refl
stays_halted c s other e = e

abbrev first_or : {A : Type 0} → A → List A → A
first_or d [] = d
first_or d (x ∷ xs) = x

abbrev behind_first : {A : Type 0} → List A → List A
behind_first [] = []
behind_first (x ∷ xs) = xs

-- where one of the steps that led to a state set it
pub halted_by : (floor : Description) {past : List Step} {s : State} → LeadsTo floor past s
    → (later earlier : List Step)
    (t : ℕ) → past ≡ later ++ Halts t ∷ earlier → s.halted ≡ true
unfolding after_halt
halted_by floor none [] earlier t e = absurd cc
halted_by floor none (x ∷ later) earlier t e = absurd cc
halted_by floor (more {s = s} step led allowed) [] earlier t e =
    subst (λ x. (after (config_in floor) s x).halted ≡ true) (sym (ap (first_or step) e)) refl
halted_by floor (more {s = s} step led allowed) (x ∷ later) earlier t e =
    stays_halted (config_in floor) s step (halted_by floor led later earlier t (ap behind_first e))
