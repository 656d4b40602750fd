-- Worked steps and states, held against what is asked of a step of an ordered plan and what follows. There are three
-- locks, whose classes don't ascend; a thread, p, holds the second.
use Rattle.std.proofs.Common.{◌≡◌, ℕ, ◌<◌, true, false, cond, eqb, [], ◌∷◌, refl, arith}
use Rattle.lock_model.specs.Config.{Config}
use Rattle.lock_model.specs.Counts.{any_below}
use Rattle.lock_model.specs.Holds.{NotHeld, Holds}
use Rattle.lock_model.specs.declared.numbers.ChanNo.{ChanNo}
use Rattle.lock_model.specs.declared.plan.Kind.TheVariants.{Mtx}
use Rattle.lock_model.specs.declared.plan.Mode.TheVariants.{Excl}
use Rattle.lock_model.specs.declared.event.Event.{Event}
use Rattle.lock_model.specs.declared.event.Event.TheVariants.{Reversed, Sleeps}
use Rattle.lock_state.specs.State.{State, start_state, put_at}
use Rattle.lock_state.specs.Steps.{Admits, Refuses, Stamps}
use Rattle.ordered_plan_laws.specs.Upward.{HoldsBelow, Checks, admits, refuses, IsOfOrderedPlan, IsUpward, goes_up}

three : Config
three = record {
  threads = 2;
  locks = 3;
  chans = 1;
  kind = λ l. Mtx;
  class = λ l. cond (eqb l 0) 5 (cond (eqb l 1) 3 4);
  chan_lock = λ d. 0;
  declared_base = λ t. 100;
}

holding : State
holding = record (start_state three) { held = put_at (λ t l. NotHeld) 0 1 (Holds Excl) }

-- 1. P may take the third lock, but neither the first nor the second, and it doesn't go to sleep

below_third : HoldsBelow holding 0 2
unfolding holding put_at
below_third k mode e = grind arith

takes_third : IsOfOrderedPlan holding (Admits 0 2)
takes_third = record { upward = up; stays_awake = λ t d e. absurd cc }
  where
    up : (t l : ℕ) → Checks (Admits 0 2) t l → HoldsBelow holding t l
    up _ _ (admits _ _) = below_third

takes_first : IsOfOrderedPlan holding (Admits 0 0) → ⊥
unfolding holding put_at
takes_first x = let less : 1 < 0 = x.upward 0 0 (admits 0 0) 1 Excl refl in omega (arith, less)

takes_second : IsOfOrderedPlan holding (Admits 0 1) → ⊥
unfolding holding put_at
takes_second x = let less : 1 < 1 = x.upward 0 1 (admits 0 1) 1 Excl refl in omega (arith, less)

is_refused_first : IsOfOrderedPlan holding (Refuses 0 0 3) → ⊥
unfolding holding put_at
is_refused_first x = let less : 1 < 0 = x.upward 0 0 (refuses 0 0 3) 1 Excl refl in omega (arith, less)

chan : ChanNo
chan = record { 0 = 0 }

goes_to_sleep : IsOfOrderedPlan holding (Stamps 0 (Sleeps chan)) → ⊥
goes_to_sleep x = x.stays_awake 0 chan refl

-- 2. An edge goes up by the order of locks, whatever their classes' numbers

up_by_declaration : goes_up three 5 3 ≡ true
unfolding any_below three
up_by_declaration = refl

down_by_declaration : goes_up three 4 3 ≡ false
unfolding any_below three
down_by_declaration = refl

not_to_itself : goes_up three 3 3 ≡ false
unfolding any_below three
not_to_itself = refl

-- 3. A state of which a take was refused, or a thread slept, isn't one of an ordered plan

noted : Event → State
noted e = record (start_state three) { history = (record { ticket = 0; thread = record { 0 = 0 }; event = e }) ∷ [] }

was_refused : IsUpward three (noted (Reversed (record { 0 = 0 }) (record { 0 = 3 }))) → ⊥
unfolding noted
was_refused x = let z : true ≡ false = x.unrefused in cc

has_slept : IsUpward three (noted (Sleeps chan)) → ⊥
unfolding noted
has_slept x = let z : true ≡ false = x.unslept in cc
