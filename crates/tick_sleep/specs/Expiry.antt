-- Which sleeps time out, and in which order.
use Rattle.std.specs.Prelude.{◌≡◌, ◌≤◌, ℕ, ◌&&◌, List, [], ◌∷◌, ⊤}
use Rattle.std.specs.List.{list_any}
use Rattle.tick_sleep.specs.Ticks.{due_of, expired, is_due, is_of, sleeps}
use Rattle.tick_sleep.specs.declared.plan.TickSleeper.{TickSleeper}

-- due ticks ascend from the front
abbrev pub Ascends : List TickSleeper → Type 0
Ascends [] = ⊤
Ascends (s ∷ []) = ⊤
Ascends (s ∷ r ∷ rs) = (due_of s ≤ due_of r) × Ascends (r ∷ rs)

-- where a tick is reached, a thread's sleep times out exactly where the thread sleeps still and its due tick is reached
abbrev pub TimesOutWhereDue : Type 0
TimesOutWhereDue = (t tick : ℕ) (ss : List TickSleeper)
    → sleeps t (expired tick ss) ≡ list_any (λ s. is_of t s && is_due tick s) ss
