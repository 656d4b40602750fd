-- A release keeps the facts of orders.
use Rattle.order_laws.proofs.Names
use Names.{ℕ, List, sym, inl, inr, cases_eq, Config, Hold, NotHeld, Holds, State, HeldLock, put, put_at, without_held}
use Names.{after_drop, after_open, after_open_sleep, Ordered, WantsAreOrdered, HoldsAreOrdered, SleepersAreOrdered}
use Names.{WokenAreOrdered, HaltsAreOrdered, Mode, put_same, put_other, put_at_same, put_at_other, put_at_beside}
use Rattle.std.proofs.Common.{◌≡◌, ◌∙◌}
use Rattle.order_laws.proofs.OrderFacts.Lists.{ordered_without}

module _ (c : Config) (s : State) (t l : ℕ) (h : Ordered c s) where
  abbrev left : ℕ → ℕ → Hold
  left = put_at s.held t l NotHeld

  abbrev others : ℕ → List HeldLock
  others = put s.held_locks t (without_held l (s.held_locks t))

  was_held : (u k : ℕ) (m : Mode) → left u k ≡ Holds m → s.held u k ≡ Holds m
  was_held u k m e = elim (cases_eq t u) [
    | inl x ↦ elim (cases_eq l k) [
      | inl y ↦
          absurd (let z : NotHeld ≡ Holds m = sym (put_at_same s.held t l NotHeld) ∙ (λ i. left (x i) (y i)) ∙ e in cc)
      | inr y ↦ sym (put_at_beside s.held t l NotHeld u k y) ∙ e
    ]
    | inr x ↦ sym (put_at_other s.held t l NotHeld u k x) ∙ e
  ]

  wants : WantsAreOrdered c s.wanted left s.edges
  unfolding WantsAreOrdered
  wants u k e j m f = h.wants_are_ordered u k e j m (was_held u j m f)

  holds : HoldsAreOrdered c others s.edges
  unfolding HoldsAreOrdered
  holds u = elim (cases_eq t u) [
    | inl x ↦ rw (← x, put_same s.held_locks t (without_held l (s.held_locks t)))
        (ordered_without c s.edges l (s.held_locks t) (h.holds_are_ordered t))
    | inr x ↦ rw (put_other s.held_locks t (without_held l (s.held_locks t)) u x) (h.holds_are_ordered u)
  ]

  sleepers : SleepersAreOrdered c s.blocked_on left s.edges
  unfolding SleepersAreOrdered
  sleepers u d e j m f = h.sleepers_are_ordered u d e j m (was_held u j m f)

  woken : WokenAreOrdered c s.wait left s.edges
  unfolding WokenAreOrdered
  woken u d cause e j m f = h.woken_are_ordered u d cause e j m (was_held u j m f)

  halts : HaltsAreOrdered c s.noted left s.edges
  unfolding HaltsAreOrdered
  halts u k e j m f = h.halts_are_ordered u k e j m (was_held u j m f)

  pub drops : Ordered c (after_drop s t l)
  unfolding after_drop
  drops = assumption (h, wants, holds, sleepers, woken, halts)

  pub opens : Ordered c (after_open c s t l)
  unfolding after_open
  opens = assumption (h, wants, holds, sleepers, woken, halts)

  pub opens_sleep_queue : Ordered c (after_open_sleep c s t l)
  unfolding after_open_sleep
  opens_sleep_queue = assumption (h, wants, holds, sleepers, woken, halts)
