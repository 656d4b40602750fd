-- A gain and a claim that keep to the order keep the facts of orders.
use Rattle.order_laws.proofs.Names
use Names.{ℕ, Bool, false, List, Option, Some, None, sym, ap, subst, inl, inr, cases_eq, Config, Hold, Holds, Cause}
use Names.{ByAbort, lock_queue, chan_queue, State, Woken, HeldLock, put, put_at, IsActing, is_woken, after_gain}
use Names.{after_claim, GainsInOrder, Lawful, Ordered, HeldAreListed, WantsAreOrdered, HoldsAreOrdered}
use Names.{SleepersAreOrdered, WokenAreOrdered, AbortedWant, HaltsAreOrdered, EachLeads, Mode, Excl, QueueName}
use Names.{put_same, put_other, put_at_other}
use Rattle.std.proofs.Common.{◌≡◌, ◌∷◌, ◌∙◌}
use Rattle.order_laws.proofs.OrderFacts.Lists.{is_held, each_from}

module _ (c : Config) (s : State) (t l : ℕ) (mode : Mode) (by_try : Bool) (a : IsActing s t)
    (k : GainsInOrder s t l by_try) (f : Lawful c s) (h : Ordered c s) where
  abbrev held : ℕ → ℕ → Hold
  held = put_at s.held t l (Holds mode)

  abbrev new : HeldLock
  new = record { lock = l; by_try = by_try }

  abbrev listed : ℕ → List HeldLock
  listed = put s.held_locks t (new ∷ s.held_locks t)

  abbrev wanted : ℕ → Option ℕ
  wanted = put s.wanted t None

  -- what another thread holds
  its : (u j : ℕ) (m : Mode) → (t ≡ u → ⊥) → held u j ≡ Holds m → s.held u j ≡ Holds m
  its u j m x e = sym (put_at_other s.held t l (Holds mode) u j x) ∙ e

  unwoken : (u : ℕ) (q : QueueName) (cause : Cause) → t ≡ u → s.wait u ≡ Woken q cause → ⊥
  unwoken u q cause x e = let z = sym a.unwoken ∙ ap is_woken (ap s.wait x ∙ e) in cc

  wants : WantsAreOrdered c wanted held s.edges
  unfolding WantsAreOrdered
  wants u i e j m g = elim (cases_eq t u) [
    | inl x ↦ absurd (let z : None ≡ Some i = sym (put_same s.wanted t None) ∙ ap wanted x ∙ e in cc)
    | inr x ↦ h.wants_are_ordered u i (sym (put_other s.wanted t None u x) ∙ e) j m (its u j m x g)
  ]

  first : by_try ≡ false → EachLeads c s.edges (s.held_locks t) (c.class l)
  unfolding WantsAreOrdered HeldAreListed
  first e = elim (k.wants e) [
    | inl w ↦ each_from c s.edges (s.held_locks t) (c.class l) (λ j i.
        let m = is_held (s.held t j) (sym (f.words.held_are_listed t j) ∙ i) in
        h.wants_are_ordered t l w j m.0 m.1)
    | inr free ↦ subst (λ hs. EachLeads c s.edges hs (c.class l)) (sym free.bare) tt
  ]

  holds : HoldsAreOrdered c listed s.edges
  unfolding HoldsAreOrdered
  holds u = elim (cases_eq t u) [
    | inl x ↦ rw (← x, put_same s.held_locks t (new ∷ s.held_locks t)) (first, h.holds_are_ordered t)
    | inr x ↦ rw (put_other s.held_locks t (new ∷ s.held_locks t) u x) (h.holds_are_ordered u)
  ]

  sleepers : SleepersAreOrdered c s.blocked_on held s.edges
  unfolding SleepersAreOrdered
  sleepers u d e j m g = elim (cases_eq t u) [
    | inl x ↦ absurd (let z : None ≡ Some (chan_queue d) = sym a.unnamed ∙ ap s.blocked_on x ∙ e in cc)
    | inr x ↦ h.sleepers_are_ordered u d e j m (its u j m x g)
  ]

  woken : WokenAreOrdered c s.wait held s.edges
  unfolding WokenAreOrdered
  woken u d cause e j m g = elim (cases_eq t u) [
    | inl x ↦ absurd (unwoken u (chan_queue d) cause x e)
    | inr x ↦ h.woken_are_ordered u d cause e j m (its u j m x g)
  ]

  aborted : AbortedWant s.wait wanted
  unfolding AbortedWant
  aborted u i e = elim (cases_eq t u) [
    | inl x ↦ absurd (unwoken u (lock_queue i) ByAbort x e)
    | inr x ↦ put_other s.wanted t None u x ∙ h.aborted_want u i e
  ]

  halts : HaltsAreOrdered c s.noted held s.edges
  unfolding HaltsAreOrdered
  halts u i e j m g = elim (cases_eq t u) [
    | inl x ↦ absurd (k.unhalted i (ap s.noted x ∙ e))
    | inr x ↦ h.halts_are_ordered u i e j m (its u j m x g)
  ]

pub gains : (c : Config) (s : State) (t l : ℕ) (mode : Mode) (by_try : Bool) → IsActing s t → GainsInOrder s t l by_try
    → Lawful c s → Ordered c s → Ordered c (after_gain s t l mode by_try)
unfolding after_gain
gains c s t l mode by_try a k f h =
    assumption (
      h,
      wants c s t l mode by_try a k f h,
      holds c s t l mode by_try a k f h,
      sleepers c s t l mode by_try a k f h,
      woken c s t l mode by_try a k f h,
      aborted c s t l mode by_try a k f h,
      halts c s t l mode by_try a k f h,
    )

pub claims : (c : Config) (s : State) (t l x : ℕ) (by_try : Bool) → IsActing s t → GainsInOrder s t l by_try
    → Lawful c s → Ordered c s → Ordered c (after_claim c s t l x by_try)
unfolding after_claim
claims c s t l x by_try a k f h =
    assumption (
      h,
      wants c s t l Excl by_try a k f h,
      holds c s t l Excl by_try a k f h,
      sleepers c s t l Excl by_try a k f h,
      woken c s t l Excl by_try a k f h,
      aborted c s t l Excl by_try a k f h,
      halts c s t l Excl by_try a k f h,
    )
