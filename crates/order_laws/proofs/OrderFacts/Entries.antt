-- An entry keeps the facts of orders: that of a take is in the graph.
use Rattle.order_laws.proofs.Names
use Names.{ℕ, true, false, Option, Some, None, refl, sym, ap, inl, inr, subst, cases_eq, ne_eqb, Config, NotHeld, Holds}
use Names.{open_in, lock_queue, State, Note, SleepHalted, put, MayStamp, IsGainedLast, entry_of, after_stamp, Lawful}
use Names.{Ordered, HeldAreListed, SectionsAreHeld, HoldsAreOrdered, HaltsAreOrdered, TakesAreInGraph, is_listed}
use Names.{LeadTo, AreOrdered, TakeIsInGraph, Mode, Event, Locked, HaltedLock, put_same, put_other}
use Rattle.std.proofs.Common.{◌≡◌, ◌∷◌, ◌∙◌}
use Rattle.order_laws.proofs.OrderFacts.Lists.{listed_held, each_at}

module _ (c : Config) (s : State) (t : ℕ) (f : Lawful c s) (h : Ordered c s) where
  -- the open sections are of held locks
  open_held : (k : ℕ) (m : Mode) → open_in c s.history t k ≡ Holds m → s.held t k ≡ Holds m
  unfolding SectionsAreHeld
  open_held k m e = f.books.sections_are_held t k m e

  last_leads : (l : ℕ) → IsGainedLast s t l false → open_in c s.history t l ≡ NotHeld
      → LeadTo c s.edges (open_in c s.history t) l
  unfolding HoldsAreOrdered HeldAreListed
  last_leads l g closed k m e =
      let o : AreOrdered c s.edges (record { lock = l; by_try = false } ∷ g.others) = subst
      (AreOrdered c s.edges) g.last (h.holds_are_ordered t) in
      let i : is_listed k (record { lock = l; by_try = false } ∷ g.others) ≡ true = ap (is_listed k) (sym g.last)
      ∙ f.words.held_are_listed t k ∙ listed_held (s.held t k) m (open_held k m e) in
      let ne : k ≡ l → ⊥ = λ y. let z : NotHeld ≡ Holds m = sym closed ∙ ap (open_in c s.history t) (sym y) ∙ e in cc in
      each_at c s.edges g.others (c.class l) k (o.0 refl) (let z = rw (ne_eqb k l ne) at i in z)

  take_is : (e : Event) → MayStamp c s t e → TakeIsInGraph c s.edges e s.history t
  unfolding HaltsAreOrdered
  take_is (Locked l mode) g = last_leads l.0 g.asks.1 g.asks.0.closed
  take_is (HaltedLock l) g = λ k m e. h.halts_are_ordered t l.0 g.asks.0 k m (open_held k m e)
  take_is other g = tt

-- a note that is no halt of a take
pub noted : (c : Config) (s : State) (t : ℕ) (o : Option Note) → ((k : ℕ) → o ≡ Some (SleepHalted (lock_queue k)) → ⊥)
    → Ordered c s
    → HaltsAreOrdered c (put s.noted t o) s.held s.edges
unfolding HaltsAreOrdered
noted c s t o n h u k e = elim (cases_eq t u) [
  | inl x ↦ absurd (n k (sym (put_same s.noted t o) ∙ ap (put s.noted t o) x ∙ e))
  | inr x ↦ h.halts_are_ordered u k (sym (put_other s.noted t o u x) ∙ e)
]

pub stamps : (c : Config) (s : State) (t : ℕ) (e : Event) → MayStamp c s t e → Lawful c s → Ordered c s
    → Ordered c (after_stamp c s t e)
unfolding after_stamp TakesAreInGraph
stamps c s t e g f h =
    let x : TakesAreInGraph c s.edges (entry_of s t e ∷ s.history) = (take_is c s t f h e g, h.takes_are_in_graph) in
    assumption (h, noted c s t None (λ k i. cc) h, x)
