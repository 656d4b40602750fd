-- An admission and a refusal keep the facts of orders.
use Rattle.order_laws.proofs.Names
use Names.{ℕ, List, [], Option, Some, sym, ap, inl, inr, subst, cases_eq, same_Some, Config, Hold, edges_behind, Grows}
use Names.{old_stays, stays_without_cycle, State, HeldLock, OrderRefused, put, is_woken, MayAdmit, held_classes}
use Names.{after_admit, after_refuse, Lawful, Ordered, HeldAreListed, WantsAreOrdered, HoldsAreOrdered}
use Names.{SleepersAreOrdered, WokenAreOrdered, AbortedWant, HaltsAreOrdered, TakesAreInGraph, LeadTo, TakeIsInGraph}
use Names.{Event, Locked, HaltedLock, Entry, put_same, put_other}
use Rattle.std.proofs.Common.{◌∷◌, ◌∙◌}
use Rattle.order_laws.proofs.OrderFacts.Lists.{listed_held, ordered_grow, held_lead}
use Rattle.order_laws.proofs.OrderFacts.Entries.{noted}

-- more edges
module _ (c : Config) (es fs : List (ℕ × ℕ)) (g : Grows es fs) where
  more_take : (e : Event) (past : List Entry) (t : ℕ) → TakeIsInGraph c es e past t → TakeIsInGraph c fs e past t
  more_take (Locked l mode) past t f = λ k m e. g (c.class k) (c.class l.0) (f k m e)
  more_take (HaltedLock l) past t f = λ k m e. g (c.class k) (c.class l.0) (f k m e)
  more_take other past t f = tt

  more_takes : (history : List Entry) → TakesAreInGraph c es history → TakesAreInGraph c fs history
  unfolding TakesAreInGraph
  more_takes [] f = tt
  more_takes (e ∷ history) f = (more_take e.event history e.thread.0 f.0, more_takes history f.1)

module _ (c : Config) (s : State) (t l : ℕ) (g : MayAdmit c s t l) (f : Lawful c s) (h : Ordered c s) where
  abbrev hs : List HeldLock
  hs = s.held_locks t

  abbrev es : List (ℕ × ℕ)
  es = edges_behind s.edges (held_classes c hs) (c.class l)

  abbrev wanted : ℕ → Option ℕ
  wanted = put s.wanted t (Some l)

  more : Grows s.edges es
  more = old_stays s.edges (held_classes c hs) (c.class l)

  lead_on : (held : ℕ → Hold) (k : ℕ) → LeadTo c s.edges held k → LeadTo c es held k
  lead_on held k p j m e = more (c.class j) (c.class k) (p j m e)

  now_leads : LeadTo c es (s.held t) l
  unfolding HeldAreListed
  now_leads j m e = held_lead c s.edges hs (c.class l) j (f.words.held_are_listed t j ∙ listed_held (s.held t j) m e)

  wants : WantsAreOrdered c wanted s.held es
  unfolding WantsAreOrdered
  wants u k e = elim (cases_eq t u) [
    | inl x ↦
        let z = same_Some l k (sym (put_same s.wanted t (Some l)) ∙ ap wanted x ∙ e) in
        subst (λ v. LeadTo c es (s.held v) k) x (subst (LeadTo c es (s.held t)) z now_leads)
    | inr x ↦ lead_on (s.held u) k (h.wants_are_ordered u k (sym (put_other s.wanted t (Some l) u x) ∙ e))
  ]

  holds : HoldsAreOrdered c s.held_locks es
  unfolding HoldsAreOrdered
  holds u = ordered_grow c s.edges es more (s.held_locks u) (h.holds_are_ordered u)

  sleepers : SleepersAreOrdered c s.blocked_on s.held es
  unfolding SleepersAreOrdered
  sleepers u d e j m i ne = more (c.class j) (c.class (c.chan_lock d)) (h.sleepers_are_ordered u d e j m i ne)

  woken : WokenAreOrdered c s.wait s.held es
  unfolding WokenAreOrdered
  woken u d cause e j m i ne = more (c.class j) (c.class (c.chan_lock d)) (h.woken_are_ordered u d cause e j m i ne)

  aborted : AbortedWant s.wait wanted
  unfolding AbortedWant
  aborted u k e = elim (cases_eq t u) [
    | inl x ↦ absurd (let z = ap is_woken (sym g.free.running ∙ ap s.wait x ∙ e) in cc)
    | inr x ↦ put_other s.wanted t (Some l) u x ∙ h.aborted_want u k e
  ]

  halts : HaltsAreOrdered c s.noted s.held es
  unfolding HaltsAreOrdered
  halts u k e = lead_on (s.held u) k (h.halts_are_ordered u k e)

  pub admits : Ordered c (after_admit c s t l)
  unfolding after_admit
  admits = assumption (
    h,
    stays_without_cycle s.edges (held_classes c hs) (c.class l) g.admitted h.no_cycle,
    wants,
    holds,
    sleepers,
    woken,
    aborted,
    halts,
    more_takes c s.edges es more s.history h.takes_are_in_graph,
  )

pub refuses : (c : Config) (s : State) (t l k : ℕ) → Ordered c s → Ordered c (after_refuse s t l k)
unfolding after_refuse
refuses c s t l k h = assumption (h, noted c s t (Some (OrderRefused l k)) (λ j e. cc) h)
