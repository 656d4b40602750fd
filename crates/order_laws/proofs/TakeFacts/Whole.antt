-- Where no take is in progress, the history has the part of the law that speaks of lock orders.
use Rattle.order_laws.proofs.Names
use Names.{ℕ, List, [], Some, None, sym, inl, inr, subst, or_cases, Config, is_edge, IsEdge, HasNoCycle, edges_behind}
use Names.{classes_open, edges_by, take_edges, taken_by, OrdersAreLegal, Grows, new_or_old, paths_grow, State, Ordered}
use Names.{Taken, TakesAreInGraph, EdgesAreOfTakes, LeadTo, TakeIsInGraph, in_progress, open_in, Event, Locked}
use Names.{HaltedLock, Entry}
use Rattle.std.proofs.Common.{◌≡◌, ◌∷◌, ◌∙◌}
use Rattle.order_laws.proofs.TakeFacts.Admit.{reversals_on}
use Rattle.order_laws.proofs.TakeFacts.Tests.{says_progress, among_open}

-- 1. The edges of noted takes are in the graph

module _ (c : Config) (edges : List (ℕ × ℕ)) where
  by_take : (es : List Entry) (t l : ℕ) (old : List (ℕ × ℕ)) → Grows old edges → LeadTo c edges (open_in c es t) l
      → Grows (edges_behind old (classes_open c es t c.locks) (c.class l)) edges
  by_take es t l old g f a b i = elim (new_or_old old (classes_open c es t c.locks) (c.class l) a b i) [
    | inl x ↦
        let r = among_open c es t c.locks a x.0 in
        subst (λ v. IsEdge edges v b) r.2 (subst (λ v. IsEdge edges (c.class r.0) v) x.1 (f r.0 r.1.0 r.1.1))
    | inr x ↦ g a b x
  ]

  by_event : (e : Event) (es : List Entry) (t : ℕ) (old : List (ℕ × ℕ)) → Grows old edges → TakeIsInGraph c edges e es t
      → Grows (edges_by c (taken_by e) es t old) edges
  by_event (Locked l mode) es t old g f = by_take es t l.0 old g f
  by_event (HaltedLock l) es t old g f = by_take es t l.0 old g f
  by_event other es t old g f = g

  in_graph : (es : List Entry) → TakesAreInGraph c edges es → Grows (take_edges c es) edges
  unfolding take_edges TakesAreInGraph
  in_graph [] f = λ a b i. absurd cc
  in_graph (e ∷ es) f = by_event e.event es e.thread.0 (take_edges c es) (in_graph es f.1) f.0

-- 2. And no others, where nobody takes a lock

module _ (c : Config) (s : State) (f : Ordered c s) (h : Taken c s) (still : (t : ℕ) → s.taking t ≡ None) where
  all_noted : Grows s.edges (take_edges c s.history)
  unfolding EdgesAreOfTakes
  all_noted a b i = elim (or_cases (is_edge (take_edges c s.history) a b) (in_progress c s.taking s.log s.held a b)
      (h.edges_are_of_takes a b i)) [
        | inl x ↦ x
        | inr x ↦
            let p = says_progress c s.taking s.log s.held a b x in
            absurd (let z : None ≡ Some p.lock = sym (still p.thread) ∙ p.takes in cc)
      ]

  pub legal : OrdersAreLegal c s.history
  unfolding HasNoCycle
  legal = record {
    no_cycle = λ a r. f.no_cycle a
        (paths_grow (take_edges c s.history) s.edges (in_graph c s.edges s.history f.takes_are_in_graph) r);
    reversals_have_cause = reversals_on c s.edges (take_edges c s.history) all_noted s.history h.reversals_have_cause;
  }
