-- A legal history of an ordered plan's threads: the edges of its takes lead from the class of each lock to those of
-- locks declared behind it. So no take is refused.
use Rattle.std.proofs.Common.{◌≡◌, ℕ, ◌<◌, true, false, not, ◌&&◌, eqb, List, [], ◌∷◌, Option, Some, None, refl, sym, inl, inr, subst}
use Rattle.std.proofs.lemmas.Bool.{or_from, and_parts, eqb-true}
use Rattle.lock_model.specs.Config.{Config}
use Rattle.lock_model.specs.Events.{facets}
use Rattle.lock_model.specs.History.{open_in, entries_of}
use Rattle.lock_model.specs.Holds.{Holds, is_unheld}
use Rattle.lock_model.specs.Law.{Point, EntriesFollowOperations}
use Rattle.lock_model.specs.Legal.{IsLegal}
use Rattle.lock_model.specs.Operations.{IsProper}
use Rattle.lock_model.specs.OrderedPlans.{IsOrdered}
use Rattle.lock_model.specs.Orders.{IsEdge, Forbids}
use Rattle.lock_model.proofs.Orders.{new_or_old, forbids_says}
use Rattle.lock_model.specs.Plans.{config_of, operations_of}
use Rattle.lock_model.specs.Takes.{taken_by, classes_open, edges_by, take_edges, is_reversal, has_reversal, ReversalHasCause, ReversalsHaveCause}
use Rattle.lock_model.specs.declared.plan.Mode.{Mode}
use Rattle.lock_model.specs.declared.plan.Op.{Op}
use Rattle.lock_model.specs.declared.plan.Plan.{Plan}
use Rattle.lock_model.specs.declared.event.Event.{Event}
use Rattle.lock_model.specs.declared.event.Event.TheVariants.{Reversed}
use Rattle.lock_model.specs.declared.event.Entry.{Entry}
use Rattle.lock_laws.proofs.Best.{any_below-true}
use Rattle.order_laws.proofs.OrderFacts.Lists.{is_held}
use Rattle.order_laws.proofs.TakeFacts.Tests.{among_open}
use Rattle.ordered_plan_laws.specs.Upward.{EdgesGoUp, goes_up}
use Rattle.ordered_plan_laws.proofs.Edges.{up_says, not_forbidden}
use Rattle.ordered_plan_laws.proofs.Following.{TakesAt, IsBeforeTake, lock_taken, Came, AllLead, own_came, all_led, lower_open, its_lock}
use Rattle.std.proofs.Common.{arith}

-- a take that came to its end is one
ended_take : (ops : List Op) (point : Point) (e : Event) → TakesAt ops point (lock_taken (facets e).take)
    → TakesAt ops point (taken_by e)
ended_take ops point e x = grind arith

module _ (plan : Plan) (p : IsProper plan) (o : IsOrdered plan) where
  abbrev c : Config
  c = config_of plan

  -- 1. Edges

  pub takes_go_up : (es : List Entry) → AllLead plan es → EdgesGoUp c (take_edges c es)
  unfolding EdgesGoUp take_edges
  takes_go_up [] h a b i = absurd cc
  takes_go_up (e ∷ es) h a b i =
      by_taken (taken_by e.event) (ended_take (operations_of plan e.thread.0) x.point e.event x.takes)
      (takes_go_up es (all_led plan e es h)) i
    where
      x : Came c.kind (operations_of plan e.thread.0) e (entries_of es e.thread.0)
      x = own_came plan e es h

      by_taken : (y : Option ℕ) → TakesAt (operations_of plan e.thread.0) x.point y
          → ((a b : ℕ) → IsEdge (take_edges c es) a b → goes_up c a b ≡ true)
          → IsEdge (edges_by c y es e.thread.0 (take_edges c es)) a b → goes_up c a b ≡ true
      by_taken None at before i = before a b i
      by_taken (Some l) at before i =
          elim (new_or_old (take_edges c es) (classes_open c es e.thread.0 c.locks) (c.class l) a b i) [
            | inl z ↦
                let r = among_open c es e.thread.0 c.locks a z.0 in
                let less = lower_open plan p o e.thread.0 es x.point l x.leads at r.0 r.1.0 r.1.1 in
                subst (λ d. goes_up c a d ≡ true) z.1
                (subst (λ d. goes_up c d (c.class l) ≡ true) r.2
                (up_says c r.0 l less (its_lock plan p o e.thread.0 x.point l at)))
            | inr z ↦ before a b z
          ]

  -- 2. Refusals

  module _ (edges : List (ℕ × ℕ)) (up : EdgesGoUp c edges) where
    first_unrefused : (e : Event) (es : List Entry) (t : ℕ) (point : Point)
        → TakesAt (operations_of plan t) point (lock_taken (facets e).take)
        → ((l : ℕ) → IsBeforeTake (operations_of plan t) point l → (k : ℕ) (mode : Mode)
        → open_in c es t k ≡ Holds mode → k < l)
        → ReversalHasCause c edges e es t → is_reversal e ≡ false
    unfolding EdgesGoUp
    first_unrefused (Reversed l k) es t point at lower cause =
        let r = any_below-true c.locks (λ j. eqb (c.class j) k.0 && not (is_unheld (open_in c es t j))) cause.0 in
        let q = and_parts (eqb (c.class r.0) k.0) (not (is_unheld (open_in c es t r.0))) r.2 in
        let m = is_held (open_in c es t r.0) q.1 in
        let forbidden : Forbids edges (c.class r.0) (c.class l.0) =
        subst (λ d. Forbids edges d (c.class l.0)) (sym (eqb-true (c.class r.0) k.0 q.0))
        (forbids_says edges (c.class l.0) k.0 cause.1) in
        absurd (not_forbidden c o.own_classes edges up r.0 l.0 (lower l.0 at r.0 m.0 m.1)
        (its_lock plan p o t point l.0 at) forbidden)
    first_unrefused other es t point at lower cause = refl

    none_refused : (es : List Entry) → AllLead plan es → ReversalsHaveCause c edges es → has_reversal es ≡ false
    unfolding ReversalsHaveCause
    none_refused [] h r = refl
    none_refused (e ∷ es) h r =
        let x = own_came plan e es h in
        or_from (is_reversal e.event) (has_reversal es)
        (first_unrefused e.event es e.thread.0 x.point x.takes
        (λ l at. lower_open plan p o e.thread.0 es x.point l x.leads at) r.0)
        (none_refused es (all_led plan e es h) r.1)

  pub all_lead : (history : List Entry) → IsLegal plan true false history → AllLead plan history
  unfolding EntriesFollowOperations
  all_lead history legal t =
      let f = legal.entries_follow_operations t in
      record { point = f.point; leads = f.leads }

  pub unrefused : (history : List Entry) → IsLegal plan true false history → has_reversal history ≡ false
  unrefused history legal =
      let orders = legal.orders_are_legal refl in
      none_refused (take_edges c history) (takes_go_up history (all_lead history legal)) history
      (all_lead history legal) orders.reversals_have_cause
