use Rattle.std.proofs.Common.{◌≡◌, ℕ, ◌<◌, length, take, drop, ◌++◌, List, sym, ap, ◌∙◌, subst}
use Rattle.std.proofs.Math.Seq.{take-append_seam}
use Rattle.std.specs.List.{All}
use Rattle.lock_model.specs.Orders.{IsAdmitted, HaveSameEdges, edges_behind}
use Rattle.witness_orders.specs.Graph.{Graph, numbers_of, edges_in}
use Rattle.witness_orders.proofs.orders.Orders.admit.Goals as goal

-- rows that are lent whole are what was written to them
written : (n : ℕ) (new old : List ℕ) → length new ≡ n → take n (new ++ drop (length new) old) ≡ new
written n new old e =
    subst (λ k. take k (new ++ drop (length new) old) ≡ new) e (take-append_seam new (drop (length new) old))

pub learn-requires : goal.learn-requires
learn-requires c =
    let count = ap (λ (k : Graph). k.classes) c.self.view_is in
    let says = ap (λ (k : Graph). k.edges) c.self.view_is in
    let hs = numbers_of c.args.held.now in
    rw (c.deref_mut.ensures.value, c.deref_mut-2.ensures.value)
    (record {
      held = subst (λ n. All (λ h. h.0 < n) c.args.held.now) (sym count) c.requires.held;
      wanted = subst (λ n. c.args.wanted.0 < n) (sym count) c.requires.wanted;
      admitted = subst (λ es. IsAdmitted es hs c.args.wanted.0) (sym says) c.requires.admitted;
      closed = c.self.invariant;
    })

pub invariant_of-self : goal.invariant_of-self
invariant_of-self c =
    let edges = written c.self.inside.edges.len c.learn.new.edges c.self.inside.edges.items
    (c.learn.auto.edges ∙ c.deref_mut.ensures.len) in
    let reached = written c.self.inside.reached.len c.learn.new.reached c.self.inside.reached.items
    (c.learn.auto.reached ∙ c.deref_mut-2.ensures.len) in
    rw (edges, reached) c.learn.ensures.closed

pub returns : goal.returns
returns c =
    let count = ap (λ (k : Graph). k.classes) c.self.view_is in
    let says = ap edges_in c.deref_mut.ensures.value ∙ ap (λ (k : Graph). k.edges) c.self.view_is in
    let edges = written c.self.inside.edges.len c.learn.new.edges c.self.inside.edges.items
    (c.learn.auto.edges ∙ c.deref_mut.ensures.len) in
    let hs = numbers_of c.args.held.now in
    let w = c.args.wanted.0 in
    rw edges
    (record {
      classes = c.learn.auto.edges ∙ ap length c.deref_mut.ensures.value ∙ count;
      edges = subst (λ es. HaveSameEdges (edges_in c.learn.new.edges) (edges_behind es hs w)) says
          c.learn.ensures.edges;
      no_cycle = c.learn.ensures.closed.no_cycle;
    })
