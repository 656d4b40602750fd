-- The graph behind an admitted acquisition, as it says the edges that a state has.
use Rattle.std.proofs.Common.{◌≡◌, ℕ, ◌<◌, List, sym, ◌∙◌, subst}
use Rattle.lock_model.specs.Config.{Config}
use Rattle.lock_model.specs.Orders.{HaveSameEdges, edges_behind}
use Rattle.lock_model.proofs.Orders.{same_behind}
use Rattle.witness_orders.specs.Graph.{Graph, RepresentsGraph}

-- where it has an edge more from each held class to the wanted one, it says that the state has them too
pub graph_behind : (c : Config) (graph behind : Graph) (column : List (ℕ × ℕ)) → RepresentsGraph c graph column
    → (held : List ℕ) (wanted : ℕ) → behind.classes ≡ graph.classes
    → HaveSameEdges behind.edges (edges_behind graph.edges held wanted)
    → RepresentsGraph c behind (edges_behind column held wanted)
graph_behind c graph behind column h held wanted classes edges = record {
  classes = λ l lt. subst (λ n. c.class l < n) (sym classes) (h.classes l lt);
  edges = λ a b. edges a b ∙ same_behind graph.edges column h.edges held wanted a b;
}
