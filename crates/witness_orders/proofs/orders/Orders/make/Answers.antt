use Rattle.std.proofs.Common.{◌≡◌, ℕ, List, length, zero, ap, ◌∙◌}
use Rattle.std.proofs.lemmas.List.{length-replicate}
use Rattle.witness_orders.specs.Graph.{Graph, edges_in}
use Rattle.witness_orders.proofs.Rows.{no_edge, no_bits, zeros}
use Rattle.witness_orders.proofs.Closed.{begins_closed}
use Rattle.witness_orders.proofs.orders.Orders.make.Goals as goal

pub invariant_of-result : goal.invariant_of-result
invariant_of-result c =
    let e = c.in_ok-vec.ensures.items_if_clones_equal (λ y h. h) in
    let f = c.in_ok-vec-2.ensures.items_if_clones_equal (λ y h. h) in
    rw (e, f) (begins_closed c.args.classes c.requires)

pub returns : goal.returns
returns c =
    let n = c.args.classes in
    let e : c.in_ok-vec.field-0.items ≡ no_bits n = c.in_ok-vec.ensures.items_if_clones_equal (λ y h. h) in
    let graph : ℕ → List (ℕ × ℕ) → Graph = λ classes es. record { classes = classes; edges = es } in
    ap (λ (rows : List ℕ). graph (length rows) (edges_in rows)) e
    ∙ ap (λ (k : ℕ). graph k (edges_in (no_bits n))) (length-replicate n zero)
    ∙ ap (graph n) (no_edge (no_bits n) (zeros n))
