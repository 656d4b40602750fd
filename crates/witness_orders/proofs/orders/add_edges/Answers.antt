use Rattle.std.proofs.Common.{◌<◌, eqb, length, get_or, take, sym, subst}
use Rattle.std.specs.List.{list_any}
use Rattle.std.proofs.lemmas.List.Folds.{list_any_more}
use Rattle.std.proofs.lemmas.List.Elements.{All-get_or}
use Rattle.lock_model.specs.Counts.{has_bit}
use Rattle.witness_orders.proofs.Rows.{edge_added}
use Rattle.witness_orders.proofs.orders.add_edges.Goals as goal

pub loop-h-preserved : goal.loop-h-preserved
loop-h-preserved c a b =
    let all = c.args.held.now in
    let h = get_or all c.loop-h.h-index (record { 0 = 0 }) in
    let n = length c.args.edges.now in
    let within = All-get_or (λ k. k.0 < n) all c.loop-h.h-index (record { 0 = 0 }) c.loop-h-test.true c.requires.held in
    let more = list_any_more (λ k. eqb k.0 a) all c.loop-h.h-index (record { 0 = 0 }) c.loop-h-test.true in
    let old = has_bit b (get_or c.args.edges.now a 0) in
    let among = list_any (λ k. eqb k.0 a) (take c.loop-h.h-index all) in
    rw (c.from.ensures, c.only.ensures, more)
    (edge_added c.loop-h.edges h.0 c.args.wanted.0 a b old among
    (subst (λ k. h.0 < k) (sym c.loop-h.auto.edges) within) (c.loop-h.invariant a b))
