use Rattle.lock_floor.proofs.Names.{ℕ, List, refl, sym, ap, subst, Global, Box, rest, IsFirstToForbid, numbers_of}
use Rattle.lock_floor.proofs.Names.{Orders, Slot, Graph}
use Rattle.std.proofs.Common.{◌≡◌, ◌∷◌, ◌∙◌}
use Rattle.witness_orders.specs.Graph as orders
use Rattle.lock_floor.proofs.ordering.learn.Goals as goal

-- the graph that was taken last is the one there
its_graph : (slot : ℕ) (out : List (ℕ × Slot)) (x : Slot) (a b : Box Orders Global) → out ≡ (slot, x) ∷ rest out
    → x ≡ Graph a → out ≡ (slot, Graph b) ∷ rest out → a ≡ b
its_graph slot out x a b last is e =
    let lists : (slot, x) ∷ rest out ≡ (slot, Graph b) ∷ rest out = sym last ∙ e in
    let pairs : ◌≡◌ {A = ℕ × Slot} (slot, x) (slot, Graph b) = cc in
    let same : Graph a ≡ Graph b = sym is ∙ ap (λ (z : ℕ × Slot). z.1) pairs in
    cc

pub returns-in-Err-clause-verdict : goal.returns-in-Err-clause-verdict
returns-in-Err-clause-verdict c b e =
    let same : c.in-Graph.orders ≡ b =
    its_graph c.args.slot c.args.seat.now.me.1 c.slot_mut.result.now c.in-Graph.orders b c.slot_mut.ensures.value
    c.in-Graph.is e in
    let value : c.deref.result.now ≡ b.value = c.deref.ensures ∙ ap (λ (x : Box Orders Global). x.value) same in (
      b.value,
      ap (λ (x : Box Orders Global). (c.args.slot, Graph x) ∷ rest c.args.seat.now.me.1) same,
      (
        subst (λ (g : orders.Graph). IsFirstToForbid g.edges (numbers_of c.args.held.now) c.args.wanted.0
            c.in-Err.reversal.held.0) value c.in-Err.ensures.0,
        refl,
      ),
    )
