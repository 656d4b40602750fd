use Rattle.lock_floor.proofs.Names
use Names.{ℕ, List, Option, length, map, take, sym, ap, subst, All, Me, Allows, rest, Held, ClassNo, numbers_of}
use Names.{config_in, spot, latch_line, graph_place, FloorHolds, Knowledge, Description, Slot, Graph, Floor, Pass}
use Names.{MayOrder, HasGraph}
use Rattle.std.proofs.Common.{◌≡◌, ◌<◌, ◌∷◌, ◌∙◌, option_map}
use Rattle.lock_floor.proofs.OrderCall.{TellsVerdict, all_held, learns_graph, call_allowed}
use Rattle.lock_floor.proofs.OrderStep.{SettledGraph}
use Rattle.lock_floor.proofs.ordering.FloorOf+Slot+View+Description+Law.settle.Goals as goal

-- what the call needs, on the floor and the pass as they are inside
module _ (f g : Floor Description) (p q : Pass Knowledge) (same_floor : f ≡ g) (same_pass : p ≡ q) where
  may_inside : (l : ℕ) → MayOrder g.description l q.view → MayOrder f.description l p.view
  may_inside l = subst (λ (z : Floor Description × Pass Knowledge). MayOrder z.0.description l z.1.view)
      (λ i. (sym same_floor i, sym same_pass i))

  has_inside : HasGraph g.description q.view → HasGraph f.description p.view
  has_inside = subst (λ (z : Floor Description × Pass Knowledge). HasGraph z.0.description z.1.view)
      (λ i. (sym same_floor i, sym same_pass i))

module _ (f g : Floor Description) (same : f ≡ g) where
  low_inside : (l : ℕ) → l < length g.description.locks → l < length f.description.locks
  low_inside l = subst (λ (k : Floor Description). l < length k.description.locks) (sym same)

  class_inside : (l : ℕ) (class : ClassNo) → class.0 ≡ (config_in g.description).class l
      → class.0 ≡ (config_in f.description).class l
  class_inside l class e = e ∙ ap (λ (k : Floor Description). (config_in k.description).class l) (sym same)

  place_inside : (slot : ℕ) → slot ≡ graph_place g.description → slot ≡ graph_place f.description
  place_inside slot e = e ∙ ap (λ (k : Floor Description). graph_place k.description) (sym same)

  -- the classes that were written
  written_inside : (items held : List Held) (n : ℕ) (cs : List ClassNo) → n ≡ length items → items ≡ held
      → numbers_of (take (length items) cs) ≡ map (λ h. (config_in g.description).class h.l.0) items
      → numbers_of (take n cs) ≡ map (λ h. (config_in f.description).class h.l.0) held
  written_inside items held n cs long are e =
      ap (λ k. numbers_of (take k cs)) long ∙ e
      ∙ (λ i. map (λ (h : Held). (config_in (sym same i).description).class h.l.0) (are i))

pub put_classes-requires-clause-locks : goal.put_classes-requires-clause-locks
put_classes-requires-clause-locks c =
    let low : ℕ = length c.args.self.now.description.locks in
    let items : c.deref.result.now ≡ c.args.pass.now.view.share.held =
    c.deref.ensures.value ∙ c.pass.invariant.held ∙ ap (λ (p : Pass Knowledge). p.view.share.held) c.pass.view_is in
    subst (λ (hs : List Held). All (λ h. h.l.0 < low) hs) (sym items)
    (all_held (λ k. k < low) c.args.pass.now.view.share.held c.requires.graph.locks)

pub learn-against-requires-clause-graph : goal.learn-against-requires-clause-graph
learn-against-requires-clause-graph c =
    let key : Description = c.self.inside.board.shared.key in
    let me : Me Slot Knowledge = c.pass.inside.seat.me in
    let l : ℕ = c.args.l.0 in
    let cs : List ClassNo = take c.len.result c.put_classes.new.classes in
    let slot : c.graph_slot-slot.result ≡ graph_place key =
    place_inside _ _ c.self.view_is c.graph_slot-slot.result c.graph_slot-slot.ensures in
    let learns = learns_graph key l me me cs c.class.result
    (low_inside _ _ c.self.view_is l c.requires.lock)
    (may_inside _ _ _ _ c.self.view_is c.pass.view_is l c.requires.may)
    (has_inside _ _ _ _ c.self.view_is c.pass.view_is c.requires.graph) c.pass.invariant.out
    (written_inside _ _ c.self.view_is c.deref.result.now me.0.share.held c.len.result c.put_classes.new.classes
    (c.len.ensures ∙ sym c.deref.ensures.len) (c.deref.ensures.value ∙ c.pass.invariant.held) c.put_classes.ensures)
    (class_inside _ _ c.self.view_is l c.class.result c.class.ensures) in (
      learns.0,
      learns.1 ∙ ap (λ j. (j, Graph learns.0) ∷ rest me.1) (sym slot),
      learns.2,
      learns.3,
    )

pub give_graph-requires-clause-may : goal.give_graph-requires-clause-may
give_graph-requires-clause-may c =
    let key : Description = c.self.inside.board.shared.key in
    let me : Me Slot Knowledge = c.pass.inside.seat.me in
    let me2 : Me Slot Knowledge = c.learn-against.new.seat.me in
    let l : ℕ = c.args.l.0 in
    let cs : List ClassNo = take c.len.result c.put_classes.new.classes in
    let against : Option ℕ = option_map (λ (k : ClassNo). k.0) c.learn-against.result in
    let slot : c.graph_slot-slot.result ≡ graph_place key =
    place_inside _ _ c.self.view_is c.graph_slot-slot.result c.graph_slot-slot.ensures in
    subst (λ j. Allows (FloorHolds key) c.self.inside.board.shared.table_id.slots c.learn-against.new.seat.id me2
    (spot (latch_line j)) (λ n. 0) (λ n. SettledGraph key l against me2 0)) (sym slot)
    (call_allowed key l me me2 cs c.class.result
    (low_inside _ _ c.self.view_is l c.requires.lock)
    (may_inside _ _ _ _ c.self.view_is c.pass.view_is l c.requires.may)
    (has_inside _ _ _ _ c.self.view_is c.pass.view_is c.requires.graph) c.pass.invariant.out
    (written_inside _ _ c.self.view_is c.deref.result.now me.0.share.held c.len.result c.put_classes.new.classes
    (c.len.ensures ∙ sym c.deref.ensures.len) (c.deref.ensures.value ∙ c.pass.invariant.held) c.put_classes.ensures)
    (class_inside _ _ c.self.view_is l c.class.result c.class.ensures) against c.learn-against.ensures.view
    (subst (λ j. TellsVerdict j cs c.class.result against me me2) slot c.learn-against.ensures.verdict)
    c.pass.invariant.role c.self.inside.board.shared.table_id.slots c.learn-against.new.seat.id)
