use Rattle.lock_floor.proofs.Names.{ℕ, refl, sym, ap, subst, Me, Allows, chan_queue, spot, latch_line, FloorHolds}
use Rattle.lock_floor.proofs.Names.{Knowledge, Description, Slot, Floor, Pass, MayAddItself, AddsItself, chain_place}
use Rattle.std.proofs.Common.{◌≡◌, ◌∙◌}
use Rattle.lock_floor.proofs.AddCall.{before, its_work, call_tied, call_adds}
use Rattle.lock_floor.proofs.AddStep.{ToldAdded, add_allowed}
use Rattle.lock_floor.proofs.Tied.{of_floor_still}
use Rattle.lock_floor.proofs.channels.FloorOf+Slot+View+Description+Law.add.Goals as goal

-- what the call needs, on the floor and the pass as they are inside
module _ (f g : Floor Description) (p q : Pass Knowledge) (same_floor : f ≡ g) (same_pass : p ≡ q) where
  may_inside : (d : ℕ) → MayAddItself g.description d q.view → MayAddItself f.description d p.view
  may_inside d = subst (λ (z : Floor Description × Pass Knowledge). MayAddItself z.0.description d z.1.view)
      (λ i. (sym same_floor i, sym same_pass i))

  place_inside : (d : ℕ) → chain_place g.description (chan_queue d) ≡ chain_place f.description (chan_queue d)
  place_inside d = ap (λ (k : Floor Description). chain_place k.description (chan_queue d)) (sym same_floor)

pub added_to-requires-clause-may : goal.added_to-requires-clause-may
added_to-requires-clause-may c =
    let key : Description = c.self.inside.board.shared.key in
    let me : Me Slot Knowledge = c.pass.inside.seat.me in
    let slots = c.self.inside.board.shared.table_id.slots in
    let d = c.args.d.0 in
    let may = may_inside _ _ _ _ c.self.view_is c.pass.view_is d c.requires.may in
    let at = c.chain_slot-at.ensures.place ∙ place_inside _ _ _ _ c.self.view_is c.pass.view_is d in
    subst (λ j. Allows (FloorHolds key) slots c.pass.inside.seat.id me (spot (latch_line j)) (λ n. n)
    (ToldAdded key d me)) (sym at)
    (add_allowed key me c.pass.invariant.role d may slots c.pass.inside.seat.id)

pub lie_down-requires-clause-out : goal.lie_down-requires-clause-out
lie_down-requires-clause-out c =
    before c.self.inside.board.shared.key c.pass.inside.seat.me c.added_to.new.seat.me c.args.d.0
    c.added_to.ensures.told.1 c.from-own.result c.chain_slot-at.result
    (c.from-own.ensures ∙ c.pass.invariant.thread)
    (c.chain_slot-at.ensures.place ∙ place_inside _ _ _ _ c.self.view_is c.pass.view_is c.args.d.0)
    c.pass.invariant.out

pub invariant_of-pass : goal.invariant_of-pass
invariant_of-pass c =
    call_tied c.self.inside.board.shared.key c.pass.inside.seat.me c.added_to.new.seat.me c.args.d.0
    c.added_to.ensures.told.1 c.from-own.result c.chain_slot-at.result
    (c.from-own.ensures ∙ c.pass.invariant.thread)
    (c.chain_slot-at.ensures.place ∙ place_inside _ _ _ _ c.self.view_is c.pass.view_is c.args.d.0)
    c.pass.invariant.out c.lie_down.new.seat.me c.lie_down.ensures.view c.lie_down.ensures.out
    c.pass.inside.who.0 c.pass.inside.held c.pass.inside.marked c.pass.inside.log c.pass.inside.finished
    (ap (λ (p : Pass Knowledge). p.finished) c.pass.view_is ∙ c.requires.own.unfinished)
    c.pass.invariant

pub returns-clause-own : goal.returns-clause-own
returns-clause-own c =
    of_floor_still _ _ _ _ c.pass.view_is c.requires.own (c.lie_down.ensures.own ∙ c.added_to.ensures.own)
    (ap (λ (w : Knowledge). w.description) (its_work c.self.inside.board.shared.key c.pass.inside.seat.me
    c.added_to.new.seat.me c.args.d.0 c.added_to.ensures.told.1 c.from-own.result c.chain_slot-at.result
    (c.from-own.ensures ∙ c.pass.invariant.thread) (c.chain_slot-at.ensures.place ∙ place_inside _ _ _ _
    c.self.view_is c.pass.view_is c.args.d.0) c.pass.invariant.out c.lie_down.new.seat.me c.lie_down.ensures.view
    c.lie_down.ensures.out).view) refl

pub returns-clause-adds : goal.returns-clause-adds
returns-clause-adds c =
    subst (λ (z : Floor Description × Pass Knowledge). AddsItself z.0.description c.args.d.0 z.1.view
    c.lie_down.new.seat.me.0) (λ i. (c.self.view_is i, c.pass.view_is i))
    (call_adds c.self.inside.board.shared.key c.pass.inside.seat.me c.added_to.new.seat.me c.args.d.0
    c.added_to.ensures.told.1 c.from-own.result c.chain_slot-at.result
    (c.from-own.ensures ∙ c.pass.invariant.thread)
    (c.chain_slot-at.ensures.place ∙ place_inside _ _ _ _ c.self.view_is c.pass.view_is c.args.d.0)
    c.pass.invariant.out c.lie_down.new.seat.me c.lie_down.ensures.view c.lie_down.ensures.out)
