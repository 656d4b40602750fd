use Rattle.lock_floor.proofs.Names.{ℕ, length, refl, sym, ap, subst, lock_queue, Side, Knowledge, Description}
use Rattle.lock_floor.proofs.Names.{MayAbortLast, AbortsLast, Floor, Pass, chain_place}
use Rattle.std.proofs.Common.{◌≡◌, ◌<◌, ◌∙◌}
use Rattle.lock_floor.proofs.AbortCall.{before, call_view, call_tied, call_step}
use Rattle.lock_floor.proofs.LastStep.{last_allowed}
use Rattle.lock_floor.proofs.Tied.{of_floor_still}
use Rattle.lock_floor.proofs.halting.FloorOf+Slot+View+Description+Law.abort_last.Goals as goal

-- what the call needs, on the floor and the pass as they are inside
module _ (f g : Floor Description) (p k : Pass Knowledge) (same_floor : f ≡ g) (same_pass : p ≡ k) (l : ℕ) where
  may_inside : (side : Side) (u : ℕ) → MayAbortLast g.description l side u k.view
      → MayAbortLast f.description l side u p.view
  may_inside side u = subst (λ (z : Floor Description × Pass Knowledge). MayAbortLast z.0.description l side u z.1.view)
      (λ i. (sym same_floor i, sym same_pass i))

  place_inside : chain_place g.description (lock_queue l) ≡ chain_place f.description (lock_queue l)
  place_inside = ap (λ (x : Floor Description). chain_place x.description (lock_queue l)) (sym same_floor)

  mine : k.view.description ≡ g.description → p.view.description ≡ f.description
  mine e = ap (λ (x : Pass Knowledge). x.view.description) same_pass ∙ e
      ∙ sym (ap (λ (x : Floor Description). x.description) same_floor)

pub hide-requires-clause-may : goal.hide-requires-clause-may
hide-requires-clause-may c =
    let l = c.args.l.0 in
    let low = subst (λ (f : Floor Description). l < length f.description.locks) (sym c.self.view_is) c.requires.lock in
    last_allowed c.self.inside.board.shared.key c.pass.inside.seat.me c.pass.invariant.role l c.args.side c.args.t.0 low
    (may_inside _ _ _ _ c.self.view_is c.pass.view_is l c.args.side c.args.t.0 c.requires.may)
    c.off.result c.off.ensures c.self.inside.board.shared.table_id.slots c.pass.inside.seat.id

pub take_sleeper-woken-requires-clause-out : goal.take_sleeper-woken-requires-clause-out
take_sleeper-woken-requires-clause-out c =
    before c.self.inside.board.shared.key c.pass.inside.seat.me c.hide.new.seat.me (lock_queue c.args.l.0) c.args.side
    c.args.t.0 c.hide.ensures.told.1.off c.chain_slot-at.result
    (c.chain_slot-at.ensures.place ∙ place_inside _ _ _ _ c.self.view_is c.pass.view_is c.args.l.0)
    c.pass.invariant.out

pub invariant_of-pass : goal.invariant_of-pass
invariant_of-pass c =
    call_tied c.self.inside.board.shared.key c.pass.inside.seat.me c.hide.new.seat.me (lock_queue c.args.l.0)
    c.args.side c.args.t.0 c.hide.ensures.told.1.off c.chain_slot-at.result
    (c.chain_slot-at.ensures.place ∙ place_inside _ _ _ _ c.self.view_is c.pass.view_is c.args.l.0)
    c.pass.invariant.out c.take_sleeper-woken.new.seat.me c.take_sleeper-woken.result
    c.take_sleeper-woken.ensures.view c.take_sleeper-woken.ensures.out
    c.pass.inside.who.0 c.pass.inside.held c.pass.inside.marked c.pass.inside.log c.pass.inside.finished
    (ap (λ (p : Pass Knowledge). p.finished) c.pass.view_is ∙ c.requires.own.unfinished)
    c.pass.invariant (mine _ _ _ _ c.self.view_is c.pass.view_is c.args.l.0 c.requires.own.description)

pub returns-clause-own : goal.returns-clause-own
returns-clause-own c =
    of_floor_still _ _ _ _ c.pass.view_is c.requires.own (c.take_sleeper-woken.ensures.own ∙ c.hide.ensures.own)
    (ap (λ (w : Knowledge). w.description) (call_view c.self.inside.board.shared.key c.pass.inside.seat.me
    c.hide.new.seat.me (lock_queue c.args.l.0) c.args.side c.args.t.0 c.hide.ensures.told.1.off c.chain_slot-at.result
    (c.chain_slot-at.ensures.place ∙ place_inside _ _ _ _ c.self.view_is c.pass.view_is c.args.l.0)
    c.pass.invariant.out c.take_sleeper-woken.new.seat.me c.take_sleeper-woken.result
    c.take_sleeper-woken.ensures.view c.take_sleeper-woken.ensures.out)) refl

pub returns-clause-aborts : goal.returns-clause-aborts
returns-clause-aborts c =
    let off = c.hide.ensures.told.1.off in
    let at = c.chain_slot-at.ensures.place ∙ place_inside _ _ _ _ c.self.view_is c.pass.view_is c.args.l.0 in
    subst (λ (z : Floor Description × Pass Knowledge). AbortsLast z.0.description c.args.l.0 c.args.side c.args.t.0
    z.1.view c.take_sleeper-woken.new.seat.me.0) (λ i. (c.self.view_is i, c.pass.view_is i))
    record {
      sleepers = off.sleepers;
      sleeps = record {
        head = off.head;
        there = off.there;
        stands = off.stands;
        last = c.hide.ensures.told.1.last;
      };
      view = call_view c.self.inside.board.shared.key c.pass.inside.seat.me c.hide.new.seat.me (lock_queue c.args.l.0)
          c.args.side c.args.t.0 off c.chain_slot-at.result at c.pass.invariant.out c.take_sleeper-woken.new.seat.me
          c.take_sleeper-woken.result c.take_sleeper-woken.ensures.view c.take_sleeper-woken.ensures.out;
      step = call_step c.self.inside.board.shared.key c.pass.inside.seat.me c.hide.new.seat.me (lock_queue c.args.l.0)
          c.args.side c.args.t.0 off c.chain_slot-at.result at c.pass.invariant.out c.take_sleeper-woken.new.seat.me
          c.take_sleeper-woken.result c.take_sleeper-woken.ensures.view c.take_sleeper-woken.ensures.out;
    }
