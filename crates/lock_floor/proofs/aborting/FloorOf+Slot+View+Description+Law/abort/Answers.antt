use Rattle.lock_floor.proofs.Names
use Names.{ℕ, refl, sym, ap, subst, Me, Allows, QueueName, spot, latch_line, FloorHolds, Knowledge, Description, Slot}
use Names.{MayAbortSleeper, AbortsSleeper, Floor, Pass, chain_place}
use Rattle.std.proofs.Common.{◌≡◌, ◌∙◌}
use Rattle.lock_floor.proofs.AbortCall.{before, call_view, call_tied, call_aborts}
use Rattle.lock_floor.proofs.AbortStep.{ToldAborted, abort_allowed}
use Rattle.lock_floor.proofs.Tied.{of_floor_still}
use Rattle.lock_floor.proofs.aborting.FloorOf+Slot+View+Description+Law.abort.Goals as goal

-- what the call needs, on the floor and the pass as they are inside
module _ (f g : Floor Description) (p k : Pass Knowledge) (same_floor : f ≡ g) (same_pass : p ≡ k) (q : QueueName) where
  may_inside : (u : ℕ) → MayAbortSleeper g.description q u k.view → MayAbortSleeper f.description q u p.view
  may_inside u = subst (λ (z : Floor Description × Pass Knowledge). MayAbortSleeper z.0.description q u z.1.view)
      (λ i. (sym same_floor i, sym same_pass i))

  place_inside : chain_place g.description q ≡ chain_place f.description q
  place_inside = ap (λ (x : Floor Description). chain_place x.description q) (sym same_floor)

  mine : k.view.description ≡ g.description → p.view.description ≡ f.description
  mine e = ap (λ (x : Pass Knowledge). x.view.description) same_pass ∙ e
      ∙ sym (ap (λ (x : Floor Description). x.description) same_floor)

pub abort_off-requires-clause-may : goal.abort_off-requires-clause-may
abort_off-requires-clause-may c =
    let key : Description = c.self.inside.board.shared.key in
    let me : Me Slot Knowledge = c.pass.inside.seat.me in
    let slots = c.self.inside.board.shared.table_id.slots in
    let q = c.args.q in
    let may = may_inside _ _ _ _ c.self.view_is c.pass.view_is q c.args.t.0 c.requires.may in
    let at = c.chain_slot-at.ensures.place ∙ place_inside _ _ _ _ c.self.view_is c.pass.view_is q in
    subst (λ j. Allows (FloorHolds key) slots c.pass.inside.seat.id me (spot (latch_line j)) (λ n. n)
    (ToldAborted key q c.args.t.0 me)) (sym at)
    (abort_allowed key me c.pass.invariant.role q may.side c.args.t.0 may.sleepers may.sleeps slots
    c.pass.inside.seat.id may.may)

pub take_sleeper-woken-requires-clause-out : goal.take_sleeper-woken-requires-clause-out
take_sleeper-woken-requires-clause-out c =
    before c.self.inside.board.shared.key c.pass.inside.seat.me c.abort_off.new.seat.me c.args.q
    c.abort_off.ensures.told.1.side c.args.t.0 c.abort_off.ensures.told.1.off c.chain_slot-at.result
    (c.chain_slot-at.ensures.place ∙ place_inside _ _ _ _ c.self.view_is c.pass.view_is c.args.q)
    c.pass.invariant.out

pub invariant_of-pass : goal.invariant_of-pass
invariant_of-pass c =
    call_tied c.self.inside.board.shared.key c.pass.inside.seat.me c.abort_off.new.seat.me c.args.q
    c.abort_off.ensures.told.1.side c.args.t.0 c.abort_off.ensures.told.1.off c.chain_slot-at.result
    (c.chain_slot-at.ensures.place ∙ place_inside _ _ _ _ c.self.view_is c.pass.view_is c.args.q)
    c.pass.invariant.out c.take_sleeper-woken.new.seat.me c.take_sleeper-woken.result
    c.take_sleeper-woken.ensures.view c.take_sleeper-woken.ensures.out
    c.pass.inside.who.0 c.pass.inside.held c.pass.inside.marked c.pass.inside.log c.pass.inside.finished
    (ap (λ (p : Pass Knowledge). p.finished) c.pass.view_is ∙ c.requires.own.unfinished)
    c.pass.invariant (mine _ _ _ _ c.self.view_is c.pass.view_is c.args.q c.requires.own.description)

pub returns-clause-own : goal.returns-clause-own
returns-clause-own c =
    of_floor_still _ _ _ _ c.pass.view_is c.requires.own (c.take_sleeper-woken.ensures.own ∙ c.abort_off.ensures.own)
    (ap (λ (w : Knowledge). w.description) (call_view c.self.inside.board.shared.key c.pass.inside.seat.me
    c.abort_off.new.seat.me c.args.q c.abort_off.ensures.told.1.side c.args.t.0 c.abort_off.ensures.told.1.off
    c.chain_slot-at.result (c.chain_slot-at.ensures.place ∙ place_inside _ _ _ _ c.self.view_is c.pass.view_is
    c.args.q) c.pass.invariant.out c.take_sleeper-woken.new.seat.me c.take_sleeper-woken.result
    c.take_sleeper-woken.ensures.view c.take_sleeper-woken.ensures.out)) refl

pub returns-clause-aborts : goal.returns-clause-aborts
returns-clause-aborts c =
    subst (λ (z : Floor Description × Pass Knowledge). AbortsSleeper z.0.description c.args.q c.args.t.0 z.1.view
    c.take_sleeper-woken.new.seat.me.0) (λ i. (c.self.view_is i, c.pass.view_is i))
    (call_aborts c.self.inside.board.shared.key c.pass.inside.seat.me c.abort_off.new.seat.me c.args.q
    c.abort_off.ensures.told.1.side c.args.t.0 c.abort_off.ensures.told.1.off c.chain_slot-at.result
    (c.chain_slot-at.ensures.place ∙ place_inside _ _ _ _ c.self.view_is c.pass.view_is c.args.q)
    c.pass.invariant.out c.take_sleeper-woken.new.seat.me c.take_sleeper-woken.result
    c.take_sleeper-woken.ensures.view c.take_sleeper-woken.ensures.out c.abort_off.ensures.told.1.keeps_word)
