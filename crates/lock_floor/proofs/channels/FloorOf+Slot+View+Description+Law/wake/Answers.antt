use Rattle.lock_floor.proofs.Names
use Names.{ℕ, Bool, refl, sym, ap, subst, Me, Allows, chan_queue, spot, latch_line, FloorHolds, Knowledge, Description}
use Names.{Slot, Floor, Pass, MayWakeSleepers, WakesSleepers, chain_place}
use Rattle.std.proofs.Common.{◌≡◌, ◌∙◌}
use Rattle.lock_floor.proofs.WakeUpCall.{before, few_bits, call_view, call_tied, call_wakes}
use Rattle.lock_floor.proofs.WakeUpStep.{ToldWoken, wake_allowed}
use Rattle.lock_floor.proofs.Tied.{of_floor_still}
use Rattle.lock_floor.proofs.channels.FloorOf+Slot+View+Description+Law.wake.Goals as goal

-- what the call needs, on the floor and the pass as they are inside
module _ (f g : Floor Description) (p q : Pass Knowledge) (same_floor : f ≡ g) (same_pass : p ≡ q) where
  may_inside : (d : ℕ) (all : Bool) → MayWakeSleepers g.description d all q.view
      → MayWakeSleepers f.description d all p.view
  may_inside d all = subst (λ (z : Floor Description × Pass Knowledge). MayWakeSleepers z.0.description d all z.1.view)
      (λ i. (sym same_floor i, sym same_pass i))

  place_inside : (d : ℕ) → chain_place g.description (chan_queue d) ≡ chain_place f.description (chan_queue d)
  place_inside d = ap (λ (k : Floor Description). chain_place k.description (chan_queue d)) (sym same_floor)

  mine : q.view.description ≡ g.description → p.view.description ≡ f.description
  mine e = ap (λ (k : Pass Knowledge). k.view.description) same_pass ∙ e
      ∙ sym (ap (λ (k : Floor Description). k.description) same_floor)

pub woken_off-requires-clause-may : goal.woken_off-requires-clause-may
woken_off-requires-clause-may c =
    let key : Description = c.self.inside.board.shared.key in
    let me : Me Slot Knowledge = c.pass.inside.seat.me in
    let slots = c.self.inside.board.shared.table_id.slots in
    let d = c.args.d.0 in
    let may = may_inside _ _ _ _ c.self.view_is c.pass.view_is d c.args.all c.requires.may in
    let at = c.chain_slot-at.ensures.place ∙ place_inside _ _ _ _ c.self.view_is c.pass.view_is d in
    subst (λ j. Allows (FloorHolds key) slots c.pass.inside.seat.id me (spot (latch_line j)) (λ n. n)
    (ToldWoken key d c.args.all me)) (sym at)
    (wake_allowed key me c.pass.invariant.role d c.args.all may.sleepers slots c.pass.inside.seat.id may.may)

pub take_sleepers-woken-requires-clause-out : goal.take_sleepers-woken-requires-clause-out
take_sleepers-woken-requires-clause-out c =
    before c.self.inside.board.shared.key c.pass.inside.seat.me c.woken_off.new.seat.me c.args.d.0 c.args.all
    c.woken_off.ensures.told.1 c.chain_slot-at.result
    (c.chain_slot-at.ensures.place ∙ place_inside _ _ _ _ c.self.view_is c.pass.view_is c.args.d.0)
    c.pass.invariant.out

pub bits_of-bits-requires : goal.bits_of-bits-requires
bits_of-bits-requires c =
    few_bits c.self.inside.board.shared.key c.pass.inside.seat.me c.woken_off.new.seat.me c.args.d.0 c.args.all
    c.woken_off.ensures.told.1 c.chain_slot-at.result
    (c.chain_slot-at.ensures.place ∙ place_inside _ _ _ _ c.self.view_is c.pass.view_is c.args.d.0)
    c.pass.invariant.out c.take_sleepers-woken.new.seat.me c.take_sleepers-woken.result
    c.take_sleepers-woken.ensures.view c.take_sleepers-woken.ensures.out

pub invariant_of-pass : goal.invariant_of-pass
invariant_of-pass c =
    call_tied c.self.inside.board.shared.key c.pass.inside.seat.me c.woken_off.new.seat.me c.args.d.0 c.args.all
    c.woken_off.ensures.told.1 c.chain_slot-at.result
    (c.chain_slot-at.ensures.place ∙ place_inside _ _ _ _ c.self.view_is c.pass.view_is c.args.d.0)
    c.pass.invariant.out c.take_sleepers-woken.new.seat.me c.take_sleepers-woken.result
    c.take_sleepers-woken.ensures.view c.take_sleepers-woken.ensures.out
    c.pass.inside.who.0 c.pass.inside.held c.pass.inside.marked c.pass.inside.log c.pass.inside.finished
    (ap (λ (p : Pass Knowledge). p.finished) c.pass.view_is ∙ c.requires.own.unfinished)
    c.pass.invariant (mine _ _ _ _ c.self.view_is c.pass.view_is c.requires.own.description)

pub returns-clause-own : goal.returns-clause-own
returns-clause-own c =
    of_floor_still _ _ _ _ c.pass.view_is c.requires.own (c.take_sleepers-woken.ensures.own ∙ c.woken_off.ensures.own)
    (ap (λ (w : Knowledge). w.description) (call_view c.self.inside.board.shared.key c.pass.inside.seat.me
    c.woken_off.new.seat.me c.args.d.0 c.args.all c.woken_off.ensures.told.1 c.chain_slot-at.result
    (c.chain_slot-at.ensures.place ∙ place_inside _ _ _ _ c.self.view_is c.pass.view_is c.args.d.0)
    c.pass.invariant.out c.take_sleepers-woken.new.seat.me c.take_sleepers-woken.result
    c.take_sleepers-woken.ensures.view c.take_sleepers-woken.ensures.out)) refl

pub returns-clause-wakes : goal.returns-clause-wakes
returns-clause-wakes c =
    subst (λ (z : Floor Description × Pass Knowledge). WakesSleepers z.0.description c.args.d.0 c.args.all
    c.bits_of-bits.result z.1.view c.take_sleepers-woken.new.seat.me.0) (λ i. (c.self.view_is i, c.pass.view_is i))
    (call_wakes c.self.inside.board.shared.key c.pass.inside.seat.me c.woken_off.new.seat.me c.args.d.0 c.args.all
    c.woken_off.ensures.told.1 c.chain_slot-at.result
    (c.chain_slot-at.ensures.place ∙ place_inside _ _ _ _ c.self.view_is c.pass.view_is c.args.d.0)
    c.pass.invariant.out c.take_sleepers-woken.new.seat.me c.take_sleepers-woken.result
    c.take_sleepers-woken.ensures.view c.take_sleepers-woken.ensures.out
    c.bits_of-bits.result c.bits_of-bits.ensures)
