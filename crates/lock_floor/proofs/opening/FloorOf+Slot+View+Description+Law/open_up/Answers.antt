use Rattle.lock_floor.proofs.Names
use Names.{ℕ, true, length, refl, sym, ap, subst, arith, lock_queue, word_of, is_turnstile, opened, side_woken, Waiters}
use Names.{config_in, Knowledge, Description, Floor, Pass, AreMarked, HasBothOut, MayOpenUp, OpensUp, marks_opened}
use Names.{chain_place}
use Rattle.std.proofs.Common.{◌≡◌, ◌<◌, ◌∙◌}
use Rattle.lock_floor.proofs.Looking.{may_look_inside}
use Rattle.lock_floor.proofs.OpenCall.{side_told, side_out, its_work, tied_opened}
use Rattle.lock_floor.proofs.OpenStep.{open_allowed}
use Rattle.lock_floor.proofs.Tied.{of_floor_still, tied_looked}
use Rattle.lock_floor.proofs.opening.FloorOf+Slot+View+Description+Law.open_up.Goals as goal

pub open_word-found-requires-clause-may : goal.open_word-found-requires-clause-may
open_word-found-requires-clause-may c =
    let floor : Description = c.self.inside.board.shared.key in
    let l = c.args.l.0 in
    let seen = c.args.seen in
    let low = subst (λ (f : Floor Description). l < length f.description.locks) (sym c.self.view_is) c.requires.lock in
    let turnstile = subst (λ (f : Floor Description). is_turnstile ((config_in f.description).kind l) ≡ true)
    (sym c.self.view_is) c.requires.turnstile in
    let both = subst (λ (z : Floor Description × Pass Knowledge). HasBothOut z.0.description l z.1.view)
    (λ i. (sym c.self.view_is i, sym c.pass.view_is i)) c.requires.out in
    let may = subst (λ (z : Floor Description × Pass Knowledge). MayOpenUp z.0.description l (word_of seen) z.1.view)
    (λ i. (sym c.self.view_is i, sym c.pass.view_is i)) c.requires.may in
    let may_look = may_look_inside _ _ _ _ c.self.view_is c.pass.view_is l c.requires.may_look in
    let kind = c.kind.ensures ∙ ap (λ (f : Floor Description). (config_in f.description).kind l) (sym c.self.view_is) in
    let says = c.opened.ensures.word ∙ ap (λ k. opened k (word_of seen)) kind in
    open_allowed floor c.pass.inside.seat.me c.pass.invariant.role c.self.inside.board.shared.table_id.slots
    c.pass.inside.seat.id seen c.opened.result.0 l may.mode (side_woken ((config_in floor).kind l) (word_of seen))
    low both turnstile refl says may.may may_look

-- the word was another
pub invariant_of-pass : goal.invariant_of-pass
invariant_of-pass c =
    tied_looked c.pass.inside.who.0 c.pass.inside.held c.pass.inside.marked c.pass.inside.log c.pass.inside.finished
    c.pass.inside.seat.me c.open_word-found.new.seat.me c.self.inside.board.shared.key c.args.l.0
    c.open_word-found.result (ap (λ (p : Pass Knowledge). p.finished) c.pass.view_is ∙ c.requires.own.unfinished)
    c.pass.invariant (c.open_word-found.ensures.told.1 c.if-found-seen.true)

-- it was the one that was seen
module _ (f g : Floor Description) (same : f ≡ g) where
  kind_inside : (l : ℕ) → (config_in g.description).kind l ≡ (config_in f.description).kind l
  kind_inside l = ap (λ (k : Floor Description). (config_in k.description).kind l) (sym same)

  place_inside : (l : ℕ) → chain_place g.description (lock_queue l) ≡ chain_place f.description (lock_queue l)
  place_inside l = ap (λ (k : Floor Description). chain_place k.description (lock_queue l)) (sym same)

pub take_side-woken-requires-clause-out : goal.take_side-woken-requires-clause-out
take_side-woken-requires-clause-out c =
    let key : Description = c.self.inside.board.shared.key in
    let l = c.args.l.0 in
    side_out key c.pass.inside.seat.me c.open_word-found.new.seat.me l c.args.seen c.open_word-found.result
    c.in_default-Some.side
    (side_told key l c.kind.result (word_of c.args.seen) c.opened.result.1 c.in_default-Some.side c.opened.ensures.side
    c.in_default-Some.is-1 c.requires.opens (c.kind.ensures ∙ kind_inside _ _ c.self.view_is l))
    c.open_word-found.ensures.told c.if-found-seen.false c.from-own.result c.chain_slot-chain.result
    (c.from-own.ensures ∙ c.pass.invariant.thread)
    (c.chain_slot-chain.ensures.place ∙ place_inside _ _ c.self.view_is l) c.pass.invariant.out

module _ (c : goal.After-leave) where
  its_open : (o : OpensUp c.self.inside.board.shared.key c.args.l.0 (word_of c.args.seen) c.pass.inside.seat.me.0
      c.take_side-woken.new.seat.me.0) × (c.take_side-woken.new.seat.me.1 ≡ c.take_side-woken.new.seat.me.0.out)
      × AreMarked c.self.inside.board.shared.key (Waiters c.take_side-woken.result)
      (marks_opened c.args.l.0 o.side o.both.box o.turnstile)
  its_open =
      its_work c.self.inside.board.shared.key c.pass.inside.seat.me c.open_word-found.new.seat.me c.args.l.0 c.args.seen
      c.open_word-found.result c.in_default-Some.side
      (side_told c.self.inside.board.shared.key c.args.l.0 c.kind.result (word_of c.args.seen) c.opened.result.1
      c.in_default-Some.side c.opened.ensures.side c.in_default-Some.is-1 c.requires.opens
      (c.kind.ensures ∙ kind_inside _ _ c.self.view_is c.args.l.0)) c.open_word-found.ensures.told
      c.if-found-seen.false c.from-own.result c.chain_slot-chain.result (c.from-own.ensures ∙ c.pass.invariant.thread)
      (c.chain_slot-chain.ensures.place ∙ place_inside _ _ c.self.view_is c.args.l.0) c.pass.invariant.out
      (subst (λ (f : Floor Description). is_turnstile ((config_in f.description).kind c.args.l.0) ≡ true)
      (sym c.self.view_is) c.requires.turnstile) c.take_side-woken.new.seat.me c.take_side-woken.result
      c.take_side-woken.ensures.view c.take_side-woken.ensures.out c.take_side-woken.ensures.woken

pub invariant_of-pass-2 : goal.invariant_of-pass-2
invariant_of-pass-2 c =
    let its = its_open c in
    tied_opened c.self.inside.board.shared.key c.args.l.0 (word_of c.args.seen) c.pass.inside.seat.me
    c.take_side-woken.new.seat.me c.take_side-woken.result its.0 its.1 its.2 c.pass.inside.who.0 c.pass.inside.held
    c.leave.new.held c.pass.inside.marked c.pass.inside.log c.pass.inside.finished
    (ap (λ (p : Pass Knowledge). p.finished) c.pass.view_is ∙ c.requires.own.unfinished) c.pass.invariant
    (ap (λ (p : Pass Knowledge). p.view.description) c.pass.view_is ∙ c.requires.own.description
    ∙ sym (ap (λ (f : Floor Description). f.description) c.self.view_is))
    c.leave.ensures.left (omega (arith, c.pass.invariant.room, c.leave.ensures.room))

pub returns-clause-own : goal.returns-clause-own
returns-clause-own c =
    of_floor_still _ _ _ _ c.pass.view_is c.requires.own (c.take_side-woken.ensures.own
    ∙ c.open_word-found.ensures.own) (ap (λ (w : Knowledge). w.description) (its_open c).0.view) refl

pub returns-clause-opens : goal.returns-clause-opens
returns-clause-opens c =
    subst (λ (z : Floor Description × Pass Knowledge). OpensUp z.0.description c.args.l.0 (word_of c.args.seen) z.1.view
    c.take_side-woken.new.seat.me.0) (λ i. (c.self.view_is i, c.pass.view_is i)) (its_open c).0
