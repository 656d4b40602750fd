use Rattle.lock_floor.proofs.Names
use Names.{ℕ, false, length, refl, sym, ap, subst, arith, Me, lock_queue, Word, word_of, is_turnstile, opened}
use Names.{side_woken, Sx, config_in, Knowledge, seeing, Description, Slot, Floor, Pass, MayOpenSleepers, OpensSleepers}
use Names.{looked, chain_place}
use Rattle.std.proofs.Common.{◌≡◌, ◌<◌, ◌∙◌}
use Rattle.lock_floor.proofs.Looking.{Looked, may_look_inside, look_outside}
use Rattle.lock_floor.proofs.OpenCall.{side_told}
use Rattle.lock_floor.proofs.SleepOpenCall.{before, call_view, call_tied, call_opens}
use Rattle.lock_floor.proofs.SleepOpenStep.{open_allowed}
use Rattle.lock_floor.proofs.Tied.{of_floor_still, tied_looked}
use Rattle.lock_floor.proofs.sleeping.FloorOf+Slot+View+Description+Law.open_sleep.Goals as goal

-- what the call needs, on the floor and the pass as they are inside
module _ (f g : Floor Description) (p q : Pass Knowledge) (same_floor : f ≡ g) (same_pass : p ≡ q) where
  may_inside : (l : ℕ) (w : Word) → MayOpenSleepers g.description l w q.view → MayOpenSleepers f.description l w p.view
  may_inside l w = subst (λ (z : Floor Description × Pass Knowledge). MayOpenSleepers z.0.description l w z.1.view)
      (λ i. (sym same_floor i, sym same_pass i))

  place_inside : (l : ℕ) → chain_place g.description (lock_queue l) ≡ chain_place f.description (lock_queue l)
  place_inside l = ap (λ (k : Floor Description). chain_place k.description (lock_queue l)) (sym same_floor)

  -- the side is the one that the word tells, and the lock's queue is a sleep queue
  kind_inside : (l : ℕ) → (config_in g.description).kind l ≡ (config_in f.description).kind l
  kind_inside l = ap (λ (k : Floor Description). (config_in k.description).kind l) (sym same_floor)

  sleeps_inside : (l : ℕ) → (config_in g.description).kind l ≡ Sx
      → is_turnstile ((config_in f.description).kind l) ≡ false
  sleeps_inside l is = ap is_turnstile (sym (kind_inside l) ∙ is)

  mine : q.view.description ≡ g.description → p.view.description ≡ f.description
  mine e = ap (λ (k : Pass Knowledge). k.view.description) same_pass ∙ e
      ∙ sym (ap (λ (k : Floor Description). k.description) same_floor)

pub open_word-found-requires-clause-may : goal.open_word-found-requires-clause-may
open_word-found-requires-clause-may c =
    let floor : Description = c.self.inside.board.shared.key in
    let l = c.args.l.0 in
    let seen = c.args.seen in
    let low = subst (λ (f : Floor Description). l < length f.description.locks) (sym c.self.view_is) c.requires.lock in
    let may = may_inside _ _ _ _ c.self.view_is c.pass.view_is l (word_of seen) c.requires.may in
    let may_look = may_look_inside _ _ _ _ c.self.view_is c.pass.view_is l c.requires.may_look in
    let kind = c.kind.ensures ∙ ap (λ (f : Floor Description). (config_in f.description).kind l) (sym c.self.view_is) in
    let says = c.opened.ensures.word ∙ ap (λ k. opened k (word_of seen)) kind in
    open_allowed floor c.pass.inside.seat.me c.pass.invariant.role c.self.inside.board.shared.table_id.slots
    c.pass.inside.seat.id seen c.opened.result.0 l (side_woken ((config_in floor).kind l) (word_of seen)) low may refl
    says may_look

-- the word was another
module _ (c : goal.Then-found-seen) where
  abbrev me : Me Slot Knowledge
  me = c.pass.inside.seat.me

  abbrev behind : Me Slot Knowledge
  behind = c.open_word-found.new.seat.me

  its_look : Looked c.self.inside.board.shared.key c.args.l.0 me c.open_word-found.result behind
  its_look = c.open_word-found.ensures.told.1 c.if-found-seen.true

  its_view : behind.0 ≡ seeing behind.0.seen (looked me.0 c.args.l.0 (word_of c.open_word-found.result))
  its_view = ap (λ (m : Me Slot Knowledge). m.0) its_look.1

pub invariant_of-pass : goal.invariant_of-pass
invariant_of-pass c =
    tied_looked c.pass.inside.who.0 c.pass.inside.held c.pass.inside.marked c.pass.inside.log c.pass.inside.finished
    c.pass.inside.seat.me c.open_word-found.new.seat.me c.self.inside.board.shared.key c.args.l.0
    c.open_word-found.result (ap (λ (p : Pass Knowledge). p.finished) c.pass.view_is ∙ c.requires.own.unfinished)
    c.pass.invariant (its_look c)

pub returns-then-found-seen-clause-own : goal.returns-then-found-seen-clause-own
returns-then-found-seen-clause-own c =
    of_floor_still _ _ _ _ c.pass.view_is c.requires.own c.open_word-found.ensures.own
    (ap (λ (w : Knowledge). w.description) (its_view c)) refl

pub returns-then-found-seen-clause-found : goal.returns-then-found-seen-clause-found
returns-then-found-seen-clause-found c = (c.if-found-seen.true, (its_look c).0)

pub returns-then-found-seen-clause-looked : goal.returns-then-found-seen-clause-looked
returns-then-found-seen-clause-looked c =
    its_view c ∙ ap (λ (p : Pass Knowledge). seeing c.open_word-found.new.seat.me.0.seen
    (looked p.view c.args.l.0 (word_of c.open_word-found.result))) c.pass.view_is

pub returns-then-found-seen-clause-look : goal.returns-then-found-seen-clause-look
returns-then-found-seen-clause-look c =
    look_outside _ _ _ _ c.self.view_is c.pass.view_is c.args.l.0 c.open_word-found.new.seat.me.0 (its_look c).2

-- it was the one that was seen

pub take_sleepers-woken-requires-clause-out : goal.take_sleepers-woken-requires-clause-out
take_sleepers-woken-requires-clause-out c =
    before c.self.inside.board.shared.key c.pass.inside.seat.me c.open_word-found.new.seat.me c.args.l.0
    c.args.seen c.open_word-found.result c.in_default-Some.side
    (side_told c.self.inside.board.shared.key c.args.l.0 c.kind.result (word_of c.args.seen) c.opened.result.1
    c.in_default-Some.side c.opened.ensures.side c.in_default-Some.is-1 c.requires.opens
    (c.kind.ensures ∙ kind_inside _ _ _ _ c.self.view_is c.pass.view_is c.args.l.0))
    c.open_word-found.ensures.told c.if-found-seen.false c.chain_slot-at.result
    (c.chain_slot-at.ensures.place ∙ place_inside _ _ _ _ c.self.view_is c.pass.view_is c.args.l.0)
    c.pass.invariant.out c.turn.new.self.me c.turn.ensures.2

pub invariant_of-pass-2 : goal.invariant_of-pass-2
invariant_of-pass-2 c =
    call_tied c.self.inside.board.shared.key c.pass.inside.seat.me c.open_word-found.new.seat.me c.args.l.0
    c.args.seen c.open_word-found.result c.in_default-Some.side
    (side_told c.self.inside.board.shared.key c.args.l.0 c.kind.result (word_of c.args.seen) c.opened.result.1
    c.in_default-Some.side c.opened.ensures.side c.in_default-Some.is-1 c.requires.opens
    (c.kind.ensures ∙ kind_inside _ _ _ _ c.self.view_is c.pass.view_is c.args.l.0))
    c.open_word-found.ensures.told c.if-found-seen.false c.chain_slot-at.result
    (c.chain_slot-at.ensures.place ∙ place_inside _ _ _ _ c.self.view_is c.pass.view_is c.args.l.0)
    c.pass.invariant.out c.turn.new.self.me c.turn.ensures.2
    c.take_sleepers-woken.new.seat.me c.take_sleepers-woken.result c.take_sleepers-woken.ensures.view
    c.take_sleepers-woken.ensures.out c.turn-2.new.self.me c.turn-2.ensures.2
    c.pass.inside.who.0 c.pass.inside.held c.leave.new.held c.pass.inside.marked c.pass.inside.log
    c.pass.inside.finished
    (ap (λ (p : Pass Knowledge). p.finished) c.pass.view_is ∙ c.requires.own.unfinished)
    c.pass.invariant (mine _ _ _ _ c.self.view_is c.pass.view_is c.requires.own.description)
    (sleeps_inside _ _ _ _ c.self.view_is c.pass.view_is c.args.l.0 c.requires.kind)
    c.leave.ensures.left (omega (arith, c.pass.invariant.room, c.leave.ensures.room))

pub returns-clause-own : goal.returns-clause-own
returns-clause-own c =
    of_floor_still _ _ _ _ c.pass.view_is c.requires.own (c.turn-2.ensures.0 ∙ c.take_sleepers-woken.ensures.own
    ∙ c.turn.ensures.0 ∙ c.open_word-found.ensures.own) (ap (λ (w : Knowledge). w.description) (call_view
    c.self.inside.board.shared.key c.pass.inside.seat.me c.open_word-found.new.seat.me c.args.l.0 c.args.seen
    c.open_word-found.result c.in_default-Some.side (side_told c.self.inside.board.shared.key c.args.l.0 c.kind.result
    (word_of c.args.seen) c.opened.result.1 c.in_default-Some.side c.opened.ensures.side c.in_default-Some.is-1
    c.requires.opens (c.kind.ensures ∙ kind_inside _ _ _ _ c.self.view_is c.pass.view_is c.args.l.0))
    c.open_word-found.ensures.told c.if-found-seen.false c.chain_slot-at.result (c.chain_slot-at.ensures.place
    ∙ place_inside _ _ _ _ c.self.view_is c.pass.view_is c.args.l.0) c.pass.invariant.out c.turn.new.self.me
    c.turn.ensures.2 c.take_sleepers-woken.new.seat.me c.take_sleepers-woken.result c.take_sleepers-woken.ensures.view
    c.take_sleepers-woken.ensures.out c.turn-2.new.self.me c.turn-2.ensures.2)) refl

pub returns-clause-opens : goal.returns-clause-opens
returns-clause-opens c =
    subst (λ (z : Floor Description × Pass Knowledge). OpensSleepers z.0.description c.args.l.0 (word_of c.args.seen)
    z.1.view c.turn-2.new.self.me.0) (λ i. (c.self.view_is i, c.pass.view_is i))
    (call_opens c.self.inside.board.shared.key c.pass.inside.seat.me c.open_word-found.new.seat.me c.args.l.0
    c.args.seen c.open_word-found.result c.in_default-Some.side
    (side_told c.self.inside.board.shared.key c.args.l.0 c.kind.result (word_of c.args.seen) c.opened.result.1
    c.in_default-Some.side c.opened.ensures.side c.in_default-Some.is-1 c.requires.opens
    (c.kind.ensures ∙ kind_inside _ _ _ _ c.self.view_is c.pass.view_is c.args.l.0))
    c.open_word-found.ensures.told c.if-found-seen.false c.chain_slot-at.result
    (c.chain_slot-at.ensures.place ∙ place_inside _ _ _ _ c.self.view_is c.pass.view_is c.args.l.0)
    c.pass.invariant.out c.turn.new.self.me c.turn.ensures.2
    c.take_sleepers-woken.new.seat.me c.take_sleepers-woken.result c.take_sleepers-woken.ensures.view
    c.take_sleepers-woken.ensures.out c.turn-2.new.self.me c.turn-2.ensures.2)
