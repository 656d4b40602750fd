use Rattle.lock_floor.proofs.Names
use Names.{ℕ, length, refl, sym, ap, subst, Me, lock_queue, Word, word_of, Mode, Knowledge, seeing, Description, Slot}
use Names.{Floor, Pass, MayEnterAsleep, EntersAsleep, looked, chain_place}
use Rattle.std.proofs.Common.{◌≡◌, ◌<◌, ◌∙◌}
use Rattle.lock_floor.proofs.Looking.{Looked, may_look_inside, look_outside}
use Rattle.lock_floor.proofs.SleepEnterCall.{before, its_work, call_tied, call_enters}
use Rattle.lock_floor.proofs.SleepEnterStep.{enter_allowed}
use Rattle.lock_floor.proofs.Tied.{of_floor_still, tied_looked}
use Rattle.lock_floor.proofs.sleeping.FloorOf+Slot+View+Description+Law.enter_sleep.Goals as goal

-- what the call needs, on the floor and the pass as they are inside
module _ (f g : Floor Description) (p q : Pass Knowledge) (same_floor : f ≡ g) (same_pass : p ≡ q) where
  may_inside : (l : ℕ) (mode : Mode) (w : Word) → MayEnterAsleep g.description l mode w q.view
      → MayEnterAsleep f.description l mode w p.view
  may_inside l mode w = subst (λ (z : Floor Description × Pass Knowledge). MayEnterAsleep z.0.description l mode w
      z.1.view) (λ i. (sym same_floor i, sym same_pass i))

  place_inside : (l : ℕ) → chain_place g.description (lock_queue l) ≡ chain_place f.description (lock_queue l)
  place_inside l = ap (λ (k : Floor Description). chain_place k.description (lock_queue l)) (sym same_floor)

pub enter_word-found-requires-clause-may : goal.enter_word-found-requires-clause-may
enter_word-found-requires-clause-may c new says =
    let l = c.args.l.0 in
    let low = subst (λ (f : Floor Description). l < length f.description.locks) (sym c.self.view_is) c.requires.lock in
    let may = may_inside _ _ _ _ c.self.view_is c.pass.view_is l c.args.mode (word_of c.args.seen) c.requires.may in
    let may_look = may_look_inside _ _ _ _ c.self.view_is c.pass.view_is l c.requires.may_look in
    enter_allowed c.self.inside.board.shared.key c.pass.inside.seat.me c.pass.invariant.role
    c.self.inside.board.shared.table_id.slots c.pass.inside.seat.id c.args.seen new l c.args.mode low may says may_look

-- the word was another
module _ (c : goal.Then-found-seen) where
  abbrev me : Me Slot Knowledge
  me = c.pass.inside.seat.me

  abbrev behind : Me Slot Knowledge
  behind = c.enter_word-found.new.seat.me

  its_look : Looked c.self.inside.board.shared.key c.args.l.0 me c.enter_word-found.result behind
  its_look = c.enter_word-found.ensures.told.1 c.if-found-seen.true

  its_view : behind.0 ≡ seeing behind.0.seen (looked me.0 c.args.l.0 (word_of c.enter_word-found.result))
  its_view = ap (λ (m : Me Slot Knowledge). m.0) its_look.1

pub invariant_of-pass : goal.invariant_of-pass
invariant_of-pass c =
    tied_looked c.pass.inside.who.0 c.pass.inside.held c.pass.inside.marked c.pass.inside.log c.pass.inside.finished
    c.pass.inside.seat.me c.enter_word-found.new.seat.me c.self.inside.board.shared.key c.args.l.0
    c.enter_word-found.result (ap (λ (p : Pass Knowledge). p.finished) c.pass.view_is ∙ c.requires.own.unfinished)
    c.pass.invariant (its_look c)

pub returns-then-found-seen-clause-own : goal.returns-then-found-seen-clause-own
returns-then-found-seen-clause-own c =
    of_floor_still _ _ _ _ c.pass.view_is c.requires.own c.enter_word-found.ensures.own
    (ap (λ (w : Knowledge). w.description) (its_view c)) refl

pub returns-then-found-seen-clause-found : goal.returns-then-found-seen-clause-found
returns-then-found-seen-clause-found c = (c.if-found-seen.true, (its_look c).0)

pub returns-then-found-seen-clause-looked : goal.returns-then-found-seen-clause-looked
returns-then-found-seen-clause-looked c =
    its_view c ∙ ap (λ (p : Pass Knowledge). seeing c.enter_word-found.new.seat.me.0.seen
    (looked p.view c.args.l.0 (word_of c.enter_word-found.result))) c.pass.view_is

pub returns-then-found-seen-clause-look : goal.returns-then-found-seen-clause-look
returns-then-found-seen-clause-look c =
    look_outside _ _ _ _ c.self.view_is c.pass.view_is c.args.l.0 c.enter_word-found.new.seat.me.0 (its_look c).2

-- it was the one that was seen
pub lie_down-requires-clause-out : goal.lie_down-requires-clause-out
lie_down-requires-clause-out c =
    before c.self.inside.board.shared.key c.pass.inside.seat.me c.enter_word-found.new.seat.me c.args.l.0 c.args.mode
    c.args.seen c.enter_word-found.result c.enter_word-found.ensures.told c.if-found-seen.false c.from-own.result
    c.chain_slot-at.result (c.from-own.ensures ∙ c.pass.invariant.thread)
    (c.chain_slot-at.ensures.place ∙ place_inside _ _ _ _ c.self.view_is c.pass.view_is c.args.l.0)
    c.pass.invariant.out c.side_of.result c.side_of.ensures

pub invariant_of-pass-2 : goal.invariant_of-pass-2
invariant_of-pass-2 c =
    call_tied c.self.inside.board.shared.key c.pass.inside.seat.me c.enter_word-found.new.seat.me c.args.l.0 c.args.mode
    c.args.seen c.enter_word-found.result c.enter_word-found.ensures.told c.if-found-seen.false c.from-own.result
    c.chain_slot-at.result (c.from-own.ensures ∙ c.pass.invariant.thread)
    (c.chain_slot-at.ensures.place ∙ place_inside _ _ _ _ c.self.view_is c.pass.view_is c.args.l.0)
    c.pass.invariant.out c.side_of.result c.side_of.ensures c.lie_down.new.seat.me c.lie_down.ensures.view
    c.lie_down.ensures.out c.pass.inside.who.0 c.pass.inside.held c.pass.inside.marked c.pass.inside.log
    c.pass.inside.finished (ap (λ (p : Pass Knowledge). p.finished) c.pass.view_is ∙ c.requires.own.unfinished)
    c.pass.invariant

pub returns-clause-own : goal.returns-clause-own
returns-clause-own c =
    of_floor_still _ _ _ _ c.pass.view_is c.requires.own (c.lie_down.ensures.own ∙ c.enter_word-found.ensures.own)
    (ap (λ (w : Knowledge). w.description) (its_work c.self.inside.board.shared.key c.pass.inside.seat.me
    c.enter_word-found.new.seat.me c.args.l.0 c.args.mode c.args.seen c.enter_word-found.result
    c.enter_word-found.ensures.told c.if-found-seen.false c.from-own.result c.chain_slot-at.result (c.from-own.ensures
    ∙ c.pass.invariant.thread) (c.chain_slot-at.ensures.place ∙ place_inside _ _ _ _ c.self.view_is c.pass.view_is
    c.args.l.0) c.pass.invariant.out c.side_of.result c.side_of.ensures c.lie_down.new.seat.me c.lie_down.ensures.view
    c.lie_down.ensures.out).view) refl

pub returns-clause-enters : goal.returns-clause-enters
returns-clause-enters c =
    subst (λ (z : Floor Description × Pass Knowledge). EntersAsleep z.0.description c.args.l.0 c.args.mode z.1.view
    c.lie_down.new.seat.me.0) (λ i. (c.self.view_is i, c.pass.view_is i))
    (call_enters c.self.inside.board.shared.key c.pass.inside.seat.me c.enter_word-found.new.seat.me c.args.l.0
    c.args.mode c.args.seen c.enter_word-found.result c.enter_word-found.ensures.told c.if-found-seen.false
    c.from-own.result c.chain_slot-at.result (c.from-own.ensures ∙ c.pass.invariant.thread)
    (c.chain_slot-at.ensures.place ∙ place_inside _ _ _ _ c.self.view_is c.pass.view_is c.args.l.0)
    c.pass.invariant.out c.side_of.result c.side_of.ensures c.lie_down.new.seat.me c.lie_down.ensures.view
    c.lie_down.ensures.out)
