use Rattle.lock_floor.proofs.Names
use Names.{ℕ, Option, Some, is_some, [], List, length, refl, sym, ap, subst, with_value, Global, Box, Me, word_of}
use Names.{owner_of, Description, QueueName, lock_queue, side_of, waiter_of, record_entered, chain_entered, Enters}
use Names.{ThreadRec, Turnstile, Slot, Makes, Knowledge, seeing, Floor, Pass, looked, chain_place, both_out}
use Names.{out_entered, entered, Mode, Record, Turnstiles}
use Rattle.std.proofs.Common.{◌≡◌, ◌<◌, ◌∷◌, ◌∙◌}
use Rattle.lock_floor.proofs.BothChanged.{Worked, out_before, worked}
use Rattle.lock_floor.proofs.Looking.{Looked, may_look_inside, look_outside}
use Rattle.lock_floor.proofs.Entering.{Need, enter_any, told_missed, told_entered}
use Rattle.lock_floor.proofs.Tied.{of_floor_still, tied_on, tied_looked}
use Rattle.lock_floor.proofs.waits.FloorOf+Slot+View+Description+Law.enter.Goals as goal

-- what the call needs, on the floor and the pass as they are inside
module _ (f g : Floor Description) (p q : Pass Knowledge) (same_floor : f ≡ g) (same_pass : p ≡ q) where
  need_inside : (l : ℕ) (mode : Mode) (seen : ℕ) → Need g.description q.view l mode seen
      → Need f.description p.view l mode seen
  need_inside l mode seen =
      subst (λ (z : Floor Description × Pass Knowledge). Need z.0.description z.1.view l mode seen)
      (λ i. (sym same_floor i, sym same_pass i))

pub enter_word-found-requires-clause-may : goal.enter_word-found-requires-clause-may
enter_word-found-requires-clause-may c new says =
    let l = c.args.l.0 in
    let low = subst (λ (f : Floor Description). l < length f.description.locks) (sym c.self.view_is) c.requires.lock in
    let need = need_inside _ _ _ _ c.self.view_is c.pass.view_is l c.args.mode c.args.seen c.requires.out in
    let may_look = may_look_inside _ _ _ _ c.self.view_is c.pass.view_is l c.requires.may_look in
    enter_any c.self.inside.board.shared.key c.pass.inside.seat.me c.pass.invariant.role
    c.self.inside.board.shared.table_id.slots c.pass.inside.seat.id c.args.seen new l c.args.mode need.0 need.1
    need.2 low need.3 need.4 says need.5 may_look

-- the word was another
module _ (c : goal.Then-found-seen) where
  its_look : Looked c.self.inside.board.shared.key c.args.l.0 c.pass.inside.seat.me c.enter_word-found.result
      c.enter_word-found.new.seat.me
  its_look = told_missed c.self.inside.board.shared.key c.args.l.0 c.args.mode c.args.seen c.enter_word-found.result
      c.pass.inside.seat.me c.enter_word-found.new.seat.me
      (need_inside _ _ _ _ c.self.view_is c.pass.view_is c.args.l.0 c.args.mode c.args.seen c.requires.out)
      c.enter_word-found.ensures.told c.if-found-seen.true

  its_view : c.enter_word-found.new.seat.me.0 ≡ seeing c.enter_word-found.new.seat.me.0.seen
      (looked c.pass.inside.seat.me.0 c.args.l.0 (word_of c.enter_word-found.result))
  its_view = ap (λ (m : Me Slot Knowledge). m.0) its_look.1

pub invariant_of-pass : goal.invariant_of-pass
invariant_of-pass c =
    tied_looked c.pass.inside.who.0 c.pass.inside.held c.pass.inside.marked c.pass.inside.log c.pass.inside.finished
    c.pass.inside.seat.me c.enter_word-found.new.seat.me c.self.inside.board.shared.key c.args.l.0
    c.enter_word-found.result (ap (λ (p : Pass Knowledge). p.finished) c.pass.view_is ∙ c.requires.own.unfinished)
    c.pass.invariant (its_look c)

pub returns-then-found-seen-clause-own : goal.returns-then-found-seen-clause-own
returns-then-found-seen-clause-own c =
    of_floor_still _ _ _ _ c.pass.view_is c.requires.own c.enter_word-found.ensures.own
    (ap (λ (w : Knowledge). w.description) (its_view c)) refl

pub returns-then-found-seen-clause-found : goal.returns-then-found-seen-clause-found
returns-then-found-seen-clause-found c = (c.if-found-seen.true, (its_look c).0)

pub returns-then-found-seen-clause-looked : goal.returns-then-found-seen-clause-looked
returns-then-found-seen-clause-looked c = its_view c
    ∙ ap (λ (p : Pass Knowledge). seeing c.enter_word-found.new.seat.me.0.seen
    (looked p.view c.args.l.0 (word_of c.enter_word-found.result))) c.pass.view_is

pub returns-then-found-seen-clause-look : goal.returns-then-found-seen-clause-look
returns-then-found-seen-clause-look c =
    look_outside _ _ _ _ c.self.view_is c.pass.view_is c.args.l.0 c.enter_word-found.new.seat.me.0 (its_look c).2

pub stand-requires-clause-out : goal.stand-requires-clause-out
stand-requires-clause-out c =
    let floor = c.self.inside.board.shared.key in
    let need = need_inside _ _ _ _ c.self.view_is c.pass.view_is c.args.l.0 c.args.mode c.args.seen c.requires.out in
    let told = told_entered floor c.args.l.0 c.args.mode c.args.seen c.enter_word-found.result c.pass.inside.seat.me
    c.enter_word-found.new.seat.me need c.enter_word-found.ensures.told c.if-found-seen.false in
    let out = ap (λ (m : Me Slot Knowledge). m.1) told.0 ∙ c.pass.invariant.out ∙ need.3 in
    let own = sym c.pass.invariant.thread ∙ sym c.from-own.ensures in
    let at = ap (λ (f : Floor Description). chain_place f.description (lock_queue c.args.l.0)) c.self.view_is
    ∙ sym c.chain_slot-chain.ensures.place in
    (need.1, need.2, out ∙ (λ i. (own i, Record need.1) ∷ (at i, Turnstiles need.2) ∷ []), ap is_some need.4, told.2)

module _ (c : goal.After-stand) where
  abbrev key : Description
  key = c.self.inside.board.shared.key

  abbrev old : Me Slot Knowledge
  old = c.pass.inside.seat.me

  its_need : Need key old.0 c.args.l.0 c.args.mode c.args.seen
  its_need = need_inside _ _ _ _ c.self.view_is c.pass.view_is c.args.l.0 c.args.mode c.args.seen c.requires.out

  abbrev owner : Option ℕ
  owner = owner_of (word_of c.args.seen).holder

  abbrev then : Knowledge
  then = entered old.0 c.args.l.0 owner
      (out_entered key old.0.thread c.args.l.0 c.args.mode its_need.0 owner its_need.1 its_need.2)

  its_work : Worked key (Enters old.0.thread c.args.l.0 c.args.mode its_need.0 ∷ []) old c.stand.new.seat.me then
  its_work =
      let told = told_entered key c.args.l.0 c.args.mode c.args.seen c.enter_word-found.result old
      c.enter_word-found.new.seat.me its_need c.enter_word-found.ensures.told c.if-found-seen.false in
      let at_is = c.chain_slot-chain.ensures.place
      ∙ sym (ap (λ (f : Floor Description). chain_place f.description (lock_queue c.args.l.0)) c.self.view_is) in
      let q : QueueName = lock_queue c.args.l.0 in
      let before = out_before key q old c.enter_word-found.new.seat.me then told.0 c.pass.invariant.out its_need.1
      (Turnstiles its_need.2) its_need.3 c.from-own.result c.chain_slot-chain.result
      (c.from-own.ensures ∙ c.pass.invariant.thread) at_is in
      worked key q old c.enter_word-found.new.seat.me then told.0 c.pass.invariant.out its_need.1
      (Turnstiles its_need.2) its_need.3 c.from-own.result c.chain_slot-chain.result
      (c.from-own.ensures ∙ c.pass.invariant.thread) at_is
      (Enters old.0.thread c.args.l.0 c.args.mode its_need.0 ∷ []) c.stand.new.seat.me
      (with_value its_need.1 (record_entered c.args.l.0 its_need.1.value))
      (Turnstiles
      (chain_entered c.args.l.0 (side_of c.args.mode) its_need.0 owner (waiter_of its_need.1.value) its_need.2)) told.1
      c.stand.ensures.view
      (c.stand.ensures.out its_need.1 its_need.2 its_need.0 its_need.4 before
      ∙ (λ i. (c.from-own.result, Record (with_value its_need.1 (record_entered c.args.l.0 its_need.1.value))) ∷ (
        c.chain_slot-chain.result,
        Turnstiles
            (chain_entered c.args.l.0 (c.side_of.ensures i) its_need.0 (c.owner_of-owner.ensures i)
            (waiter_of its_need.1.value) its_need.2),
      ) ∷ [])) refl

pub invariant_of-pass-2 : goal.invariant_of-pass-2
invariant_of-pass-2 c =
    tied_on c.pass.inside.who.0 c.pass.inside.held c.pass.inside.marked c.pass.inside.log c.pass.inside.finished
    c.pass.inside.seat.me c.stand.new.seat.me (then c)
    (ap (λ (p : Pass Knowledge). p.finished) c.pass.view_is ∙ c.requires.own.unfinished) c.pass.invariant
    (its_work c).view (its_work c).out refl refl refl

pub returns-clause-own : goal.returns-clause-own
returns-clause-own c =
    of_floor_still _ _ _ _ c.pass.view_is c.requires.own (c.stand.ensures.own ∙ c.enter_word-found.ensures.own)
    (ap (λ (w : Knowledge). w.description) (its_work c).view) refl

-- what is told of a pass that entered
abbrev Told : Description → Knowledge → Knowledge → ℕ → Mode → ℕ → Type 0
Told floor v w l mode seen =
    (x : ℕ) × (b : Box ThreadRec Global) × (chain : List (QueueName × Turnstile))
    × (v.out ≡ both_out floor v.thread l b chain) × (b.value.turnstile ≡ Some x)
    × (w ≡ seeing w.seen (entered v l (owner_of (word_of seen).holder)
    (out_entered floor v.thread l mode x (owner_of (word_of seen).holder) b chain)))
    × Makes floor (Enters v.thread l mode x ∷ []) v w

pub returns-clause-step : goal.returns-clause-step
returns-clause-step c =
    let need = its_need c in
    subst (λ (z : Floor Description × Pass Knowledge). Told z.0.description z.1.view c.stand.new.seat.me.0 c.args.l.0
    c.args.mode c.args.seen) (λ i. (c.self.view_is i, c.pass.view_is i))
    (need.0, need.1, need.2, need.3, need.4, (its_work c).view, (its_work c).step)
