use Rattle.lock_floor.proofs.Names
use Names.{ℕ, suc, eqb, eq-eqb, true, false, Some, None, [], refl, sym, ap, subst, eqb-true, Me, Allows, TakesItem}
use Names.{Item, item_with, Description, Slot, slot_of, spot, latch_line, FloorHolds, MayMake, Knowledge, seeing, Floor}
use Names.{Pass, IsTied, FindsOut, Takes}
use Rattle.std.proofs.Common.{◌≡◌, ◌≢◌, ◌∷◌, ◌∙◌}
use prog.Atomic.{either}
use Rattle.lock_floor.proofs.Taking.{Taken, take_allowed}
use Rattle.lock_floor.proofs.Tied.{of_floor_still, tied_taken}
use Rattle.lock_floor.proofs.latches.FloorOf+Slot+View+Description+Law.try_take.Goals as goal

pub take_latch-requires-clause-may : goal.take_latch-requires-clause-may
take_latch-requires-clause-may c =
    let j = c.args.slot in
    let key = c.self.inside.board.shared.key in
    let me : Me Slot Knowledge = c.pass.inside.seat.me in
    let slots = c.self.inside.board.shared.table_id.slots in
    let may = subst (λ (z : Floor Description × Pass Knowledge). (i : Item) × (slot_of z.0.description i ≡ Some j)
    × MayMake z.0.description z.1.view (λ s. item_with s i ≡ None) (TakesItem z.1.view.thread i ∷ []))
    (λ i. (sym c.self.view_is i, sym c.pass.view_is i)) c.requires.may in
    subst (λ n. Allows (FloorHolds key) slots c.pass.inside.seat.id me (spot (latch_line j))
    (λ m. either (eqb m 0) (suc n) m) (Taken key j me)) (sym c.pass.invariant.thread)
    (take_allowed key me c.pass.invariant.role may.0 j may.1 slots c.pass.inside.seat.id may.2)

-- the item of the place, on the floor as it is inside
item : (c : goal.After-take_latch) → (i : Item) × (slot_of c.self.inside.board.shared.key i ≡ Some c.args.slot)
item c = (
  c.requires.may.0,
  subst (λ (f : Floor Description). slot_of f.description c.requires.may.0 ≡ Some c.args.slot)
      (sym c.self.view_is) c.requires.may.1,
)

tied : (c : goal.After-take_latch)
    → IsTied c.pass.inside.who.0 c.pass.inside.held c.pass.inside.marked c.pass.inside.log c.pass.inside.finished
    c.take_latch.new.seat.me × (c.take_latch.new.seat.me.0.description ≡ c.pass.inside.seat.me.0.description)
tied c = tied_taken c.pass.inside.who.0 c.pass.inside.held c.pass.inside.marked c.pass.inside.log c.pass.inside.finished
    c.pass.inside.seat.me c.take_latch.new.seat.me c.self.inside.board.shared.key (item c).0 c.args.slot
    c.take_latch.result (item c).1 (ap (λ (p : Pass Knowledge). p.finished) c.pass.view_is ∙ c.requires.own.unfinished)
    c.pass.invariant c.take_latch.ensures.told

pub invariant_of-pass : goal.invariant_of-pass
invariant_of-pass c = (tied c).0

pub returns-clause-own : goal.returns-clause-own
returns-clause-own c =
    of_floor_still _ _ _ _ c.pass.view_is c.requires.own c.take_latch.ensures.own ((tied c).1) refl

pub returns-clause-out : goal.returns-clause-out
returns-clause-out c hit i place =
    let j = c.args.slot in
    let at = subst (λ (f : Floor Description). slot_of f.description i ≡ Some j) (sym c.self.view_is) place in
    let taken = c.take_latch.ensures.told.0 (eqb-true c.take_latch.result 0 hit) i at in
    subst (λ (z : Floor Description × Pass Knowledge). Takes z.0.description i j z.1.view c.take_latch.new.seat.me.0)
    (λ i. (c.self.view_is i, c.pass.view_is i)) taken.0

-- a try that failed found another number than 0
found_other : (n : ℕ) → eqb n 0 ≡ false → n ≢ 0
found_other n missed e = absurd (let z : true ≡ false = sym (eq-eqb n 0 e) ∙ missed in cc)

pub returns-clause-left : goal.returns-clause-left
returns-clause-left c missed =
    ap (λ (m : Me Slot Knowledge). m.0) (c.take_latch.ensures.told.1 (found_other c.take_latch.result missed)).0
    ∙ ap (λ (p : Pass Knowledge). seeing c.take_latch.new.seat.me.0.seen p.view) c.pass.view_is

pub returns-clause-elsewhere : goal.returns-clause-elsewhere
returns-clause-elsewhere c missed i place =
    let at = subst (λ (f : Floor Description). slot_of f.description i ≡ Some c.args.slot) (sym c.self.view_is) place in
    subst (λ (z : Floor Description × Pass Knowledge). FindsOut z.0.description i z.1.view c.take_latch.new.seat.me.0)
    (λ i. (c.self.view_is i, c.pass.view_is i))
    ((c.take_latch.ensures.told.1 (found_other c.take_latch.result missed)).1 i at)
