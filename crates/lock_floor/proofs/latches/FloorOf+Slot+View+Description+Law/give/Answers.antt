use Rattle.lock_floor.proofs.Names.{Some, [], refl, sym, ap, subst, Me, rest, GivesItem, Item, Description, Slot}
use Rattle.lock_floor.proofs.Names.{slot_of, MayMake, Makes, Knowledge, seeing, Floor, Pass, gave}
use Rattle.std.proofs.Common.{◌≡◌, ◌∷◌, ◌∙◌}
use Rattle.lock_floor.proofs.Taking.{give_allowed}
use Rattle.lock_floor.proofs.Tied.{of_floor_still, tied_given}
use Rattle.lock_floor.proofs.latches.FloorOf+Slot+View+Description+Law.give.Goals as goal

pub give_latch-requires-clause-may : goal.give_latch-requires-clause-may
give_latch-requires-clause-may c =
    let j = c.args.slot in
    let me : Me Slot Knowledge = c.pass.inside.seat.me in
    let may = subst (λ (z : Floor Description × Pass Knowledge). (i : Item) × (slot_of z.0.description i ≡ Some j)
    × MayMake z.0.description z.1.view (λ s. Unit {0}) (GivesItem z.1.view.thread i ∷ []))
    (λ i. (sym c.self.view_is i, sym c.pass.view_is i)) c.requires.may in
    let last = subst (λ (p : Pass Knowledge). (x : Slot) × (p.view.out ≡ (j, x) ∷ rest p.view.out)) (sym c.pass.view_is)
    c.requires.last in
    give_allowed c.self.inside.board.shared.key me c.pass.invariant.role may.0 j may.1 last.0 c.pass.invariant.out
    last.1 c.self.inside.board.shared.table_id.slots c.pass.inside.seat.id may.2

-- the item of the place, on the floor as it is inside
item : (c : goal.After-give_latch) → (i : Item) × (slot_of c.self.inside.board.shared.key i ≡ Some c.args.slot)
item c = (
  c.requires.may.0,
  subst (λ (f : Floor Description). slot_of f.description c.requires.may.0 ≡ Some c.args.slot)
      (sym c.self.view_is) c.requires.may.1,
)

behind_is : (c : goal.After-give_latch)
    → c.give_latch.new.seat.me ≡
    (seeing c.give_latch.new.seat.me.0.seen (gave c.pass.inside.seat.me.0 (item c).0), rest c.pass.inside.seat.me.1)
behind_is c = (c.give_latch.ensures.told (item c).0 (item c).1).0

pub invariant_of-pass : goal.invariant_of-pass
invariant_of-pass c =
    tied_given c.pass.inside.who.0 c.pass.inside.held c.pass.inside.marked c.pass.inside.log c.pass.inside.finished
    c.pass.inside.seat.me c.give_latch.new.seat.me (item c).0
    (ap (λ (p : Pass Knowledge). p.finished) c.pass.view_is ∙ c.requires.own.unfinished) c.pass.invariant (behind_is c)

pub returns-clause-own : goal.returns-clause-own
returns-clause-own c =
    of_floor_still _ _ _ _ c.pass.view_is c.requires.own c.give_latch.ensures.own
    (ap (λ (m : Me Slot Knowledge). m.0.description) (behind_is c)) refl

pub returns-clause-view : goal.returns-clause-view
returns-clause-view c i place =
    let at = subst (λ (f : Floor Description). slot_of f.description i ≡ Some c.args.slot) (sym c.self.view_is) place in
    ap (λ (m : Me Slot Knowledge). m.0) (c.give_latch.ensures.told i at).0
    ∙ ap (λ (p : Pass Knowledge). seeing c.give_latch.new.seat.me.0.seen (gave p.view i)) c.pass.view_is

pub returns-clause-step : goal.returns-clause-step
returns-clause-step c i place =
    let at = subst (λ (f : Floor Description). slot_of f.description i ≡ Some c.args.slot) (sym c.self.view_is) place in
    subst (λ (z : Floor Description × Pass Knowledge). Makes z.0.description (GivesItem z.1.view.thread i ∷ []) z.1.view
    c.give_latch.new.seat.me.0) (λ i. (c.self.view_is i, c.pass.view_is i)) (c.give_latch.ensures.told i at).1
