use Rattle.lock_floor.proofs.Names
use Names.{[], refl, sym, subst, NotHeld, Holds, hold_in, Event, Excl, Stamps, CellOf, config_in, MayMake, Makes}
use Names.{Knowledge, seeing, event_of, IsChangeOf, stamped_change, entry_by}
use Rattle.std.proofs.Common.{◌≡◌, ◌≢◌, ◌≤◌, ◌∷◌, ◌∙◌}
use Rattle.lock_floor.proofs.AboutCells.{change_of, change_is_quiet, may_take_cell, may_change}
use Rattle.lock_floor.proofs.Resting.{MayGiveBack, Used, gives_changed, uses_change, taken_out}
use Rattle.lock_floor.proofs.Tries.{ready_still}
use Rattle.lock_floor.proofs.tables.FloorOf+Slot+View+Description+Law.try_edit.Goals as goal

pub try_take-requires-clause-may : goal.try_take-requires-clause-may
try_take-requires-clause-may c =
    let v : Knowledge = c.args.pass.now.view in
    let place = c.requires.cell in
    let held : hold_in v.share.held c.args.cell.l.0 ≢ NotHeld = λ e. absurd
    (let z : NotHeld ≡ Holds Excl = sym e ∙ c.requires.held in cc) in (
      CellOf c.args.cell.l.0 c.args.cell.key,
      place,
      may_take_cell c.args.self.now.description v c.requires.ready.rest c.args.cell.l
          c.args.cell.key c.args.cell.slot place held,
    )

pub stamp_change-requires-clause-room : goal.stamp_change-requires-clause-room
stamp_change-requires-clause-room c =
    let cell = CellOf c.args.cell.l.0 c.args.cell.key in
    let taken = c.try_take.ensures.out c.if-not-try_take.false cell c.requires.cell in
    subst (λ (w : Knowledge). 1 ≤ w.spare) (sym taken.view) c.requires.room

pub stamp_change-requires-clause-item : goal.stamp_change-requires-clause-item
stamp_change-requires-clause-item c =
    let cell = CellOf c.args.cell.l.0 c.args.cell.key in
    let t = c.try_take.new.pass.view.thread in
    let about = subst (λ (e : Event). IsChangeOf t e cell) (sym c.event.ensures)
    (change_of t c.args.cell.l c.args.cell.key c.args.change) in
    (cell, about, c.requires.cell)

pub stamp_change-requires-clause-last : goal.stamp_change-requires-clause-last
stamp_change-requires-clause-last c =
    let cell = CellOf c.args.cell.l.0 c.args.cell.key in
    let taken = c.try_take.ensures.out c.if-not-try_take.false cell c.requires.cell in (
      taken.value,
      taken_out c.args.self.now.description c.args.pass.now.view c.try_take.new.pass.view cell
          c.args.cell.slot taken,
    )

pub stamp_change-requires-clause-may : goal.stamp_change-requires-clause-may
stamp_change-requires-clause-may c =
    let floor = c.args.self.now.description in
    let a : Knowledge = c.try_take.new.pass.view in
    let place = c.requires.cell in
    let taken = c.try_take.ensures.out c.if-not-try_take.false (CellOf c.args.cell.l.0 c.args.cell.key) place in
    subst (λ (e : Event). MayMake floor a (λ s. Unit {0}) (Stamps a.thread e ∷ [])) (sym c.event.ensures)
    (may_change floor c.args.pass.now.view c.requires.ready.rest c.args.cell.l c.args.cell.key c.args.cell.slot place a
    taken c.args.change c.requires.held)

gives : (c : goal.After-give-arg-1)
    → MayGiveBack c.args.self.now.description c.args.cell.slot c.stamp_change.new.pass.view
gives c =
    let cell = CellOf c.args.cell.l.0 c.args.cell.key in
    gives_changed c.args.self.now.description cell c.args.cell.slot c.event.result c.args.pass.now.view
    c.try_take.new.pass.view c.stamp_change.new.pass.view c.stamp_change.result
    (c.try_take.ensures.out c.if-not-try_take.false cell c.requires.cell) c.requires.cell refl c.requires.ready.rest
    c.stamp_change.ensures.view

pub give-requires-clause-last : goal.give-requires-clause-last
give-requires-clause-last c = (gives c).last

pub give-requires-clause-may : goal.give-requires-clause-may
give-requires-clause-may c = (gives c).may

used : (c : goal.After-give)
    → Used c.args.self.now (CellOf c.args.cell.l.0 c.args.cell.key)
    (event_of c.args.cell.l c.args.cell.key c.args.change) c.args.pass.now c.give.new.pass
used c =
    let f = c.args.self.now in
    let cell = CellOf c.args.cell.l.0 c.args.cell.key in
    let e : Event = event_of c.args.cell.l c.args.cell.key c.args.change in
    let a = c.try_take.new.pass.view in
    let b = c.stamp_change.new.pass.view in
    let place = c.requires.cell in
    let view = subst (λ (x : Event). b ≡ seeing b.seen
    (stamped_change (config_in f.description) a (entry_by a.thread c.stamp_change.result x))) c.event.ensures
    c.stamp_change.ensures.view in
    let step = subst (λ (x : Event). Makes f.description (Stamps a.thread x ∷ []) a b) c.event.ensures
    c.stamp_change.ensures.step in
    uses_change f cell c.args.cell.slot e refl (change_is_quiet c.args.cell.l c.args.cell.key c.args.change)
    c.args.pass.now c.try_take.new.pass c.stamp_change.new.pass c.give.new.pass c.stamp_change.result c.requires.ready
    c.requires.room (c.try_take.ensures.out c.if-not-try_take.false cell place)
    view step c.give.ensures.own (c.give.ensures.view cell place) (c.give.ensures.step cell place)

pub returns-clause-ready : goal.returns-clause-ready
returns-clause-ready c = (used c).ready

pub returns-clause-entry : goal.returns-clause-entry
returns-clause-entry c = (used c).entry

pub returns-clause-steps : goal.returns-clause-steps
returns-clause-steps c = (used c).steps

pub returns-then-not-try_take-clause-ready : goal.returns-then-not-try_take-clause-ready
returns-then-not-try_take-clause-ready c =
    ready_still c.args.self.now c.args.pass.now c.try_take.new.pass c.requires.ready c.try_take.ensures.own
    (c.try_take.ensures.left c.if-not-try_take.true)

pub returns-then-not-try_take-clause-left : goal.returns-then-not-try_take-clause-left
returns-then-not-try_take-clause-left c = c.try_take.ensures.left c.if-not-try_take.true

pub returns-then-not-try_take-clause-elsewhere : goal.returns-then-not-try_take-clause-elsewhere
returns-then-not-try_take-clause-elsewhere c =
    c.try_take.ensures.elsewhere c.if-not-try_take.true (CellOf c.args.cell.l.0 c.args.cell.key)
    c.requires.cell
