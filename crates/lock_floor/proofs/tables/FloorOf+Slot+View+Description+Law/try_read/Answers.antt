use Rattle.lock_floor.proofs.Names.{[], refl, sym, ap, subst, Got, Stamps, CellOf, MayMake, Knowledge, Pass, Takes}
use Rattle.std.proofs.Common.{◌≤◌, ◌∷◌, ◌∙◌}
use Rattle.lock_floor.proofs.AboutCells.{may_take_cell, may_tell, cell_out}
use Rattle.lock_floor.proofs.Resting.{MayGiveBack, Used, gives_back, uses}
use Rattle.lock_floor.proofs.Tries.{ready_still}
use Rattle.lock_floor.proofs.tables.FloorOf+Slot+View+Description+Law.try_read.Goals as goal

pub try_take-requires-clause-may : goal.try_take-requires-clause-may
try_take-requires-clause-may c =
    let place = c.requires.cell in (
      CellOf c.args.cell.l.0 c.args.cell.key,
      place,
      may_take_cell c.args.self.now.description c.args.pass.now.view
          c.requires.ready.rest c.args.cell.l c.args.cell.key c.args.cell.slot place c.requires.held,
    )

pub value-found-requires-clause-last : goal.value-found-requires-clause-last
value-found-requires-clause-last c =
    let cell = CellOf c.args.cell.l.0 c.args.cell.key in
    let place = c.requires.cell in
    cell_out c.args.self.now.description c.args.pass.now.view c.requires.ready.rest c.args.cell.l c.args.cell.key
    c.args.cell.slot place c.try_take.new.pass.view (c.try_take.ensures.out c.if-not-try_take.false cell place)

pub stamp-requires-clause-room : goal.stamp-requires-clause-room
stamp-requires-clause-room c =
    let cell = CellOf c.args.cell.l.0 c.args.cell.key in
    let taken = c.try_take.ensures.out c.if-not-try_take.false cell c.requires.cell in
    subst (λ (w : Knowledge). 1 ≤ w.spare)
    (sym (ap (λ (p : Pass Knowledge). p.view) c.value-found.ensures.same ∙ taken.view)) c.requires.room

pub stamp-requires-clause-may : goal.stamp-requires-clause-may
stamp-requires-clause-may c =
    let floor = c.args.self.now.description in
    let place = c.requires.cell in
    let found = c.value-found.result in
    let taken = c.try_take.ensures.out c.if-not-try_take.false (CellOf c.args.cell.l.0 c.args.cell.key) place in
    subst (λ (p : Pass Knowledge). MayMake floor p.view (λ s. Unit {0})
    (Stamps p.view.thread (Got c.args.cell.l c.args.cell.key found) ∷ [])) (sym c.value-found.ensures.same)
    (may_tell floor c.args.pass.now.view c.requires.ready.rest c.args.cell.l c.args.cell.key c.args.cell.slot place
    c.try_take.new.pass.view taken found c.value-found.ensures.value c.requires.held)

gives : (c : goal.After-give-arg-1) → MayGiveBack c.args.self.now.description c.args.cell.slot c.stamp.new.pass.view
gives c =
    let floor = c.args.self.now.description in
    let v : Knowledge = c.args.pass.now.view in
    let cell = CellOf c.args.cell.l.0 c.args.cell.key in
    let j = c.args.cell.slot in
    let taken = subst (λ (p : Pass Knowledge). Takes floor cell j v p.view) (sym c.value-found.ensures.same)
    (c.try_take.ensures.out c.if-not-try_take.false cell c.requires.cell) in
    gives_back floor cell j (Got c.args.cell.l c.args.cell.key c.value-found.result) v c.value-found.new.pass.view
    c.stamp.new.pass.view c.stamp.result taken c.requires.cell refl c.requires.ready.rest c.stamp.ensures.view

pub give-requires-clause-last : goal.give-requires-clause-last
give-requires-clause-last c = (gives c).last

pub give-requires-clause-may : goal.give-requires-clause-may
give-requires-clause-may c = (gives c).may

used : (c : goal.After-give)
    → Used c.args.self.now (CellOf c.args.cell.l.0 c.args.cell.key)
    (Got c.args.cell.l c.args.cell.key c.value-found.result) c.args.pass.now c.give.new.pass
used c =
    let f = c.args.self.now in
    let cell = CellOf c.args.cell.l.0 c.args.cell.key in
    let j = c.args.cell.slot in
    let place = c.requires.cell in
    let taken = subst (λ (p : Pass Knowledge). Takes f.description cell j c.args.pass.now.view p.view)
    (sym c.value-found.ensures.same) (c.try_take.ensures.out c.if-not-try_take.false cell place) in
    uses f cell j (Got c.args.cell.l c.args.cell.key c.value-found.result) refl refl c.args.pass.now
    c.value-found.new.pass c.stamp.new.pass c.give.new.pass c.stamp.result c.requires.ready c.requires.room taken
    c.stamp.ensures.view c.stamp.ensures.step c.give.ensures.own (c.give.ensures.view cell place)
    (c.give.ensures.step cell place)

pub returns-clause-ready : goal.returns-clause-ready
returns-clause-ready c = (used c).ready

pub returns-clause-entry : goal.returns-clause-entry
returns-clause-entry c = (used c).entry

pub returns-clause-steps : goal.returns-clause-steps
returns-clause-steps c = (used c).steps

pub returns-then-not-try_take-clause-ready : goal.returns-then-not-try_take-clause-ready
returns-then-not-try_take-clause-ready c =
    ready_still c.args.self.now c.args.pass.now c.try_take.new.pass c.requires.ready c.try_take.ensures.own
    (c.try_take.ensures.left c.if-not-try_take.true)

pub returns-then-not-try_take-clause-left : goal.returns-then-not-try_take-clause-left
returns-then-not-try_take-clause-left c = c.try_take.ensures.left c.if-not-try_take.true

pub returns-then-not-try_take-clause-elsewhere : goal.returns-then-not-try_take-clause-elsewhere
returns-then-not-try_take-clause-elsewhere c =
    c.try_take.ensures.elsewhere c.if-not-try_take.true (CellOf c.args.cell.l.0 c.args.cell.key)
    c.requires.cell
