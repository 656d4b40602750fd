use Rattle.lock_floor.proofs.Names.{ℕ, sym, subst, Holds, hold_in, LockNo, Excl, CellOf, MakesEach, event_of}
use Rattle.lock_floor.proofs.Names.{MakesEntry, with_item}
use Rattle.std.proofs.Common.{◌≡◌}
use Rattle.lock_floor.proofs.tables.FloorOf+Slot+View+Description+Law.edit.Goals as goal

pub edit_cell-requires-clause-cell : goal.edit_cell-requires-clause-cell
edit_cell-requires-clause-cell g c = c.in-Some.ensures.some.place

pub edit_cell-requires-clause-held : goal.edit_cell-requires-clause-held
edit_cell-requires-clause-held g c =
    subst (λ (k : LockNo). hold_in c.args.pass.now.view.share.held k.0 ≡ Holds Excl)
    (sym c.in-Some.ensures.some.its_lock) c.requires.held

pub unreachable-requires : goal.unreachable-requires
unreachable-requires g c = c.in-None.ensures.none c.requires.named

pub returns-clause-entry : goal.returns-clause-entry
returns-clause-entry g c =
    let at = c.in-Some.ensures.some in
    subst (λ (z : LockNo × ℕ). MakesEntry c.args.self.now.description (event_of z.0 z.1 c.args.change)
    c.args.pass.now.view.share.held c.args.pass.now.view c.edit_cell.new.pass.view) (λ i. (at.its_lock i, at.its_key i))
    c.edit_cell.ensures.entry

pub returns-clause-steps : goal.returns-clause-steps
returns-clause-steps g c =
    let at = c.in-Some.ensures.some in
    subst (λ (z : LockNo × ℕ). MakesEach c.args.self.now.description
    (with_item c.args.pass.now.view.thread (CellOf z.0.0 z.1) (event_of z.0 z.1 c.args.change))
    c.args.pass.now.view c.edit_cell.new.pass.view) (λ i. (at.its_lock i, at.its_key i)) c.edit_cell.ensures.steps
