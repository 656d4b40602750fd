use Rattle.lock_floor.proofs.Names.{ℕ, sym, subst, NotHeld, hold_in, Got, LockNo, CellOf, MakesEach, MakesEntry}
use Rattle.lock_floor.proofs.Names.{with_item}
use Rattle.std.proofs.Common.{◌≢◌}
use Rattle.lock_floor.proofs.tables.FloorOf+Slot+View+Description+Law.read.Goals as goal

pub read_cell-requires-clause-cell : goal.read_cell-requires-clause-cell
read_cell-requires-clause-cell g c = c.in-Some.ensures.some.place

pub read_cell-requires-clause-held : goal.read_cell-requires-clause-held
read_cell-requires-clause-held g c =
    subst (λ (k : LockNo). hold_in c.args.pass.now.view.share.held k.0 ≢ NotHeld)
    (sym c.in-Some.ensures.some.its_lock) c.requires.held

pub unreachable-requires : goal.unreachable-requires
unreachable-requires g c = c.in-None.ensures.none c.requires.named

pub returns-clause-entry : goal.returns-clause-entry
returns-clause-entry g c =
    let at = c.in-Some.ensures.some in
    subst (λ (z : LockNo × ℕ). MakesEntry c.args.self.now.description (Got z.0 z.1 c.read_cell.result)
    c.args.pass.now.view.share.held c.args.pass.now.view c.read_cell.new.pass.view) (λ i. (at.its_lock i, at.its_key i))
    c.read_cell.ensures.entry

pub returns-clause-steps : goal.returns-clause-steps
returns-clause-steps g c =
    let at = c.in-Some.ensures.some in
    subst (λ (z : LockNo × ℕ). MakesEach c.args.self.now.description
    (with_item c.args.pass.now.view.thread (CellOf z.0.0 z.1) (Got z.0 z.1 c.read_cell.result))
    c.args.pass.now.view c.read_cell.new.pass.view) (λ i. (at.its_lock i, at.its_key i)) c.read_cell.ensures.steps
