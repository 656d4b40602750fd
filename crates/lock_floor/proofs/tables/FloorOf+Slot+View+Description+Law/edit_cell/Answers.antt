use Rattle.lock_floor.proofs.Names.{sym, subst, Holds, hold_in, Excl, CellOf, Knowledge, event_of}
use Rattle.std.proofs.Common.{◌≡◌, ◌≤◌}
use Rattle.lock_floor.proofs.Taking.{waits_none, waits_on}
use Rattle.lock_floor.proofs.Tries.{entry_then, steps_then}
use Rattle.lock_floor.proofs.tables.FloorOf+Slot+View+Description+Law.edit_cell.Goals as goal

pub try_edit-requires-clause-held : goal.try_edit-requires-clause-held
try_edit-requires-clause-held g c =
    subst (λ (k : Knowledge). hold_in k.share.held c.args.cell.l.0 ≡ Holds Excl)
    (sym c.loop.invariant.waited.view) c.requires.held

pub try_edit-requires-clause-room : goal.try_edit-requires-clause-room
try_edit-requires-clause-room g c =
    subst (λ (k : Knowledge). 1 ≤ k.spare) (sym c.loop.invariant.waited.view) c.requires.room

pub loop-init : goal.loop-init
loop-init g c = record { ready = c.requires.ready; waited = waits_none c.args.pass.now.view }

pub loop-preserved : goal.loop-preserved
loop-preserved g c = record {
  ready = c.try_edit.ensures.ready;
  waited = waits_on c.args.self.now.description (CellOf c.args.cell.l.0 c.args.cell.key) c.args.pass.now.view
      c.loop.pass.view c.try_edit.new.pass.view c.loop.invariant.waited c.in-Err.ensures.left
      c.in-Err.ensures.elsewhere;
}

pub returns-in-Ok-clause-entry : goal.returns-in-Ok-clause-entry
returns-in-Ok-clause-entry g c =
    entry_then c.args.self.now.description c.args.pass.now.view c.loop.pass.view c.try_edit.new.pass.view
    c.loop.invariant.waited (event_of c.args.cell.l c.args.cell.key c.args.change) c.in-Ok.ensures.entry

pub returns-in-Ok-clause-steps : goal.returns-in-Ok-clause-steps
returns-in-Ok-clause-steps g c =
    steps_then c.args.self.now.description c.args.pass.now.view c.loop.pass.view c.try_edit.new.pass.view
    c.loop.invariant.waited (λ t. CellOf c.args.cell.l.0 c.args.cell.key)
    (event_of c.args.cell.l c.args.cell.key c.args.change)
    c.in-Ok.ensures.steps
