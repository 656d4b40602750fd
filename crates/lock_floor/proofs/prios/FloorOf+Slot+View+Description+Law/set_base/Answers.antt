use Rattle.lock_floor.proofs.Names.{sym, subst, Base, RecordOf, Knowledge}
use Rattle.std.proofs.Common.{◌≤◌}
use Rattle.lock_floor.proofs.Taking.{waits_none, waits_on}
use Rattle.lock_floor.proofs.Tries.{entry_then, steps_then}
use Rattle.lock_floor.proofs.prios.FloorOf+Slot+View+Description+Law.set_base.Goals as goal

pub try_set_base-requires-clause-room : goal.try_set_base-requires-clause-room
try_set_base-requires-clause-room g c =
    subst (λ (k : Knowledge). 1 ≤ k.spare) (sym c.loop.invariant.waited.view) c.requires.room

pub loop-init : goal.loop-init
loop-init g c = record { ready = c.requires.ready; waited = waits_none c.args.pass.now.view }

pub loop-preserved : goal.loop-preserved
loop-preserved g c = record {
  ready = c.try_set_base.ensures.ready;
  waited = waits_on c.args.self.now.description (RecordOf c.loop.pass.view.thread) c.args.pass.now.view
      c.loop.pass.view c.try_set_base.new.pass.view c.loop.invariant.waited c.in-Err.ensures.left
      c.in-Err.ensures.elsewhere;
}

pub returns-in-Ok-clause-entry : goal.returns-in-Ok-clause-entry
returns-in-Ok-clause-entry g c =
    entry_then c.args.self.now.description c.args.pass.now.view c.loop.pass.view c.try_set_base.new.pass.view
    c.loop.invariant.waited (Base c.args.prio) c.in-Ok.ensures.entry

pub returns-in-Ok-clause-steps : goal.returns-in-Ok-clause-steps
returns-in-Ok-clause-steps g c =
    steps_then c.args.self.now.description c.args.pass.now.view c.loop.pass.view c.try_set_base.new.pass.view
    c.loop.invariant.waited RecordOf (Base c.args.prio)
    c.in-Ok.ensures.steps
