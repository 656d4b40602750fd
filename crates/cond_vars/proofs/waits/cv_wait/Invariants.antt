use Rattle.std.proofs.Common.{◌≡◌}
use Rattle.lock_model.specs.Holds.{Holds}
use Rattle.lock_model.specs.Operations.{hold_in}
use Rattle.lock_floor.specs.Passes.{IsOf}
use Rattle.cond_vars.specs.Parts.{IsWaiting}
use Rattle.cond_vars.specs.Waits.{lock_of}
use Rattle.cond_vars.proofs.Waited.{WaitsSince}
use Rattle.cond_vars.proofs.waits.cv_wait.Given as goal

abbrev pub invariant-loop : goal.invariant-loop
invariant-loop g l = record {
  own : IsOf l.floor l.pass;
  lock : l.l.0 ≡ lock_of l.floor.description l.c.0;
  held : hold_in l.fn.pass.view.share.held (lock_of l.floor.description l.c.0) ≡ Holds l.mode;
  there : IsWaiting l.floor.description l.c l.at l.pass.view;
  since : WaitsSince g.K.Relock.releases g.K.Relock.takes_back l.floor.description l.c l.mode l.fn.pass.view l.at
      l.pass.view;
}
