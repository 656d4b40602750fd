use Rattle.std.proofs.Common.{◌≡◌, sym, ap, ◌∙◌, subst}
use Rattle.lock_model.specs.Holds.{NotHeld}
use Rattle.lock_model.specs.Operations.{hold_in}
use Rattle.lock_objects.specs.Represents.{hold_of}
use Rattle.cond_vars.specs.Waits.{lock_of}
use Rattle.cond_vars.proofs.HeldLocks.{last_held}
use Rattle.cond_vars.proofs.sleeping.mode_of.Goals as goal

pub unreachable-requires : goal.unreachable-requires
unreachable-requires c =
    last_held (lock_of c.args.floor.now.description c.args.c.0) c.args.pass.now.view.share.held c.requires.may.last
    (subst (λ j. hold_in c.args.pass.now.view.share.held j ≡ NotHeld) c.requires.lock
    (sym c.mode.ensures ∙ ap hold_of c.in-None.is))
