use Rattle.std.proofs.Common.{sym, ap, ◌∙◌}
use Rattle.lock_model.specs.Operations.{is_last}
use Rattle.cond_vars.specs.Waits.{lock_of}
use Rattle.cond_vars.proofs.HeldLocks.{last_lock}
use Rattle.cond_vars.proofs.sleeping.last_held.Goals as goal

pub returns : goal.returns
returns c =
    let l = lock_of c.args.floor.now.description c.args.c.0 in
    last_lock l c.held.result.now c.in-Some.hold.now (sym c.in-Some.ensures.value)
    (ap (is_last l) c.held.ensures ∙ c.requires.may.last)
