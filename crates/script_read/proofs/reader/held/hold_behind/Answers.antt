use Rattle.std.proofs.Common.{position, sym, ap, ◌∙◌}
use Rattle.lock_model.specs.Operations.{holds_lock}
use Rattle.lock_model.proofs.HeldLocks.{taken_out, none_taken}
use Rattle.script_read.proofs.reader.held.hold_behind.Goals as goal

pub returns-in-Some : goal.returns-in-Some
returns-in-Some c =
    let l = c.in-Releases.l in
    rw (sym c.of_locks.ensures ∙ c.in-Releases.is) (c.remove.ensures.items
    ∙ taken_out l c.args.held.now.items c.in-Some.place
    (ap (position (holds_lock l)) (sym c.deref.ensures.value) ∙ sym c.in-Some.ensures))

pub returns-in_default : goal.returns-in_default
returns-in_default c =
    let l = c.in-Releases.l in
    rw (sym c.of_locks.ensures ∙ c.in-Releases.is) (none_taken l c.args.held.now.items
    (ap (position (holds_lock l)) (sym c.deref.ensures.value) ∙ sym c.place_held.ensures ∙ c.in_default.is))
