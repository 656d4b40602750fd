use Rattle.std.proofs.Common.{sym}
use Rattle.lock_model.proofs.HeldLocks.{held_there, none_held}
use Rattle.script_read.proofs.reader.held.mode_of.Goals as goal

pub returns-in_err-place : goal.returns-in_err-place
returns-in_err-place c = rw c.from_residual.ensures (none_held c.args.l c.args.held.now (sym c.in_err-place.ensures))

pub returns : goal.returns
returns c = held_there c.args.l c.args.held.now c.in_ok-place.place _ (sym c.in_ok-place.ensures)
