use Rattle.std.proofs.Common.{sym}
use Rattle.tick_sleep.specs.Ticks.{is_of}
use Rattle.tick_sleep.proofs.First.{taken_out, none_out}
use Rattle.tick_sleep.proofs.roll.sleeper_of.Goals as goal

pub returns-in_err-place : goal.returns-in_err-place
returns-in_err-place c =
    rw c.from_residual.ensures (sym (none_out (is_of c.args.t.0) c.args.sleepers.now (sym c.in_err-place.ensures)).1)

pub returns : goal.returns
returns c = (taken_out (is_of c.args.t.0) c.args.sleepers.now c.in_ok-place.place _ (sym c.in_ok-place.ensures)).1
