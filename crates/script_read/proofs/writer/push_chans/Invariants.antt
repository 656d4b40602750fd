use Rattle.std.proofs.Common.{◌≡◌, ◌++◌, take, flat_map}
use Rattle.lock_model.specs.Script.Canonical.{chan_line}
use Rattle.script_read.proofs.writer.push_chans.Given as goal

abbrev pub invariant-loop-chan : goal.invariant-loop-chan
invariant-loop-chan l = l.out.items ≡ l.initial.out.items ++ flat_map (chan_line l.plan) (take l.chan-index l.chans)
