use Rattle.std.proofs.Common.{◌≡◌, ◌++◌, take, flat_map}
use Rattle.lock_model.specs.Script.Canonical.{lock_line}
use Rattle.script_read.proofs.writer.push_locks.Given as goal

abbrev pub invariant-loop-lock : goal.invariant-loop-lock
invariant-loop-lock l = l.out.items ≡ l.initial.out.items ++ flat_map (lock_line l.plan) (take l.lock-index l.locks)
