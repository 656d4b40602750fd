use Rattle.std.proofs.Common.{◌≡◌, ◌++◌, [], drop}
use Rattle.lock_model.specs.Script.Canonical.{operation_lines}
use Rattle.script_read.proofs.writer.operations.push_operations.Given as goal

abbrev pub invariant-loop-op : goal.invariant-loop-op
invariant-loop-op l =
    l.out.items ++ operation_lines l.plan l.held.items (drop l.op-index l.ops)
    ≡ l.initial.out.items ++ operation_lines l.plan [] l.ops
