use Rattle.std.proofs.Common.{◌≡◌, ◌++◌, take, flat_map}
use Rattle.lock_model.specs.Script.Canonical.{thread_lines}
use Rattle.script_read.proofs.writer.push_threads.Given as goal

abbrev pub invariant-loop-thread : goal.invariant-loop-thread
invariant-loop-thread l =
    l.out.items ≡ l.initial.out.items ++ flat_map (thread_lines l.plan) (take l.thread-index l.threads)
