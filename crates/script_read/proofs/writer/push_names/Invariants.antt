use Rattle.std.proofs.Common.{◌≡◌, ◌++◌, drop, map}
use Rattle.lock_model.specs.Text.{spaced, thread_name}
use Rattle.script_read.proofs.writer.push_names.Given as goal

abbrev pub invariant-loop-thread : goal.invariant-loop-thread
invariant-loop-thread l =
    l.out.items ++ spaced (map (λ t. thread_name l.plan t.0) (drop l.thread-index l.threads))
    ≡ l.initial.out.items ++ spaced (map (λ t. thread_name l.plan t.0) l.threads)
