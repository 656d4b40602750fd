use Rattle.std.proofs.Common.{◌≡◌, map}
use Rattle.std.specs.List.{range_with_len}
use Rattle.script_read.specs.Generator.{behind_threads, thread_at}
use Rattle.script_read.proofs.generator.threads.Given as goal

abbrev pub invariant-loop-t : goal.invariant-loop-t
invariant-loop-t l = record {
  made : l.threads.items ≡ map (λ t. thread_at (behind_threads l.fn.n t) t) (range_with_len 0 l.t);
  state : l.draws.state ≡ behind_threads l.fn.n l.t;
}
