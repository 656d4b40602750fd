use Rattle.step_machine.proofs.Names.{ℕ, slice_get, Some, ThreadDecl, Thread, IsNew, vec_len}
use Rattle.std.proofs.Common.{◌≡◌}
use Rattle.step_machine.proofs.machine.make_threads.Given as goal

abbrev pub invariant-loop-t : goal.invariant-loop-t
invariant-loop-t l = record {
  number : vec_len l.threads ≡ l.t;
  each : (t : ℕ) (th : Thread) (d : ThreadDecl) → slice_get l.threads.items t ≡ Some th → slice_get l.decls t ≡ Some d
      → IsNew t d.base.0 th;
}
