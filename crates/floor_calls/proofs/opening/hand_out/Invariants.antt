use Rattle.floor_calls.proofs.Names.{length, map, arc_value, into_iter_items, into_iter_len, Knowledge, Pass}
use Rattle.floor_calls.proofs.Names.{thread_at_rest, Stands, AtRest}
use Rattle.std.proofs.Common.{◌≡◌, ◌++◌, All}
use Rattle.floor_calls.proofs.opening.hand_out.Given as goal

-- those that were handed out and those that are left are all
abbrev pub invariant-loop-pass : goal.invariant-loop-pass
invariant-loop-pass l = record {
  handed : l.all.items ++ map (thread_at_rest (arc_value l.shared).floor) (into_iter_items l.pass-iterator)
      ≡ map (thread_at_rest (arc_value l.shared).floor) l.fn.passes.items;
  stand : All (λ (p : Pass Knowledge). Stands (arc_value l.shared).floor AtRest p) (into_iter_items l.pass-iterator);
  long : into_iter_len l.pass-iterator ≡ length (into_iter_items l.pass-iterator);
}
