use Rattle.floor_run.proofs.Names.{length, All, into_iter_items, into_iter_len, Knowledge, Pass, IsKeeperOf, IsFinished}
use Rattle.std.proofs.Common.{◌≡◌, ◌++◌}
use Rattle.floor_run.proofs.Running.{parts}
use Rattle.floor_run.proofs.run.gather_all.Given as goal

abbrev pub invariant-loop-pass : goal.invariant-loop-pass
invariant-loop-pass l = record {
  mine : IsKeeperOf l.floor l.keeper;
  gathered : l.keeper.view.gathered ++ parts (into_iter_items l.pass-iterator) ≡ l.initial.keeper.view.gathered
      ++ parts (into_iter_items l.initial.pass-iterator);
  finished : All (λ (p : Pass Knowledge). IsFinished l.floor p) (into_iter_items l.pass-iterator);
  long : into_iter_len l.pass-iterator ≡ length (into_iter_items l.pass-iterator);
}
