use Rattle.std.proofs.Common.{◌≡◌, ◌+◌, length, All}
use Rattle.std.specs.Vec.Iter.{into_iter_items, into_iter_len}
use Rattle.floor_table.specs.Views.{Knowledge}
use Rattle.lock_floor.specs.Floors.{Pass}
use Rattle.lock_floor.specs.Passes.{IsKeeperOf, IsFinished}
use Rattle.example_floor.proofs.close_all.Given as goal

abbrev pub invariant-loop-pass : goal.invariant-loop-pass
invariant-loop-pass l = record {
  mine : IsKeeperOf l.floor l.keeper;
  gathered : length l.keeper.view.gathered + length (into_iter_items l.pass-iterator)
      ≡ length l.floor.description.threads;
  finished : All (λ (p : Pass Knowledge). IsFinished l.floor p) (into_iter_items l.pass-iterator);
  long : into_iter_len l.pass-iterator ≡ length (into_iter_items l.pass-iterator);
}
