-- A pass is ready for a thread's rounds as it is made.
use Rattle.std.proofs.Common.{ℕ, ◌<◌, refl, arith}
use Rattle.lock_floor.specs.Floors.{Floor}
use Rattle.lock_floor.specs.Passes.{first_pass}
use Rattle.floor_table.specs.declared.description.Description.{Description}
use Rattle.lock_calls.proofs.First.{ready_first}
use Rattle.example_floor.specs.Counter.{IsCounter, IsReadyFor}

pub new_is_ready : (f : Floor Description) → IsCounter f.description → (t : ℕ) → t < 2
    → IsReadyFor f 3000 (first_pass f.table f.description t)
new_is_ready f counter t lt = record {
  ready = ready_first f t;
  unheld = refl;
  room = omega (arith, counter.room t lt);
}
