use Rattle.floor_calls.proofs.Names.{map, sum, take}
use Rattle.std.proofs.Common.{◌≡◌, ◌<◌, ◌^◌}
use Rattle.floor_calls.proofs.unfit.has_much_room.Given as goal

-- the room of the threads so far, which is less
abbrev pub invariant-loop-thread : goal.invariant-loop-thread
invariant-loop-thread l = record {
  far : l.all ≡ sum (map (λ x. x.room) (take l.thread-index l.thread-items));
  few : l.all < 2 ^ 32;
}
