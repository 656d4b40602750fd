use Rattle.std.proofs.Common.{◌≡◌, map, take}
use Rattle.lock_model.specs.declared.plan.ChanDecl.{ChanDecl}
use Rattle.floor_table.proofs.description.locks_of.Given as goal

abbrev pub invariant-loop-chan : goal.invariant-loop-chan
invariant-loop-chan l = l.locks.items ≡ map (λ (d : ChanDecl). d.lock) (take l.chan-index l.chans)
