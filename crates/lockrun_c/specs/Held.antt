-- What a pointer that C has owns: the same as a box, where something is there.
use base.Fml.{Fml, ftrue}
use denote.RawPtr.{Ptr}
use Rattle.std.specs.Prelude.{Option, None, Some}
use Rattle.std.specs.Box.Ownership.{box_owns}
use Rattle.std.specs.Global.{Global}
use Rattle.std_heap.specs.contracts.GlobalAllocator.TheImpl.{ghosts}
use Rattle.lockrun_c.specs.contracts.content.Content.{the_row}

abbrev pub held_owns : Global → Ptr → Option the_row.Denot → Fml
held_owns alloc p None = ftrue
held_owns alloc p (Some x) = box_owns (ghosts.dealloc_token alloc) the_row p x
