-- What a thread's seat knows behind a round that ended with the exchange by which it began.
use Rattle.lock_model.specs.declared.event.Held.{Held}
use Rattle.floor_table.specs.Views.{Knowledge}
use Rattle.lock_floor.specs.Views.{sought, gained}

-- after a round of a lock has begun, and the lock was gained in it
abbrev pub gained_first : Knowledge → Held → Knowledge
gained_first v h = gained (sought v h.l.0 h.by_try) h
