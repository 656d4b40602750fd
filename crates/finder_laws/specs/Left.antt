-- What a thread's seat has seen of the threads that haven't ended.
use Rattle.std.specs.Prelude.{◌<◌, length}
use Rattle.lock_state.specs.State.{State}
use Rattle.floor_table.specs.Past.{LeadsTo}
use Rattle.floor_table.specs.Views.{Knowledge}
use Rattle.floor_table.specs.declared.description.Description.{Description}

-- in the state to which the steps led that the seat has seen, a thread hadn't ended
pub record HasSeenLeft (floor : Description) (v : Knowledge) : Type 0 where
  pub state : State
  pub led : LeadsTo floor v.seen state
  pub left : state.ended < length floor.threads
