-- What a seat at a floor's table knows.
use Rattle.std.specs.Prelude.{ℕ, Bool, true, false, List, []}
use Rattle.lock_model.specs.declared.plan.QueueName.{QueueName}
use Rattle.lock_state.specs.Steps.{Step}
use Rattle.floor_table.specs.Descriptions.{room_for, room_in_all}
use Rattle.floor_table.specs.declared.description.Description.{Description}
use Rattle.floor_table.specs.declared.slot.Slot.{Slot}
use Rattle.floor_table.specs.Shares.{Share, start_share}

-- whose seat it is: the keeper's, who makes the passes of threads and takes them in; a thread's; or nobody's any more
pub data Role : Type 0 where
  OfKeeper : Role
  OfThread : Role
  OfNobody : Role

-- Where a thread's seat knows that the thread is: it runs; or it was made ready for a queue, and stands on none yet; or
-- it came to stand on a queue, and others may have taken it off and woken it since
pub data Pose : Type 0 where
  Runs : Pose
  IsReady : Pose
  StandsOn : QueueName → Pose

-- whether it knows that the thread stands on no queue
abbrev pub is_off_queues : Pose → Bool
is_off_queues Runs = true
is_off_queues IsReady = true
is_off_queues (StandsOn q) = false

pub record Knowledge : Type 0 where
  pub role : Role
  pub description : Description
  -- the steps that had been made, the newest first: of a thread when it made its last one, with that one, or found an
  -- item out since; of the keeper those that the passes it took in have seen
  pub seen : List Step
  -- how many entries may still be made
  pub spare : ℕ
  -- of a thread: its number, its share, what it has out, each with its place, and where it is
  pub thread : ℕ
  pub share : Share
  pub out : List (ℕ × Slot)
  pub pose : Pose
  -- of the keeper: how many passes it made, and the threads whose passes it took in, with their shares
  pub made : ℕ
  pub gathered : List (ℕ × Share)

-- what nobody's seat knows
abbrev pub nothing : Knowledge
nothing = record {
  role = OfNobody;
  description = record { threads = []; locks = []; chans = []; keys = []; chains = 0 };
  seen = [];
  spare = 0;
  thread = 0;
  share = start_share;
  out = [];
  pose = Runs;
  made = 0;
  gathered = [];
}

-- the same, where these steps had been made
abbrev pub seeing : List Step → Knowledge → Knowledge
seeing steps v = record v { seen = steps }

-- what the first seat knows, before a pass is made
abbrev pub keeper : Description → Knowledge
keeper floor = record nothing {
  role = OfKeeper;
  description = floor;
  spare = room_in_all floor.threads;
}

-- what a thread's seat knows at the thread's begin
abbrev pub first_view : Description → ℕ → Knowledge
first_view floor t = record nothing {
  role = OfThread;
  description = floor;
  spare = room_for floor t;
  thread = t;
}
