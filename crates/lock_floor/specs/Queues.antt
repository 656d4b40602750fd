-- The queues of a floor, one after the other.
use Rattle.std.specs.Prelude.{ℕ, ◌-◌, ◌&&◌, nat_lt, if◌then◌else◌, length, Option, Some, None}
use Rattle.lock_model.specs.Queues.{lock_queue, chan_queue}
use Rattle.lock_model.specs.declared.plan.QueueName.{QueueName}
use Rattle.floor_table.specs.declared.description.Description.{Description}

-- the queue of a channel, which has one of 256 numbers
abbrev pub chan_at : Description → ℕ → Option QueueName
chan_at floor d =
    if nat_lt d 256 && nat_lt d (length floor.chans) then Some (chan_queue d) else None

-- a queue by its place: those of locks come by their numbers, and then those of channels
abbrev pub queue_at : Description → ℕ → Option QueueName
queue_at floor k =
    if nat_lt k (length floor.locks) then Some (lock_queue k)
    else chan_at floor (k - length floor.locks)
