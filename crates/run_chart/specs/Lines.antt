-- The waiters of a lock, by the lines of the queues that aren't empty.
use Rattle.std.specs.Prelude.{ℕ, Bool, [], map, Option, Some, None}
use Rattle.lock_history.specs.Outcomes.{waiter_seen}
use Rattle.lock_history.specs.declared.outcome.QueueLine.{QueueLine}
use Rattle.lock_model.specs.Queues.{Lists, is_queue, lock_queue}

-- whether a line is that of the lock's queue
abbrev pub is_line_of : ℕ → QueueLine → Bool
is_line_of l line = is_queue line.q (lock_queue l)

-- the waiters of a line, and none where there is no line
abbrev pub lists_of : Option QueueLine → Lists
lists_of None = record { exclusive = []; shared = [] }
lists_of (Some line) =
    record { exclusive = map waiter_seen line.excl; shared = map waiter_seen line.shared }
