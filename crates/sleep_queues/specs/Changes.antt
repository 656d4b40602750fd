-- What each call makes of a sleep queue.
pub use Rattle.wait_objects.specs.SleepQueues.Changes.{lists_of, with_lists, waiters, with_waiters, all_waiters, waits, begun, joined, taken, left_by, without_woken, entries_of, without_thread, AreTaken}
