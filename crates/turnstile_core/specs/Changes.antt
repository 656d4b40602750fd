-- What each call makes of a turnstile.
pub use Rattle.wait_objects.specs.Turnstiles.Changes.{lists_of, with_lists, waiters, with_waiters, all_waiters, name_of, waits, with_lock, with_owner, with_loan_home, begun, joined, left_by, taken, moved, best, IsWellFormed}
