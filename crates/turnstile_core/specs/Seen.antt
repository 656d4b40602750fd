-- Turnstiles, waiters and loans as their callers see them.
pub use Rattle.wait_objects.specs.Seen.{Place, Node as Waiter, IsEmpty, empty_node as empty_waiter}
pub use Rattle.wait_objects.specs.Turnstiles.Seen.{Lending, Contents, Turnstile, home, idle_contents, idle, IsIdle, Terms, Loan}
