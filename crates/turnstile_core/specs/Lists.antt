-- The waiters that were taken off a turnstile, in order, each with the turnstile that it takes back.
pub use Rattle.wait_objects.specs.Lists.{place, with_last, LastHasNone, AllButLastHold}
