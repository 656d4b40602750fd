-- The sleepers that were taken off a sleep queue, in order, each with the sleep queue that it takes back.
pub use Rattle.wait_objects.specs.Lists.{place, with_last, LastHasNone, AllButLastHold}
