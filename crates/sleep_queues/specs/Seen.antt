-- Sleep queues and sleepers as their callers see them.
pub use Rattle.wait_objects.specs.Seen.{Place, Node as Sleeper, IsEmpty, empty_node as empty_sleeper}
pub use Rattle.wait_objects.specs.SleepQueues.Seen.{Contents, SleepQueue, home, idle}
