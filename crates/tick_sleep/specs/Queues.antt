-- How a tick queue is seen, and what is true of it.
use Rattle.std.specs.Prelude.{◌≡◌, ℕ, ◌≤◌, ◌<◌, true, not, [], length, map, filter}
use Rattle.tick_sleep.specs.Limits.{most_sleepers}
use Rattle.tick_sleep.specs.Ticks.{TickState, sleeps, on_key, waiter_of, is_due}
use Rattle.tick_sleep.specs.Tables.{Table, lying, is_home}
use Rattle.tick_sleep.specs.declared.queue.TickQueue.TheInside.{Inside}

-- who sleeps, and where the sleep queues are
pub record Seen : Type 0 where
  pub ticks : TickState
  pub table : Table

abbrev pub seen_queue : Inside → Seen
seen_queue q = record {
  ticks = record {
    tick = q.tick;
    sleepers = q.roll;
    posted = q.posted.items;
    prios = q.prios.items;
  };
  table = q.table;
}

pub record IsSound (q : Inside) : Type 0 where
  -- nobody is due at a tick that is passed
  pub passed : q.passed ≤ q.tick
  pub none_due : filter (is_due q.passed) q.roll ≡ []
  -- each sleeper is declared, and there aren't too many
  pub declared : (t : ℕ) → sleeps t q.roll ≡ true → t < length q.prios.items
  pub few : length q.prios.items ≤ most_sleepers
  pub posted : length q.posted.items ≡ length q.prios.items
  -- a thread lies on the queue of its key exactly while it sleeps, in order of arrival
  pub homes : length q.table.homes ≡ length q.prios.items
  pub at_home : (t : ℕ) → t < length q.prios.items → is_home t q.table ≡ not (sleeps t q.roll)
  pub queues : (key : ℕ) → lying key q.table ≡ map waiter_of (on_key key q.roll)
