-- What a thread takes out that goes to block on the queue of a lock, and what its seat knows behind the steps by
-- which it comes to stand there.
use Rattle.std.specs.Prelude.{ℕ, ◌<◌, Bool, true, false, List, [], ◌∷◌, length, Option, Some, None, unwrap_or}
use Rattle.std.specs.Box.{with_value}
use Rattle.std.specs.declared.alloc.Global.{Global}
use Rattle.std.specs.declared.boxed.Box.{Box}
use Rattle.lock_model.specs.Queues.{lock_queue, side_of}
use Rattle.lock_model.specs.declared.plan.Mode.{Mode}
use Rattle.lock_model.specs.declared.plan.QueueName.{QueueName}
use Rattle.lock_model.specs.declared.plan.QueueName.TheVariants.{Lock, Chan}
use Rattle.lock_objects.specs.Enters.{waiter_of, record_entered, chain_entered}
use Rattle.lock_state.specs.Steps.{Step, Readies, Unreadies, chain_of_queue}
use Rattle.lock_state.specs.Steps.Items.{Item}
use Rattle.lock_state.specs.Steps.Turnstiles.{walk_up}
use Rattle.thread_records.specs.declared.record.ThreadRec.{ThreadRec}
use Rattle.turnstile_core.specs.Seen.{Turnstile}
use Rattle.floor_table.specs.Descriptions.{config_in}
use Rattle.floor_table.specs.Places.{slot_of}
use Rattle.floor_table.specs.Shares.{Doing}
use Rattle.floor_table.specs.Views.{Runs, IsReady, StandsOn, Knowledge}
use Rattle.floor_table.specs.declared.description.Description.{Description}
use Rattle.floor_table.specs.declared.slot.Slot.{Slot}
use Rattle.floor_table.specs.declared.slot.Slot.TheVariants.{Record, Turnstiles}

-- 1. Chains

-- the queue is that of a lock or a channel of the floor
abbrev pub IsQueueOf : Description → QueueName → Type 0
IsQueueOf floor (Lock l) = l.0 < length floor.locks
IsQueueOf floor (Chan d) = d.0 < length floor.chans

-- the chain in which the queue stands, and its place
abbrev pub its_chain : Description → QueueName → Item
its_chain floor q = chain_of_queue floor.chains (config_in floor) q

abbrev pub chain_place : Description → QueueName → ℕ
chain_place floor q = unwrap_or (slot_of floor (its_chain floor q)) 0

-- 2. The own wait word

-- by this step a thread is made ready for a queue, or runs again, which stands on none
abbrev pub readies : Bool → ℕ → QueueName → Step
readies true t q = Readies t q
readies false t q = Unreadies t q

abbrev pub readied : Bool → Knowledge → Knowledge
readied true v = record v { pose = IsReady }
readied false v = record v { pose = Runs }

-- 3. An enter on the turnstile of a lock

-- the thread has its record out, which it took last, and before it the chain of the lock's queue
abbrev pub both_out : Description → ℕ → ℕ → Box ThreadRec Global → List (QueueName × Turnstile)
    → List (ℕ × Slot)
both_out floor t l b chain =
    (t, Record b) ∷ (chain_place floor (lock_queue l), Turnstiles chain) ∷ []

-- these, where the thread stands on the lock's turnstile, to which it lent its own, x
abbrev pub out_entered : Description → ℕ → ℕ → Mode → ℕ → Option ℕ → Box ThreadRec Global
    → List (QueueName × Turnstile) → List (ℕ × Slot)
out_entered floor t l mode x owner b chain =
    both_out floor t l (with_value b (record_entered l b.value))
    (chain_entered l (side_of mode) x owner (waiter_of b.value) chain)

-- after an enter on the turnstile of a lock with this owner: a walk to the lock begins, where there is one; and these
-- values are out
abbrev pub entered : Knowledge → ℕ → Option ℕ → List (ℕ × Slot) → Knowledge
entered v l owner out =
    let after : Doing = record v.share.doing {
      wanted = Some l;
      called = None;
      round = None;
      last_look = None;
      walk = walk_up l owner;
    } in
    record v {
      share = record v.share { doing = after };
      out = out;
      pose = StandsOn (lock_queue l);
    }
