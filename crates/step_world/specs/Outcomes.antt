-- What a machine leaves to be printed of its queues and priorities.
use Rattle.std.specs.Prelude.{◌≡◌, ℕ, ◌%◌, ◌<◌, ◌^◌, true, false, if◌then◌else◌, List, [], ◌∷◌, ◌++◌, map, flat_map, length, Option, Some, None, IfSome}
use Rattle.std.specs.List.{range_with_len}
use Rattle.lock_model.specs.Config.{Config}
use Rattle.lock_model.specs.Words.{is_turnstile}
use Rattle.lock_model.specs.Queues.{lock_queue, chan_queue, is_turnstile_queue}
use Rattle.lock_model.specs.declared.plan.Kind.{Kind}
use Rattle.lock_model.specs.declared.plan.QueueName.{QueueName}
use Rattle.lock_model.specs.Text.{QueueLine}
use Rattle.wait_objects.specs.Seen.{Contents, Object}
use Rattle.chain_table.specs.Chains.{head_of}
use Rattle.step_machine.specs.declared.machine.Machine.{Machine}

-- the line of a queue with its slot, by the object that is lent to it
abbrev pub line_at : {E : Type 0} → QueueName → ℕ → Option (Object E) → List QueueLine
line_at q slot None = []
line_at q slot (Some h) = record {
  queue = q;
  slot = slot;
  head = h.contents.number;
  free = h.contents.free;
  exclusive = h.contents.exclusive;
  shared = h.contents.shared;
} ∷ []

-- that of a lock of a kind, from the chain in which its queue stands
abbrev pub line_of_lock : ℕ → Machine → Kind → ℕ → List QueueLine
line_of_lock chains m kind l =
    if is_turnstile kind
    then line_at (lock_queue l) (l % chains) (head_of (lock_queue l) m.chain)
    else line_at (lock_queue l) (l % chains) (head_of (lock_queue l) m.sleepers)

-- those of the first locks by number,
abbrev pub lock_lines : ℕ → Config → Machine → ℕ → List QueueLine
lock_lines chains c m n = flat_map (λ l. line_of_lock chains m (c.kind l) l) (range_with_len 0 n)

-- and of the first channels
abbrev pub channel_lines : ℕ → Machine → ℕ → List QueueLine
channel_lines chains m n =
    flat_map (λ d. line_at (chan_queue d) (d % chains) (head_of (chan_queue d) m.sleepers))
    (range_with_len 0 n)

-- those of all locks, and then those of the channels
abbrev pub lines_of : ℕ → Config → Machine → List QueueLine
lines_of chains c m = lock_lines chains c m c.locks ++ channel_lines chains m c.chans

-- each thread's base and effective priority
abbrev pub finals_of : Machine → List (ℕ × ℕ)
finals_of m =
    map {B = ℕ × ℕ} (λ th. (th.record.value.base, th.record.value.effective)) m.threads.items

-- an object whose lists and free list can be counted
pub record IsShort {E : Type 0} (h : Contents E) : Type 0 where
  pub exclusive : length h.exclusive < 2 ^ 32
  pub shared : length h.shared < 2 ^ 32
  pub free : length h.free < 2 ^ 32

-- those in the two chains, each of the queues that stand there
pub record HasShortQueues (c : Config) (m : Machine) : Type 0 where
  pub turnstiles : (q : QueueName) → is_turnstile_queue c q ≡ true
      → IfSome (head_of q m.chain) (λ h. IsShort h.contents)
  pub sleep_queues : (q : QueueName) → is_turnstile_queue c q ≡ false
      → IfSome (head_of q m.sleepers) (λ h. IsShort h.contents)
