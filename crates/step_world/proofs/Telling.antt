-- What a world tells of its threads and queues is what the columns say.
use Rattle.step_world.proofs.Names
use Names.{ℕ, Bool, true, false, ltb, List, Result, Ok, Err, IfOk, length, map, slice_get, Option, Some, None, sym, ap}
use Names.{subst, arith, then_some, Vec, option_map_or, ltb-true, lt-ltb, same_Some, line_seen, QueueLine, Config}
use Names.{config_of, is_turnstile_queue, stands, Plan, QueueName, Lock, Chan, none_stands, at_queue_one, gained_order}
use Names.{State, RepresentsQueue, RepresentsSleepQueue, queue_in, sleepers_in, Lawful, StandsOnce, Run, queue_lines}
use Names.{head_of, SleepQueue, Turnstile, waits, Machine, Thread, IsRunOf}
use Rattle.std.proofs.Common.{◌≡◌, ◌↔◌, ◌<◌, ◌∙◌}
use Rattle.lock_model.specs.Text as text
use Rattle.step_machine.specs.Represents.{Represents}
use Rattle.step_world.specs.Worlds as worlds
use Rattle.step_world.proofs.Ends.{aside_is}

-- 1. A thread

-- its list of held locks is in order of acquisition
pub in_order : (plan : Plan) (m : Machine) (r : Run) (t : ℕ) (th : Thread) → IsRunOf plan m r → t < length plan.threads
    → slice_get m.threads.items t ≡ Some th → r.state.held_locks t ≡ gained_order th.held.items
in_order plan m r t th h lt e = h.on_track.listed t ∙ ap gained_order (sym (aside_is plan m r t th h lt e).held)

-- 2. Where a thread stands

module _ (m : Machine) (c : Config) (s : State) (shown : Represents c m s) (h : Lawful c s) (t : ℕ) where
  -- the turnstile that is lent to a queue says who stands there,
  pub waits_in_chain : (q : QueueName) → is_turnstile_queue c q ≡ true
      → option_map_or (λ x. waits t x.contents) (head_of q m.chain) false ≡ ltb 0 (stands t (s.lists q))
  waits_in_chain (Chan d) k = absurd cc
  waits_in_chain (Lock l) k = go (head_of (Lock l) m.chain) (shown.queues.lock l.0 k)
    where
      go : (o : Option Turnstile) → RepresentsQueue o (queue_in s (Lock l)) s.loan_home
          → option_map_or (λ x. waits t x.contents) o false ≡ ltb 0 (stands t (s.lists (Lock l)))
      go None e = sym (ap (ltb 0) (none_stands c s (Lock l) t h e))
      go (Some x) e = sym (ap (λ v. ltb 0 (stands t v.lists)) e.queue)

  -- and so does the sleep queue
  pub waits_in_sleepers : (q : QueueName) → is_turnstile_queue c q ≡ false
      → option_map_or (λ x. waits t x.contents) (head_of q m.sleepers) false ≡ ltb 0 (stands t (s.lists q))
  waits_in_sleepers q k = go (head_of q m.sleepers) (shown.sleepers.queue q k)
    where
      go : (o : Option SleepQueue) → RepresentsSleepQueue o (sleepers_in s q)
          → option_map_or (λ x. waits t x.contents) o false ≡ ltb 0 (stands t (s.lists q))
      go None e = sym (ap (ltb 0) (none_stands c s q t h e))
      go (Some x) e = sym (ap (λ v. ltb 0 (stands t v.lists)) e)

module _ (c : Config) (s : State) (h : Lawful c s) (t : ℕ) where
  -- a thread stands on the queue that its record names, or on none
  named : (q : QueueName) → 0 < stands t (s.lists q) → s.blocked_on t ≡ Some q
  unfolding StandsOnce
  named q l = at_queue_one q (s.blocked_on t) (omega (arith, l, h.waits.stands_once t q))

  pub stands_nowhere : s.blocked_on t ≡ None → (q : QueueName) → None ≡ Some q ↔ 0 < stands t (s.lists q)
  stands_nowhere e q = (λ i. absurd cc, λ l. sym e ∙ named q l)

  pub stands_there : (p : QueueName) (there : Bool) → s.blocked_on t ≡ Some p → there ≡ ltb 0 (stands t (s.lists p))
      → (q : QueueName) → then_some there p ≡ Some q ↔ 0 < stands t (s.lists q)
  stands_there p true e b q = (
    λ i. subst (λ (r : QueueName). 0 < stands t (s.lists r)) (same_Some p q i)
        (ltb-true 0 (stands t (s.lists p)) (sym b)),
    λ l. sym e ∙ named q l,
  )
  stands_there p false e b q = (λ i. absurd cc, λ l. absurd (elsewhere q l (same_Some p q (sym e ∙ named q l))))
    where
      elsewhere : (r : QueueName) → 0 < stands t (s.lists r) → p ≡ r → ⊥
      elsewhere r l i =
          let z : false ≡ true = b
          ∙ lt-ltb 0 (stands t (s.lists p)) (subst (λ (x : QueueName). 0 < stands t (s.lists x)) (sym i) l) in
          cc

-- 3. Queues

-- the lines of a machine are those of each run that it represents
pub lines_told : {E : Type 0} (result : Result (Vec QueueLine) E) (w : worlds.World) (lines : List text.QueueLine)
    → IfOk result (λ v. map line_seen v.items ≡ lines)
    → ((r : Run) → worlds.Represents w r → lines ≡ queue_lines w.chains (config_of w.plan) r.state)
    → IfOk result
    (λ v. (r : Run) → worlds.Represents w r → map line_seen v.items ≡ queue_lines w.chains (config_of w.plan) r.state)
lines_told f w lines e same = grind arith
