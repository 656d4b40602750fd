-- Who is taken off a queue in a lawful state: each has an object there, and they are threads of the plan, each once.
use Rattle.lock_laws.proofs.Names
use Names.{ℕ, Bool, map, length, arith, Config, some, times, Lists, list_of, stands, waiting, times_waiting, taken_off}
use Names.{QueueName, Side, X, S, State, bits_of_threads, Lawful, HeadsFitWaiters}
use Rattle.std.proofs.Common.{◌+◌, ◌^◌, ◌<◌, ◌≤◌}
use Rattle.lock_laws.proofs.Derived.{once}
use Rattle.lock_laws.proofs.Sleepers.{best_or_all}
use Rattle.lock_laws.proofs.Standing.{standing_thread}
use Rattle.lock_laws.proofs.Bits.{bits_below}
use Rattle.lock_laws.proofs.Dealt.{times-map}

-- a side is a part of its queue
side_counted : (side : Side) (q : Lists) → length (list_of side q) ≤ waiting q
side_counted X q = omega arith
side_counted S q = omega arith

side_stands : (side : Side) (q : Lists) (t : ℕ) → times_waiting t (list_of side q) ≤ stands t q
side_stands X q t = omega arith
side_stands S q t = omega arith

module _ (c : Config) (s : State) (q : QueueName) (side : Side) (all : Bool) (lawful : Lawful c s) where
  -- each has an object there
  pub objects_enough : length (taken_off all (list_of side (s.lists q))) ≤ length (s.free_list q) + some (s.head q)
  unfolding HeadsFitWaiters
  objects_enough = omega (
    arith,
    (best_or_all all (list_of side (s.lists q))).counted,
    side_counted side (s.lists q),
    (lawful.queues.heads_fit_waiters q).balanced,
  )

  its_times : (t : ℕ) → times t (map (λ w. w.thread) (taken_off all (list_of side (s.lists q)))) ≤ stands t (s.lists q)
  its_times t = omega (
    arith,
    times-map t (taken_off all (list_of side (s.lists q))),
    (best_or_all all (list_of side (s.lists q))).times t,
    side_stands side (s.lists q) t,
  )

  -- their bits are few
  pub few_bits : c.threads ≤ 64
      → bits_of_threads (map (λ w. w.thread) (taken_off all (list_of side (s.lists q)))) < 2 ^ 64
  few_bits few =
      bits_below 64 (map (λ w. w.thread) (taken_off all (list_of side (s.lists q))))
      (λ t. omega (arith, its_times t, once c s t q lawful))
      (λ t i. omega (arith, few, standing_thread c s t q lawful (omega (arith, i, its_times t))))
