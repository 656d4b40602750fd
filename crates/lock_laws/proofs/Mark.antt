-- A mark keeps each fact.
use Rattle.lock_laws.proofs.Names
use Names.{subst, ℕ, Bool, true, false, not, cond, List, Some, None, refl, ap, arith, State, Woken, put, Config, Mark}
use Names.{is_turnstile_queue, names_turnstile, names_sleep_queue, MayMark, after_mark, Lawful, OneTurnstileEach}
use Names.{OneSleepQueueEach, TurnstileIsLent, SleepQueueIsLent, StandsOnce, OnlyThreadsStand, StandingIsQueued}
use Names.{StandingWants, WokenWants, StandingIsUncalled, WokenIsUncalled, FreeWordHasCalled, turnstile_places}
use Names.{sleep_queue_places, callers, calls_marked, calls_woken, times_marked}
use Rattle.std.proofs.Common.{◌≡◌, ◌<◌}
use Rattle.lock_laws.proofs.Places.{returned_places, returned_named}
use Rattle.lock_laws.proofs.Standing.{marked_named, marked_thread, named_out, asleep_out}
use Rattle.lock_laws.proofs.Kit.{columns, sum_below-put}

turned : {A : Type 0} (b : Bool) (x y : A) → cond (not b) x y ≡ cond b y x
turned true x y = refl
turned false x y = refl

module _ (c : Config) (s : State) (t : ℕ) (m : Mark) (ms : List Mark) (g : MayMark c s t m ms) (h : Lawful c s) where
  abbrev n : State
  n = after_mark c s t m ms

  abbrev u : ℕ
  u = m.thread

  pub blocked_on : s.blocked_on u ≡ Some m.queue
  blocked_on = marked_named c s t m ms h g.thread g.marked

  other : u < c.threads
  other = marked_thread c s t m ms h g.thread g.marked

  -- 1. Places

  abbrev turnstile : Bool
  turnstile = is_turnstile_queue c m.queue

  one_turnstile : OneTurnstileEach c n.turnstile n.head n.free_list n.marked
  unfolding after_mark OneTurnstileEach turnstile_places
  one_turnstile k =
      let out = named_out c s u m.queue h blocked_on in
      let places = returned_places c s true k t m ms g.thread other g.marked turnstile refl out in
      omega (arith, h.queues.one_turnstile_each k)

  one_sleep_queue : OneSleepQueueEach c n.sleep_queue n.head n.free_list n.marked
  unfolding after_mark OneSleepQueueEach sleep_queue_places
  one_sleep_queue =
      subst (λ f. OneSleepQueueEach c f s.head s.free_list (put s.marked t ms)) (turned turnstile _ _)
      (λ k.
      let out = asleep_out c s u m.queue h blocked_on in
      let places = returned_places c s false k t m ms g.thread other g.marked (not turnstile) refl out in
      omega (arith, h.queues.one_sleep_queue_each k))

  turnstile_lent : TurnstileIsLent c n.turnstile n.blocked_on
  unfolding after_mark TurnstileIsLent
  turnstile_lent =
      returned_named (names_turnstile c) s.turnstile s.blocked_on u m.object refl h.queues.turnstile_is_lent turnstile
      (ap (names_turnstile c) blocked_on)

  sleep_queue_lent : SleepQueueIsLent c n.sleep_queue n.blocked_on
  unfolding after_mark SleepQueueIsLent
  sleep_queue_lent =
      subst (λ f. SleepQueueIsLent c f (put s.blocked_on u None)) (turned turnstile _ _)
      (returned_named (names_sleep_queue c) s.sleep_queue s.blocked_on u m.object refl h.queues.sleep_queue_is_lent
      (not turnstile) (ap (names_sleep_queue c) blocked_on))

  -- 2. Standing, wanting and calling

  stand : StandsOnce c n.lists n.marked n.blocked_on
  unfolding after_mark StandsOnce
  stand v q =
      let b = sum_below-put c.threads (times_marked v q) s.marked t ms g.thread in
      let e = ap (times_marked v q) g.marked in
      grind (arith, columns, h.waits.stands_once v q, blocked_on)

  threads_stand : OnlyThreadsStand c n.blocked_on
  unfolding after_mark OnlyThreadsStand
  threads_stand v q = grind (arith, columns, h.waits.only_threads_stand v q)

  standing_queued : StandingIsQueued n.blocked_on n.wait
  unfolding after_mark StandingIsQueued
  standing_queued v q = grind (arith, columns, h.waits.standing_is_queued v q)

  standing_wants : StandingWants n.blocked_on n.wanted
  unfolding after_mark StandingWants
  standing_wants v k = grind (arith, columns, h.waits.standing_wants v k)

  woken_wants : WokenWants n.wait n.wanted
  unfolding after_mark WokenWants StandingWants
  woken_wants v k = grind (arith, columns, h.waits.woken_wants v k, h.waits.standing_wants u k, blocked_on)

  standing_uncalled : StandingIsUncalled n.blocked_on n.called
  unfolding after_mark StandingIsUncalled
  standing_uncalled v q = grind (arith, columns, h.waits.standing_is_uncalled v q)

  woken_uncalled : WokenIsUncalled n.wait n.called
  unfolding after_mark WokenIsUncalled StandingIsUncalled
  woken_uncalled v =
      grind (arith, columns, h.waits.woken_is_uncalled v, h.waits.standing_is_uncalled u m.queue blocked_on)

  called : FreeWordHasCalled c n.word n.marked n.wait n.called
  unfolding after_mark FreeWordHasCalled callers StandingIsQueued
  called l =
      let b = sum_below-put c.threads (calls_marked l) s.marked t ms g.thread in
      let e = ap (calls_marked l) g.marked in
      let w = sum_below-put c.threads (calls_woken l) s.wait u (Woken m.queue m.cause) other in
      let f = ap (calls_woken l) (h.waits.standing_is_queued u m.queue blocked_on) in
      omega (arith, h.waits.free_word_has_called l)

  pub lawful : Lawful c n
  unfolding after_mark
  lawful = assumption (
    one_turnstile,
    one_sleep_queue,
    turnstile_lent,
    sleep_queue_lent,
    stand,
    threads_stand,
    standing_queued,
    standing_wants,
    woken_wants,
    standing_uncalled,
    woken_uncalled,
    called,
  )
