-- An add to a channel's queue keeps the facts of sleepers: its thread sleeps in the history, and stands last.
use Rattle.sleep_laws.proofs.Names
use Names.{ℕ, true, List, [], Option, Some, None, refl, sym, ap, arith, Config, is_asleep, Waiter, Lists, chan_queue}
use Names.{with_last, QueueName, State, put, put_queue, MayAdd, after_add, Lawful, Each, is_signalled, is_chan_halt}
use Names.{InOrder, is_woken, AddsAtWork, SleepersFit, SleepersSlept, SleepersWantNothing, SleepersAreUnwoken}
use Names.{SleepersAreUnhalted, AsleepStandThere, AsleepAreOnTheirWay, SleepersInOrder, LatecomersAreLater}
use Names.{SleepersKeepBase, SleepersAreExclusive, UnnotedIsFair, off, columns, put_chan_other, signals_nowhere}
use Rattle.std.proofs.Common.{◌≡◌, ◌∙◌}
use Rattle.sleep_laws.proofs.SleepFacts.Best.{KeepsBase, at_put_chan, each-last, in_order-last}
use Rattle.sleep_laws.proofs.SleepFacts.Entries.{one_channel}
use Rattle.sleep_laws.proofs.SleepFacts.Known.{asleep, slept, is_at_work, its_thread}
use Rattle.sleep_laws.proofs.SleepFacts.Off.{off_acting, unnoted_unhalted}

module _ {at_work : ℕ → Option ℕ} {c : Config} {s : State} (l : Lawful c s)
    (h : SleepersFit at_work c s) (t k x : ℕ) (g : MayAdd c s t k x)
    (a : AddsAtWork at_work s t k) where
  abbrev blocked_on : ℕ → Option QueueName
  blocked_on = put s.blocked_on t (Some (chan_queue k))

  abbrev ws : List Waiter
  ws = (s.lists (chan_queue k)).exclusive

  abbrev new : Waiter
  new = record { thread = t; kept = s.base t }

  abbrev queue : Lists
  queue = record (s.lists (chan_queue k)) { exclusive = with_last new ws }

  abbrev lists : QueueName → Lists
  lists = put_queue s.lists (chan_queue k) queue

  -- 1. The thread sleeps on this channel, and on no other

  sleeps : is_asleep s.history k t ≡ true
  sleeps = asleep l h t k g.slept
      (λ v lt. grind (arith, signals_nowhere c s t l v lt g.unnamed))
      (ap is_signalled g.queued) g.unwoken

  there_alone : (d : ℕ) → is_asleep s.history d t ≡ true → k ≡ d
  there_alone d i = one_channel k d (s.log t) g.slept (slept l h t d i)

  newly_slept : SleepersSlept blocked_on s.log
  unfolding SleepersSlept
  newly_slept u d = grind (arith, columns, h.sleepers_slept u d, g.slept)

  wants : SleepersWantNothing blocked_on s.wanted
  unfolding SleepersWantNothing
  wants u d = grind (arith, columns, h.sleepers_want_nothing u d, g.wants)

  unwoken : SleepersAreUnwoken blocked_on s.woken_from
  unfolding SleepersAreUnwoken
  unwoken u d = grind (arith, columns, h.sleepers_are_unwoken u d, g.unwoken)

  no_halt : is_chan_halt (s.noted t) ≡ 0
  no_halt = unnoted_unhalted (s.noted t) a.unnoted

  unaborted : off c s t ≡ 0
  unaborted = off_acting c s t l g.unnamed (ap is_woken g.queued) ∙ no_halt

  unhalted : SleepersAreUnhalted blocked_on s.noted
  unfolding SleepersAreUnhalted
  unhalted u d = grind (arith, columns, h.sleepers_are_unhalted u d, no_halt)

  there : AsleepStandThere s.history blocked_on (off c s)
  unfolding AsleepStandThere
  there u d q = grind (arith, columns, h.asleep_stand_there u d q, there_alone d)

  way : AsleepAreOnTheirWay s.history blocked_on (off c s) s.wait s.wanted at_work
  unfolding AsleepAreOnTheirWay
  way u d = grind (arith, columns, h.asleep_are_on_their_way u d)

  -- 2. It stands last

  order : SleepersInOrder s.history lists
  unfolding SleepersInOrder LatecomersAreLater
  order = at_put_chan (λ d q. InOrder s.history q.exclusive) s.lists k queue
      (in_order-last s.history new ws (h.latecomers_are_later t k sleeps unaborted g.unnamed)
      (h.sleepers_in_order k))
      h.sleepers_in_order

  -- who else is on its way to the channel would be at work on it
  later : LatecomersAreLater s.history blocked_on (off c s) lists
  unfolding LatecomersAreLater
  later u d i z n = rw (put_chan_other s.lists k queue d other) (h.latecomers_are_later u d i z away)
    where
      away : s.blocked_on u ≡ None
      away = grind (arith, columns, n)

      other : k ≡ d → ⊥
      other e =
          let z : Some t ≡ Some u = sym a.works ∙ ap at_work e ∙ is_at_work l h u d i z away in
          grind (arith, columns, n)

  bases : SleepersKeepBase s.base lists
  unfolding SleepersKeepBase
  bases = at_put_chan (λ d q. Each (KeepsBase s.base) q.exclusive) s.lists k queue
      (each-last (KeepsBase s.base) new ws refl (h.sleepers_keep_base k)) h.sleepers_keep_base

  sides : SleepersAreExclusive lists
  unfolding SleepersAreExclusive
  sides = at_put_chan (λ d q. q.shared ≡ []) s.lists k queue (h.sleepers_are_exclusive k)
      h.sleepers_are_exclusive

  -- a wake of the channel that is not noted would be the thread's
  fair : UnnotedIsFair c s.history s.unstamped lists
  unfolding UnnotedIsFair
  fair v w lt f = rw (put_chan_other s.lists k queue w.chan other) (h.unnoted_is_fair v w lt f)
    where
      other : k ≡ w.chan → ⊥
      other e =
          let same : t ≡ v = its_thread l h t k v w a.works f e in
          let z : None ≡ Some w = sym a.stamped ∙ ap s.unstamped same ∙ f in
          cc

  pub adds : SleepersFit at_work c (after_add s t k x)
  unfolding after_add
  adds = assumption (h, newly_slept, wants, unwoken, unhalted, there, way, order, later, bases, sides, fair)
