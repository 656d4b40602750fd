-- An add to a channel, and a wake there, keep each fact.
use Rattle.lock_laws.proofs.Names
use Names.{ℕ, Bool, false, List, None, refl, ap, arith, Config, Waiter, Lists, chan_queue, with_list, head_with, dealt}
use Names.{head_after, with_last, taken_off, left_on, QueueName, X, State, put, MayAdd, MayWake, after_add, after_wake}
use Names.{Lawful, CalledWants, FreeWordHasCalled, callers, calls_marked}
use Rattle.std.proofs.Common.{◌≡◌}
use Rattle.lock_laws.proofs.Kit.{put_back, sum_below-put}
use Rattle.lock_laws.proofs.ComingToStand.{MayStand, at_tail, comes_to_stand}
use Rattle.lock_laws.proofs.TakingOff.{MayTakeOff, by_signal}
use Rattle.lock_laws.proofs.Sleepers.{best_or_all}
use Rattle.lock_laws.proofs.SleepQueues.{unowned, loans_stay, bits_stay}

-- 1. An add

module _ (c : Config) (s : State) (t d x : ℕ) (g : MayAdd c s t d x) (h : Lawful c s) where
  abbrev q : QueueName
  q = chan_queue d

  abbrev lists : Lists
  lists = with_list X (with_last (record { thread = t; kept = s.base t }) (s.lists q).exclusive) (s.lists q)

  may_stand : MayStand c s t q false X x
  may_stand = grind arith

  uncalled : s.called t ≡ None
  unfolding CalledWants
  uncalled = grind arith

  pub add_lawful : Lawful c (after_add s t d x)
  unfolding after_add
  add_lawful = assumption (
    rw (put_back s.wanted t None g.wants, put_back s.called t None uncalled)
        at (comes_to_stand at_tail (s.base t) may_stand h s.owner (λ r e. refl)),
    bits_stay h d lists,
    loans_stay h q refl lists (head_with (s.head q) x) s.word (λ l e. refl),
  )

-- 2. A wake

module _ (c : Config) (s : State) (t d : ℕ) (all : Bool) (g : MayWake c s t d all) (h : Lawful c s) where
  abbrev r : QueueName
  r = chan_queue d

  abbrev woken : List Waiter
  woken = taken_off all (s.lists r).exclusive

  abbrev stay : Lists
  stay = with_list X (left_on all (s.lists r).exclusive) (s.lists r)

  may_take_off : MayTakeOff c s t r X woken (left_on all (s.lists r).exclusive)
  may_take_off = record { thread = g.thread; queue = g.chan; parts = best_or_all all (s.lists r).exclusive }

  -- marks of a channel call for no lock
  called : FreeWordHasCalled c s.word (put s.marked t (dealt r woken (s.free_list r) (s.head r))) s.wait s.called
  unfolding FreeWordHasCalled callers
  called l =
      let a = sum_below-put c.threads (calls_marked l) s.marked t (dealt r woken (s.free_list r) (s.head r)) g.thread in
      let e = ap (calls_marked l) g.unmarked in
      omega (arith, h.waits.free_word_has_called l)

  pub wake_lawful : Lawful c (after_wake s t d all)
  unfolding after_wake
  wake_lawful = assumption (
    by_signal may_take_off h g.unmarked s.owner (λ q e. refl) (λ e. unowned h r refl),
    called,
    bits_stay h d stay,
    loans_stay h r refl stay (head_after woken (s.free_list r) (s.head r)) s.word (λ l e. refl),
  )
