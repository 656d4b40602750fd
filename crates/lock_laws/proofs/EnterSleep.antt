-- An enter on an sx lock keeps each fact.
use Rattle.lock_laws.proofs.Names
use Names.{ℕ, false, refl, Config, Lists, lock_queue, side_of, list_of, with_list, head_with, with_last, Word, entered}
use Names.{X, Mode, QueueName, State, put, Lawful, MayEnterSleep, after_enter_sleep}
use Rattle.std.proofs.Common.{◌≡◌}
use Rattle.lock_laws.proofs.ComingToStand.{IsOfMutex, MayStand, at_tail, comes_to_stand}
use Rattle.lock_laws.proofs.SleepQueues.{loans_stay, sx_word}
use Rattle.lock_laws.proofs.LockQueues.{entered_lock}

module _ (c : Config) (s : State) (t l : ℕ) (mode : Mode) (x : ℕ) (g : MayEnterSleep c s t l mode x) (h : Lawful c s)
  where
    abbrev q : QueueName
    q = lock_queue l

    abbrev lists : Lists
    lists =
        with_list (side_of mode)
        (with_last (record { thread = t; kept = s.base t }) (list_of (side_of mode) (s.lists q))) (s.lists q)

    abbrev word : Word
    word = entered (s.word l) (side_of mode)

    no_mutex : IsOfMutex c q → side_of mode ≡ X
    no_mutex m = absurd (let z = rw m at g.sleeps in cc)

    may_stand : MayStand c s t q false (side_of mode) x
    may_stand = assumption no_mutex

    pub lawful : Lawful c (after_enter_sleep s t l mode x)
    unfolding after_enter_sleep
    lawful = assumption (
      comes_to_stand at_tail (s.base t) may_stand h s.owner (λ r e. refl),
      entered_lock at_tail (s.base t) may_stand h g.waits.held g.waits.wants,
      loans_stay h q g.sleeps lists (head_with (s.head q) x) (put s.word l word) (sx_word c s.word l word g.sleeps),
    )
