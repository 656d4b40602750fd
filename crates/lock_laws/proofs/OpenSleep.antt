-- An open of an sx lock keeps each fact.
use Rattle.lock_laws.proofs.Names.{ℕ, refl, Config, lock_queue, opened, Mode, State, Lawful, MayOpenSleep}
use Rattle.lock_laws.proofs.Names.{after_open_sleep}
use Rattle.lock_laws.proofs.SleepQueues.{unowned, loans_stay, sx_word}
use Rattle.lock_laws.proofs.LockQueues.{lists_left, head_left, whole_side, opened_lock}
use Rattle.lock_laws.proofs.TakingOff.{by_signal}

module _ (c : Config) (s : State) (t l : ℕ) (mode : Mode) (g : MayOpenSleep c s t l mode) (h : Lawful c s) where
  pub lawful : Lawful c (after_open_sleep c s t l)
  unfolding after_open_sleep
  lawful = assumption (
    by_signal (whole_side g.releases h) h g.releases.unmarked s.owner (λ r e. refl)
        (λ e. unowned h (lock_queue l) g.sleeps),
    opened_lock g.releases h,
    loans_stay h (lock_queue l) g.sleeps (lists_left c s l) (head_left c s l) _
        (sx_word c s.word l (opened (c.kind l) (s.word l)) g.sleeps),
  )
