-- Steps that count who is awake, on a running floor: a thread counts itself out before it parks or when it has ended,
-- counts another in before it wakes it, and counts itself in where its counting out left nobody awake. And steps by
-- which a thread says that it has ended, and sets the halt word. A thread's term in the awake count is 1, less its
-- countings out, plus the times that it was counted in. What each asks of the state, and what it makes of it.
use Rattle.std.specs.Prelude.{◌≡◌, ◌≢◌, ℕ, suc, ◌-◌, ◌<◌, Bool, true, false, ◌==◌, if◌then◌else◌, List, [], ◌∷◌, Some, None}
use Rattle.lock_model.specs.Config.{Config}
use Rattle.lock_model.specs.Holds.{NotHeld}
use Rattle.lock_model.specs.Queues.{Mark}
use Rattle.lock_model.specs.declared.plan.QueueName.{QueueName}
use Rattle.lock_state.specs.State.{State, Running, NoWalk, Phase, Asleep, Last, Halting, SelfAborted, is_parked, put, put_at}
use Rattle.lock_state.specs.Steps.Turnstiles.{HasReleased}

-- 1. Counting oneself out: of a thread that doesn't run, or has ended, and has nothing left to do. One that stands on a
-- channel has released the lock of its wait

-- what it asks
pub record MayCountOut (c : Config) (s : State) (t : ℕ) : Type 0 where
  pub thread : t < c.threads
  pub unparked : is_parked (s.phase t) ≡ false
  pub unaborted : s.phase t ≢ SelfAborted
  pub waits : s.has_ended t ≡ false → s.wait t ≢ Running
  pub no_walk : s.walk t ≡ NoWalk
  pub unmarked : s.marked t ≡ []
  pub released : (q : QueueName) → s.blocked_on t ≡ Some q → HasReleased c s t q

-- whether somebody is left
abbrev pub phase_out : ℕ → Phase
phase_out awake = if awake == 1 then Last else Asleep

-- the thread isn't counted any more, and is parked
unfoldable pub after_count_out : State → ℕ → State
after_count_out s t = record s {
  awake = s.awake - 1;
  counted_out = put s.counted_out t (suc (s.counted_out t));
  phase = put s.phase t (phase_out s.awake);
}

-- 2. Counting another in: the first of the marked list, once, before its mark

-- the thread is the first of a marked list
abbrev pub IsFirst : ℕ → List Mark → Type 0
IsFirst u [] = ⊥
IsFirst u (m ∷ ms) = m.thread ≡ u

-- what it asks
pub record MayCountIn (c : Config) (s : State) (t u : ℕ) : Type 0 where
  pub thread : t < c.threads
  pub unparked : is_parked (s.phase t) ≡ false
  pub first : IsFirst u (s.marked t)
  pub other : t ≢ u
  pub once : s.counting t ≡ None

-- the thread u is counted
unfoldable pub after_count_in : State → ℕ → ℕ → State
after_count_in s t u = record s {
  awake = suc s.awake;
  counted_in = put_at s.counted_in t u (suc (s.counted_in t u));
  counting = put s.counting t (Some u);
}

-- 3. Counting oneself in: of a finder, while it is parked and a thread hasn't ended

-- what it asks
pub record MayCountSelfIn (c : Config) (s : State) (t : ℕ) : Type 0 where
  pub thread : t < c.threads
  pub last : s.phase t ≡ Last
  pub alive : s.ended < c.threads

-- it is counted, and parked no more
unfoldable pub after_count_self_in : State → ℕ → State
after_count_self_in s t = record s {
  awake = suc s.awake;
  counted_in = put_at s.counted_in t t (suc (s.counted_in t t));
  phase = put s.phase t Halting;
}

-- 4. Raising the ended count: of a running thread that holds nothing and wants nothing, once

-- what it asks
pub record MayCountEnd (c : Config) (s : State) (t : ℕ) : Type 0 where
  pub thread : t < c.threads
  pub alive : s.has_ended t ≡ false
  pub running : s.wait t ≡ Running
  pub bare : (l : ℕ) → s.held t l ≡ NotHeld
  pub wants : s.wanted t ≡ None

-- the thread has ended
unfoldable pub after_count_end : State → ℕ → State
after_count_end s t = record s { ended = suc s.ended; has_ended = put s.has_ended t true }

-- 5. Setting the halt word: of a finder that counted itself in, where a thread hasn't ended

-- what it asks
pub record MayHalt (c : Config) (s : State) (t : ℕ) : Type 0 where
  pub thread : t < c.threads
  pub finder : s.phase t ≡ Halting
  pub alive : s.ended < c.threads

-- the moment of the halt: that at which the word was first set
abbrev pub moment_of : Bool → ℕ → ℕ → ℕ
moment_of halted at next = if halted then at else next

-- the halt word is 1
unfoldable pub after_halt : State → State
after_halt s = record s { halted = true; halted_at = moment_of s.halted s.halted_at s.next }
