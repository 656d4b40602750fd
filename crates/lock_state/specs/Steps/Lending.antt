-- Steps that lend priority: a claim, and the hops of a walk. What each asks of the state, and what it makes of it.
use Rattle.std.specs.Prelude.{◌≡◌, ◌⊎◌, ℕ, ◌<◌, Bool, true, false, not, ◌&&◌, ◌==◌, ◌∷◌, Option, Some, None}
use Rattle.lock_model.specs.Words.{is_free, is_turnstile, shows_waiters, claimed}
use Rattle.lock_state.specs.Steps.LockWords.{IsActing, effective_of}
use Rattle.lock_state.specs.Steps.Turnstiles.{walk_up}
use Rattle.lock_model.specs.Config.{Config}
use Rattle.lock_state.specs.State.{State, Walk, NoWalk, AtLock, AtThread, Loan, put, put_at, put_queue}
use Rattle.lock_model.specs.Holds.{NotHeld, Holds}
use Rattle.lock_model.specs.Queues.{lock_queue, names_turnstile, stands, least_of, with_kept}
use Rattle.lock_model.specs.declared.plan.Kind.TheVariants.{Rw}
use Rattle.lock_model.specs.declared.plan.Mode.TheVariants.{Excl}

-- the loan that the node of the turnstile h carries
abbrev pub loan_of : ℕ → Option ℕ → Option Loan
loan_of h None = None
loan_of h (Some p) = Some (record { number = h; prio = p })

-- 1. A claim: an exclusive gain of a free rw lock that shows waiters. The thread is the owner of the turnstile h, and
-- its loan is the least kept priority of both lists

-- what a claim asks
pub record MayClaim (c : Config) (s : State) (t l h : ℕ) : Type 0 where
  pub thread : t < c.threads
  pub lock : l < c.locks
  pub kind : c.kind l ≡ Rw
  pub free : is_free (s.word l).holder ≡ true
  pub shown : shows_waiters (s.word l) ≡ true
  pub head : s.head (lock_queue l) ≡ Some h
  pub unheld : s.held t l ≡ NotHeld
  pub acting : IsActing s t
  pub wants : (s.wanted t ≡ Some l) ⊎ (s.wanted t ≡ None)

-- the lock is held, and the thread is owner with a loan
unfoldable pub after_claim : Config → State → ℕ → ℕ → ℕ → Bool → State
after_claim c s t l h by_try =
    let new : Option Loan = loan_of h (least_of (s.lists (lock_queue l))) in
    record s {
      word = put s.word l (claimed (s.word l) t);
      owner = put_queue s.owner (lock_queue l) (Some t);
      held = put_at s.held t l (Holds Excl);
      held_locks = put s.held_locks t (record { lock = l; by_try = by_try } ∷ s.held_locks t);
      wanted = put s.wanted t None;
      called = put s.called t None;
      loan = put_at s.loan t l new;
      loan_home = put s.loan_home h false;
      effective = put s.effective t (effective_of c (put (s.loan t) l new) (s.base t));
      looks = put s.looks t 0;
      last_look = put s.last_look t None;
      round = put s.round t None;
      has_begun = put_at s.has_begun t l false;
    }

-- 2. A walk at a lock: the owner's loan becomes the least kept priority of both lists. The walk goes on to the owner
-- where its effective priority changed and its record names a turnstile

-- what a hop at a lock asks
pub record MayLend (c : Config) (s : State) (t l o h : ℕ) : Type 0 where
  pub thread : t < c.threads
  pub lock : l < c.locks
  pub walks : s.walk t ≡ AtLock l
  pub head : s.head (lock_queue l) ≡ Some h
  pub owned : s.owner (lock_queue l) ≡ Some o

-- a walk to the thread o, or its end
abbrev pub walk_to : ℕ → Bool → Walk
walk_to o true = AtThread o
walk_to o false = NoWalk

-- the loan is the least kept priority, and the walk goes on or ends
unfoldable pub after_lend : Config → State → ℕ → ℕ → ℕ → ℕ → State
after_lend c s t l o h =
    let new : Option Loan = loan_of h (least_of (s.lists (lock_queue l))) in
    let e : ℕ = effective_of c (put (s.loan o) l new) (s.base o) in
    record s {
      loan = put_at s.loan o l new;
      loan_home = put s.loan_home h false;
      effective = put s.effective o e;
      walk = put s.walk t (walk_to o
          (not (e == s.effective o) && names_turnstile c (s.blocked_on o)));
    }

-- 3. A walk at a thread that stands on a turnstile: its entry is inserted anew with its effective priority, and the
-- walk goes on to that lock where the turnstile has an owner

-- what a hop at a thread asks
pub record MayShift (c : Config) (s : State) (t o l : ℕ) : Type 0 where
  pub thread : t < c.threads
  pub turnstile : is_turnstile (c.kind l) ≡ true
  pub walks : s.walk t ≡ AtThread o
  pub blocked_on : s.blocked_on o ≡ Some (lock_queue l)
  pub stands : 0 < stands o (s.lists (lock_queue l))

-- the entry is inserted anew, and the walk goes on or ends
unfoldable pub after_shift : State → ℕ → ℕ → ℕ → State
after_shift s t o l = record s {
  lists = put_queue s.lists (lock_queue l) (with_kept o (s.effective o) (s.lists (lock_queue l)));
  walk = put s.walk t (walk_up l (s.owner (lock_queue l)));
}

-- 4. The end of a walk: at a lock whose turnstile has no owner, or at a thread that stands on no turnstile

-- whether a walk has nothing to do where it stands
abbrev pub IsAtEnd : Config → State → Walk → Type 0
IsAtEnd c s NoWalk = ⊥
IsAtEnd c s (AtLock l) = s.owner (lock_queue l) ≡ None
IsAtEnd c s (AtThread o) =
    (l : ℕ) → is_turnstile (c.kind l) ≡ true → s.blocked_on o ≡ Some (lock_queue l)
    → stands o (s.lists (lock_queue l)) ≡ 0

-- what the end of a walk asks
pub record MayEndWalk (c : Config) (s : State) (t : ℕ) : Type 0 where
  pub thread : t < c.threads
  pub there : IsAtEnd c s (s.walk t)

-- no walk is under way
unfoldable pub after_end_walk : State → ℕ → State
after_end_walk s t = record s { walk = put s.walk t NoWalk }
