-- Laws of the owners of turnstiles: what a word's new holder means for them.
use Rattle.lock_laws.proofs.Names
use Names.{ℕ, Bool, true, List, Option, Some, inl, inr, arith, cases_eq, Config, Word, admits, is_plain, is_drop}
use Names.{gained, dropped, shows_waiters, is_turnstile, Lists, lock_queue, State, put, put_queue, Lawful, OwnersHold}
use Names.{ShowsItsWaiters, HeadFits, owner_if, Kind, Mode}
use Rattle.std.proofs.Common.{◌≡◌}
use Rattle.lock_laws.proofs.Kit.{put_same, put_other, put_lock_same, put_lock_other}

-- a plain gain changes no owner
pub owner_gained : (kind : Kind) (w : Word) (q : Lists) (xs : List ℕ) (h o : Option ℕ) (t : ℕ) (mode : Mode)
    → admits kind w mode ≡ true → is_plain kind w mode ≡ true
    → ShowsItsWaiters w q → HeadFits q xs h o
    → owner_if (is_turnstile kind) h w.holder ≡ owner_if (is_turnstile kind) h (gained w t mode).holder
owner_gained kind w q xs h o t mode a p s f = grind arith

-- nor does a drop
pub owner_dropped : (turnstile : Bool) (w : Word) (q : Lists) (xs : List ℕ) (h o : Option ℕ) → is_drop w ≡ true
    → ShowsItsWaiters w q → HeadFits q xs h o → owner_if turnstile h w.holder ≡ owner_if turnstile h (dropped w).holder
owner_dropped turnstile w q xs h o d s f = grind arith

-- the owner, the head and the word of one lock are changed
pub owners_put : {c : Config} {s : State} → Lawful c s → (l : ℕ) (owner head : Option ℕ) (w : Word)
    → owner ≡ owner_if (is_turnstile (c.kind l)) head w.holder
    → OwnersHold c (put_queue s.owner (lock_queue l) owner) (put_queue s.head (lock_queue l) head) (put s.word l w)
unfolding OwnersHold
owners_put {s} h l owner head w here k =
    elim (cases_eq l k) [
      | inl e ↦ rw (← e) (simp (put_same, put_lock_same) here)
      | inr e ↦ rw (put_other s.word l w k e, put_lock_other s.head l head k e, put_lock_other s.owner l owner k e)
          (h.loans.owners_hold k)
    ]
