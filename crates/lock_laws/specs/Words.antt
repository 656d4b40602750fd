-- The word of a lock as a thread sees it that doesn't hold the lock.
use Rattle.std.specs.Prelude.{◌≡◌, ◌≢◌, ℕ, ◌≤◌, true, false, ⊤}
use Rattle.lock_model.specs.Words.{Word, Holder, Free, HeldBy, SharedBy, IsWellFormed, is_free, shows_waiters}
use Rattle.lock_model.specs.declared.plan.Kind.{Kind}
use Rattle.lock_model.specs.declared.plan.Kind.TheVariants.{Mtx}

-- among those who share the lock there is room for one more
abbrev pub HasRoom : Holder → Type 0
HasRoom Free = ⊤
HasRoom (HeldBy t) = ⊤
HasRoom (SharedBy n) = n ≤ 63

-- A thread can see the word of a lock of that kind which it doesn't hold: one more may share the lock, a free mutex
-- shows no waiters, and a mutex isn't shared.
pub record CanBeSeen (kind : Kind) (w : Word) : Type 0 where
  pub formed : IsWellFormed w
  pub room : HasRoom w.holder
  pub mutex : kind ≡ Mtx → is_free w.holder ≡ true → shows_waiters w ≡ false
  pub unshared : kind ≡ Mtx → (n : ℕ) → w.holder ≢ SharedBy n
