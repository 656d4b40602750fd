-- The best priority behind a thread, and cycles of waiting threads.
use Rattle.std.specs.Prelude.{◌≡◌, ◌≢◌, ℕ, zero, suc, ◌<◌, Bool, true, ◌&&◌, nat_le, if◌then◌else◌, List, [], ◌∷◌, ◌++◌, Some, None, ⊤}
use Rattle.lock_model.specs.Counts.{any_below, least}
use Rattle.lock_model.specs.Words.{is_turnstile}
use Rattle.lock_model.specs.Config.{Config}
use Rattle.lock_state.specs.State.{State, NoWalk}
use Rattle.lock_model.specs.Holds.{NotHeld}
use Rattle.lock_model.specs.Queues.{lock_queue, stands}
use Rattle.lock_state.specs.Facts.Words.{owns}

-- whether u stands on the turnstile of a lock whose word is held by t
unfoldable pub is_behind : Config → State → ℕ → ℕ → Bool
is_behind c s u t =
    any_below c.locks (λ l. is_turnstile (c.kind l)
    && (owns t (s.word l).holder && nat_le 1 (stands u (s.lists (lock_queue l)))))

-- u is behind t
abbrev pub IsBehind : Config → State → ℕ → ℕ → Type 0
IsBehind c s u t = is_behind c s u t ≡ true

-- the best of a thread's base and of what is behind it, over n levels
unfoldable pub best_within : Config → State → ℕ → ℕ → ℕ
best_within c s zero t = s.base t
best_within c s (suc n) t =
    least c.threads (λ u. if is_behind c s u t then Some (best_within c s n u) else None) (s.base t)

-- the best priority behind a thread
abbrev pub best_behind : Config → State → ℕ → ℕ
best_behind c s t = best_within c s c.threads t

-- t wants a lock that u holds, in either mode
abbrev pub WaitsFor : State → ℕ → ℕ → Type 0
WaitsFor s t u = (l : ℕ) × (s.wanted t ≡ Some l) × (s.held u l ≢ NotHeld)

-- each thread waits for the next one, and t for the first
abbrev pub WaitsAlong : State → ℕ → List ℕ → Type 0
WaitsAlong s t [] = ⊤
WaitsAlong s t (u ∷ us) = WaitsFor s t u × WaitsAlong s u us

-- a cycle: each thread of a list waits for the next one, and the last for the first
abbrev pub HasCycle : State → Type 0
HasCycle s = (t : ℕ) × ((us : List ℕ) × WaitsAlong s t (us ++ t ∷ []))

-- no walk is under way
abbrev pub NobodyWalks : Config → State → Type 0
NobodyWalks c s = (t : ℕ) → t < c.threads → s.walk t ≡ NoWalk

-- where nobody walks and no cycle of threads waits, each effective priority is the best behind its thread
abbrev pub HasBest : Config → State → Type 0
HasBest c s =
    NobodyWalks c s → (HasCycle s → ⊥) → (t : ℕ) → t < c.threads → s.effective t ≡ best_behind c s t
