-- What a wake takes off a channel's list of sleepers, and what it leaves.
use Rattle.lock_laws.proofs.Names.{Bool, true, false, List, Option, Some, None, refl, Waiter, best_of, one_or_none}
use Rattle.lock_laws.proofs.Names.{without_best, taken_off, left_on, best_stands}
use Rattle.std.proofs.Common.{◌≡◌}
use Rattle.lock_laws.proofs.TakingOff.{Parts, all_taken, none_taken, one_taken}

-- the best or all are taken off
pub best_or_all : (all : Bool) (ws : List Waiter) → Parts ws (taken_off all ws) (left_on all ws)
best_or_all true ws = all_taken ws
best_or_all false ws = go (best_of ws) refl
  where
    go : (o : Option Waiter) → best_of ws ≡ o → Parts ws (one_or_none o) (without_best o ws)
    go None e = none_taken ws
    go (Some w) e = one_taken w ws (best_stands ws w e)
