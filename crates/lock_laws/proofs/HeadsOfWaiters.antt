-- A queue of a lawful state on which a thread stands has a head.
use Rattle.lock_laws.proofs.Names
use Names.{ℕ, eqb, List, [], length, Option, Some, None, inl, inr, refl, ap, arith, cases_Bool, Config, State, Waiter}
use Names.{Lists, times_waiting, stands, Lawful, HeadsFitWaiters, HeadFits, QueueName}
use Rattle.std.proofs.Common.{◌≡◌, ◌<◌, ◌≤◌, ◌∷◌}

times_waiting-le : (u : ℕ) (ws : List Waiter) → times_waiting u ws ≤ length ws
times_waiting-le u [] = omega arith
times_waiting-le u (w ∷ ws) =
    let r = times_waiting-le u ws in
    elim (cases_Bool (eqb u w.thread)) [ inl e ↦ rw e (omega arith) | inr e ↦ rw e (omega arith) ]

fits_head : (lists : Lists) (free : List ℕ) (head owner : Option ℕ) (u : ℕ) → HeadFits lists free head owner
    → 0 < stands u lists → (x : ℕ) × (head ≡ Some x)
fits_head lists free None owner u f k =
    let e = ap length (f.no_free refl) in
    absurd (omega (arith, e, f.balanced, k, times_waiting-le u lists.exclusive, times_waiting-le u lists.shared))
fits_head lists free (Some x) owner u f k = (x, refl)

pub standing_head : (c : Config) (s : State) (u : ℕ) (q : QueueName) → Lawful c s → 0 < stands u (s.lists q)
    → (x : ℕ) × (s.head q ≡ Some x)
unfolding HeadsFitWaiters
standing_head c s u q h k =
    fits_head (s.lists q) (s.free_list q) (s.head q) (s.owner q) u (h.queues.heads_fit_waiters q) k
