-- A thread that found out what it needs, or that it is queued still, knows nothing else anew: its next steps lead on
-- from what it knew before.
use Rattle.lock_calls.proofs.Names.{ℕ, List, ap, sym, subst, Step, Item, Description, Makes, MakesEach, Knowledge}
use Rattle.lock_calls.proofs.Names.{seeing, sooner, Takes, HasWaited, takes_then}
use Rattle.std.proofs.Common.{◌≡◌, ◌∷◌}

pub makes_sooner : (floor : Description) (steps : List Step) (old mid new : Knowledge) → HasWaited old mid
    → Makes floor steps mid new → Makes floor steps old new
makes_sooner floor steps old mid new h m =
    sooner floor steps mid.seen old new h.since (subst (λ (k : Knowledge). Makes floor steps k new) h.view m)

pub each_sooner : (floor : Description) (steps : List Step) (more : List (List Step)) (old mid new : Knowledge)
    → HasWaited old mid → MakesEach floor (steps ∷ more) mid new → MakesEach floor (steps ∷ more) old new
each_sooner floor steps more old mid new h m = (m.0, makes_sooner floor steps old mid m.0 h m.1, m.2)

pub takes_sooner : (floor : Description) (i : Item) (j : ℕ) (old mid new : Knowledge) → HasWaited old mid
    → Takes floor i j mid new → Takes floor i j old new
takes_sooner floor i j old mid new h taken = takes_then floor i j old mid new h taken

-- what it knew, with the steps that it had seen then
pub before_waiting : (old mid : Knowledge) → HasWaited old mid → old ≡ seeing old.seen mid
before_waiting old mid h = sym (ap (seeing old.seen) h.view)
