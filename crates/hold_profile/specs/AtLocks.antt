-- What is counted of a lock at an event: of which lock, and what.
use Rattle.std.specs.Prelude.{Option, Some, None}
use Rattle.lock_model.specs.Events.{facets, lock_facet}
use Rattle.lock_model.specs.Plans.{chan_lock}
use Rattle.lock_model.specs.declared.numbers.ChanNo.{ChanNo}
use Rattle.lock_model.specs.declared.numbers.LockNo.{LockNo}
use Rattle.lock_model.specs.declared.event.Event.{Event}
use Rattle.lock_model.specs.declared.event.LockFacet.{LockFacet}
use Rattle.lock_model.specs.declared.event.LockFacet.TheVariants as said
use Rattle.lock_model.specs.declared.plan.Plan.{Plan}
use Rattle.hold_profile.specs.declared.events.AtLock.{AtLock}
use Rattle.hold_profile.specs.declared.events.AtLock.TheVariants.{Begins, Ends, Leaves, FindsBusy, IsHalted}

-- the lock of a condition variable or channel
abbrev pub lock_of : Plan → ChanNo → LockNo
lock_of plan d = record { 0 = chan_lock plan d.0 }

-- what is counted, by what is said of a lock
abbrev pub counted : Plan → LockFacet → Option (LockNo × AtLock)
counted plan said.NoLock = None
counted plan (said.Begins l mode) = Some (l, Begins)
counted plan (said.Ends l mode) = Some (l, Ends)
counted plan (said.Leaves d) = Some (lock_of plan d, Leaves)
counted plan (said.TakesBack d) = Some (lock_of plan d, Begins)
counted plan (said.FindsBusy l seen) = Some (l, FindsBusy)
counted plan (said.IsHalted l) = Some (l, IsHalted)
counted plan (said.IsRefused l held) = None

abbrev pub at_lock : Plan → Event → Option (LockNo × AtLock)
at_lock plan e = counted plan (lock_facet (facets e).section (facets e).take)
