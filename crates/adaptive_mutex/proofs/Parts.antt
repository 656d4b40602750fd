-- A take or a release that has begun, or was gone on with, and isn't done: it is under way, so it can be gone on with.
use Rattle.std.proofs.Common.{◌≡◌, ℕ, refl}
use Rattle.lock_model.specs.declared.event.Reversal.{Reversal}
use Rattle.lock_model.specs.declared.numbers.LockNo.{LockNo}
use Rattle.lock_model.specs.declared.plan.Mode.{Mode}
use Rattle.floor_table.specs.declared.description.Description.{Description}
use Rattle.floor_table.specs.Views.{Knowledge}
use Rattle.lock_floor.specs.declared.calls.Call.TheVariants as calls
use Rattle.lock_floor.specs.declared.calls.ReleaseAt.{ReleaseAt}
use Rattle.lock_floor.specs.declared.calls.ReleaseAt.TheVariants.{Wakes}
use Rattle.lock_floor.specs.declared.calls.TakeAt.{TakeAt}
use Rattle.lock_floor.specs.declared.calls.TakeAt.TheVariants.{Checks}
use Rattle.lock_floor.specs.Floors.{Pass}
use Rattle.lock_calls.specs.Choices.{outside}
use Rattle.lock_calls.specs.declared.answers.Next.{Next}
use Rattle.lock_calls.specs.declared.answers.Next.TheVariants.{Done, Again, Sleep, Wake, Reversed, Halted}
use Rattle.lock_calls.specs.Releases.{HasBegunRelease, IsInRelease, StandsInRelease, WakesOne, GoesOnReleasing}
use Rattle.lock_calls.specs.Takes.{HasBegunTake, IsInTake, TakesOn, GoesOnTaking}
use Rattle.lock_calls.proofs.Taken.{under_take_on}

-- 1. A take

pub take_begun : (floor : Description) (l : LockNo) (mode : Mode) (p q : Pass Knowledge)
    → HasBegunTake floor l mode Again p q → IsInTake floor q
take_begun floor l mode p q b = record { l = l; mode = mode; at = Checks; call = b.call; there = b.there }

module _ (floor : Description) (p q : Pass Knowledge) (m : IsInTake floor p) where
  takes_still : (to : TakeAt) → q.call ≡ calls.Take m.l m.mode to → TakesOn floor m.l m.mode m.at to p.view q.view
      → IsInTake floor q
  takes_still to call on = record {
    l = m.l;
    mode = m.mode;
    at = to;
    call = call;
    there = under_take_on floor m.l m.mode m.at to p.view q.view m.there on;
  }

  pub take_goes_on : (next : Next) → (next ≡ Done → ⊥) → ((r : Reversal) → next ≡ Reversed r → ⊥) → (next ≡ Halted → ⊥)
      → ((l : LockNo) (mode : Mode) (at : TakeAt) → p.call ≡ calls.Take l mode at
      → GoesOnTaking floor l mode at next p q)
      → IsInTake floor q
  take_goes_on Done undone unrefused unhalted went = absurd (undone refl)
  take_goes_on Again undone unrefused unhalted went =
      let s = went m.l m.mode m.at m.call in takes_still s.to s.call s.on
  take_goes_on Sleep undone unrefused unhalted went =
      let s = went m.l m.mode m.at m.call in takes_still s.to s.call s.on
  take_goes_on (Wake t) undone unrefused unhalted went =
      let s = went m.l m.mode m.at m.call in takes_still s.to s.call s.wakes.on
  take_goes_on (Reversed r) undone unrefused unhalted went = absurd (unrefused r refl)
  take_goes_on Halted undone unrefused unhalted went = absurd (unhalted refl)

-- 2. A release

pub release_begun : (floor : Description) (l : LockNo) (mode : Mode) (p q : Pass Knowledge)
    → HasBegunRelease floor l mode Again p q → IsInRelease floor q
release_begun floor l mode p q b =
    record { l = l; mode = mode; at = outside mode b.found; call = b.call; there = b.there }

module _ (floor : Description) (p q : Pass Knowledge) (m : IsInRelease floor p) where
  pub releases_still : StandsInRelease floor m.l m.mode m.at p q → IsInRelease floor q
  releases_still s = record {
    l = m.l;
    mode = m.mode;
    at = s.to;
    call = s.call;
    there = s.there;
  }

  pub wakes_still : (t : ℕ) → WakesOne floor m.l m.mode m.at t p q → IsInRelease floor q
  wakes_still t s = record {
    l = m.l;
    mode = m.mode;
    at = Wakes;
    call = s.call;
    there = s.there;
  }

  pub release_goes_on : (next : Next) → (next ≡ Done → ⊥)
      → ((l : LockNo) (mode : Mode) (at : ReleaseAt) → p.call ≡ calls.Release l mode at
      → GoesOnReleasing floor l mode at next p q)
      → IsInRelease floor q
  release_goes_on Done undone went = absurd (undone refl)
  release_goes_on Again undone went = releases_still (went m.l m.mode m.at m.call)
  release_goes_on Sleep undone went = absurd (went m.l m.mode m.at m.call)
  release_goes_on (Reversed r) undone went = absurd (went m.l m.mode m.at m.call)
  release_goes_on Halted undone went = absurd (went m.l m.mode m.at m.call)
  release_goes_on (Wake t) undone went = wakes_still t.0 (went m.l m.mode m.at m.call)
