-- A release as it goes on: whom its last part wakes, and where it stands then is noted in the pass.
use Rattle.lock_calls.proofs.Names
use Names.{refl, sym, ap, subst, LockNo, ThreadNo, Mode, RecordOf, Description, Knowledge, ReleaseAt, Wakes, Pass, Done}
use Names.{Again, Wake, ReleaseNext, HasPutDown, HasWokenOne, IsReleased, IsUnderRelease, ReleasesOn, ReleasesPart}
use Names.{GoesOnReleasing, WakesNext, once_released, nobody_left}
use Rattle.std.proofs.Common.{◌≡◌}
use Rattle.lock_floor.specs.declared.calls.Call.TheVariants as calls
use Rattle.lock_calls.specs.declared.answers.ReleaseNext.TheVariants as next
use Rattle.lock_calls.specs.Releases.{finds_out}
use Rattle.lock_calls.proofs.Calls.{call_noted, view_noted}
use Rattle.lock_calls.proofs.Leaving.{down_still, down_woken, rests_then, under_on, under_woken}

-- 1. Whom it wakes

pub wakes_part : (floor : Description) (l : LockNo) (mode : Mode) (n : ReleaseNext) (v w : Knowledge)
    → HasPutDown l.0 v → WakesNext floor n v w → ReleasesPart floor l mode Wakes n v w
wakes_part floor l mode next.Done v w h x = subst (IsReleased floor l mode Wakes v) (sym x.1)
    record { down = h; nobody = x.0; kept = refl; end = nobody_left x.0 }
wakes_part floor l mode (next.At to) v w h x =
    let view = x.4 in
    subst (λ a. ReleasesOn floor l mode Wakes a v w) (sym x.0) record {
      there = down_still l.0 v w h view;
      kept = ap (once_released l.0 Wakes) view;
      leg = finds_out Wakes (RecordOf x.1.thread) (x.1, x.2, x.3, refl) view x.5;
    }
wakes_part floor l mode (next.Wake t) v w h x = record {
  at_end = refl;
  of_floor = x.0;
  wakes = x.1;
  down = down_woken l.0 v w h floor t.0 x.1;
  kept = ap (once_released l.0 Wakes) x.1.view;
}

-- 2. Where it stands

module _ (floor : Description) (l : LockNo) (mode : Mode) (at : ReleaseAt) (old v q : Pass Knowledge)
    (u : IsUnderRelease floor l mode at old.view) where
  pub release_ends : IsReleased floor l mode at old.view v.view → q ≡ record v { call = calls.None }
      → GoesOnReleasing floor l mode at Done old q
  release_ends d noted =
      let same = sym (view_noted v q calls.None noted) in
      record {
        call = call_noted v q calls.None noted;
        released = subst (IsReleased floor l mode at old.view) same d;
        rest = rests_then floor l mode at old.view q.view u (subst (IsReleased floor l mode at old.view) same d);
      }

  pub release_stands : (to : ReleaseAt) → ReleasesOn floor l mode at to old.view v.view
      → q ≡ record v { call = calls.Release l mode to } → GoesOnReleasing floor l mode at Again old q
  release_stands to on noted =
      let now : ReleasesOn floor l mode at to old.view q.view =
      subst (ReleasesOn floor l mode at to old.view) (sym (view_noted v q (calls.Release l mode to) noted)) on in
      record {
        to = to;
        call = call_noted v q (calls.Release l mode to) noted;
        on = now;
        there = under_on floor l mode at old.view q.view u to now;
      }

  pub release_wakes : (t : ThreadNo) → HasWokenOne floor l.0 at t.0 old.view v.view
      → q ≡ record v { call = calls.Release l mode Wakes } → GoesOnReleasing floor l mode at (Wake t) old q
  release_wakes t x noted =
      let now : HasWokenOne floor l.0 at t.0 old.view q.view =
      subst (HasWokenOne floor l.0 at t.0 old.view) (sym (view_noted v q (calls.Release l mode Wakes) noted)) x in
      record {
        call = call_noted v q (calls.Release l mode Wakes) noted;
        woken = now;
        there = under_woken floor l mode at old.view q.view u t.0 now;
      }
