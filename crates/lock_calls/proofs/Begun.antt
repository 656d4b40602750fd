-- A take has begun: by its first exchange it gained the lock, or the lock's order is to be checked.
use Rattle.lock_calls.proofs.Names
use Names.{[], sym, ap, subst, arith, Locked, LockNo, Mode, Stamps, Description, Makes, Knowledge, Checks, Pass}
use Names.{IsAtRest, Done, Again, MayTake, HasMissedFirst, IsUnderTake, HasTaken, HasBegunTake, Kept, kept_of}
use Names.{IsCalling, HasGainedFirst, HasMissed}
use Rattle.std.proofs.Common.{◌≡◌, ◌∷◌, ◌∙◌}
use Rattle.lock_floor.specs.declared.calls.Call.TheVariants as calls
use Rattle.lock_calls.proofs.Attempts.{is_checking}
use Rattle.lock_calls.proofs.Calls.{call_noted, view_noted}

pub gains_first : (floor : Description) (l : LockNo) (mode : Mode) (old v new q : Pass Knowledge)
    → old.view.share.held ≡ [] → HasGainedFirst floor l mode old.view v.view
    → HasTaken floor l mode old.view new.view
    → Makes floor (Stamps old.view.thread (Locked l mode) ∷ []) v.view new.view → q ≡ record new { call = calls.None }
    → HasBegunTake floor l mode Done old q
gains_first floor l mode old v new q bare gained taken notes is =
    let same : new.view ≡ q.view = sym (view_noted new q calls.None is) in
    record {
      call = call_noted new q calls.None is;
      bare = bare;
      taken = subst (HasTaken floor l mode old.view) same taken;
      gained = v.view;
      gains = gained.gains;
      notes = subst (Makes floor (Stamps old.view.thread (Locked l mode) ∷ []) v.view) same notes;
    }

pub has_begun : (floor : Description) (l : LockNo) (mode : Mode) (old v q : Pass Knowledge)
    → MayTake floor l.0 mode old.view
    → IsCalling floor (kept_of old.view) → IsAtRest floor old.view → HasMissed floor l.0 mode old.view v.view
    → q ≡ record v { call = calls.Take l mode Checks } → HasBegunTake floor l mode Again old q
has_begun floor l mode old v q may calling r h is =
    let same : v.view ≡ q.view = sym (view_noted v q (calls.Take l mode Checks) is) in
    let kept : kept_of v.view ≡ kept_of old.view = ap kept_of h.knows in
    record {
      call = call_noted v q (calls.Take l mode Checks) is;
      there = subst (IsUnderTake floor l mode Checks) same record {
        covered = may.covered;
        calling = subst (IsCalling floor) (sym kept) calling;
        room = omega (arith, may.room, ap (λ (k : Kept). k.spare) kept);
        there = is_checking floor l.0 mode old.view v.view r may.unheld may.few h;
      };
      kept = ap kept_of (sym same) ∙ kept;
      missed = h.missed;
      first = subst (HasMissedFirst floor l.0 mode h.missed old.view) same h.first;
    }
