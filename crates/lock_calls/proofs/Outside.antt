-- A release outside the section of the lock's chain: what allows its exchange there, and where it stands behind it.
use Rattle.lock_calls.proofs.Names
use Names.{ℕ, false, [], length, inl, inr, sym, ap, subst, word_of, IsWellFormed, LockNo, Mode, Looks, Drops}
use Names.{Description, Makes, MayMake, Knowledge, seeing, ComesTo, Wakes, CanMark, IsGoing, MayGiveUp, counts, looked}
use Names.{put_down, dropped_unheld, counts_not, may_drop_settled, may_look_settled, runners_mark, sleepers_mark}
use Names.{outside, LeavesByDrop, HasPutDown, IsReleased, ReleasesOn, once_released, misses, puts_down, IsOwn}
use Names.{MayPutDown}
use Rattle.std.proofs.Common.{◌≡◌, ◌≢◌, ◌<◌, ◌∷◌, ◌∙◌}
use Rattle.lock_floor.specs.declared.calls.ReleaseAt.TheVariants as places
use Rattle.lock_calls.proofs.Leaving.{leaving_behind, stands_outside, looks_on, holds_outside}
use Rattle.lock_calls.proofs.Owned.{off_the_way, saw_own}

-- where it misses, that is a look at a lock that the thread holds
pub may_look_held : (floor : Description) (v : Knowledge) (l : ℕ) (mode : Mode) → v.description ≡ floor
    → l < length floor.locks → MayPutDown floor l mode v
    → MayMake floor v (λ s. Unit {0}) (Looks v.thread l (counts v l) ∷ [])
may_look_held floor v l mode mine low m =
    may_look_settled floor v l mode mine low m.held m.no_round m.takes_nothing m.nothing_out (off_the_way v m.there)
    m.going

-- where it hits, the thread has nobody to wake
module _ (floor : Description) (l : ℕ) (mode : Mode) (v w : Knowledge) (m : MayPutDown floor l mode v)
    (down : w ≡ seeing w.seen (put_down v l)) where
  pub none_to_wake : w.share.doing.marked ≡ []
  none_to_wake = ap (λ (k : Knowledge). k.share.doing.marked) down ∙ m.unmarked

  going_on : IsGoing w
  going_on = rw down (assumption m.going)

  marks_on : MayGiveUp v → CanMark w
  marks_on (inl runs) =
      runners_mark w (ap (λ (k : Knowledge). k.pose) down ∙ runs) (ap (λ (k : Knowledge). k.out) down ∙ m.nothing_out)
      going_on (ap (λ (k : Knowledge). k.share.doing.counting) down ∙ m.uncounted)
  marks_on (inr (d, stands)) =
      sleepers_mark w d l [] (ap (λ (k : Knowledge). k.pose) down ∙ stands) none_to_wake
      (ap (λ (k : Knowledge). k.out) down ∙ m.nothing_out) going_on
      (ap (λ (k : Knowledge). k.share.doing.counting) down ∙ m.uncounted)

  pub put_down_so : Makes floor (Drops v.thread l mode ∷ []) v w → HasPutDown l w
  put_down_so step = record {
    unheld = dropped_unheld floor v w l mode step;
    unseen = ap (λ (k : Knowledge). k.share.doing.last_look) down;
    may = marks_on m.there;
  }

module _ (floor : Description) (l : LockNo) (mode : Mode) (seen : ℕ) (old : Knowledge)
    (m : LeavesByDrop floor l.0 mode seen old) where
  pub may_drop_it : l.0 < length floor.locks
      → MayMake floor old (λ s. s.word l.0 ≡ word_of seen) (Drops old.thread l.0 mode ∷ [])
  may_drop_it low =
      may_drop_settled floor old l.0 mode (word_of seen) low m.may.held m.drops m.may.closed m.may.begun
      m.may.takes_nothing (off_the_way old m.may.there) m.may.going

  -- it dropped the lock
  pub dropped_outside : (w : Knowledge) → w ≡ seeing w.seen (put_down old l.0)
      → Makes floor (Drops old.thread l.0 mode ∷ []) old w → IsReleased floor l mode (places.Drops seen) old w
  dropped_outside w down step = record {
    down = put_down_so floor l.0 mode old w m.may down step;
    nobody = none_to_wake floor l.0 mode old w m.may down;
    kept = ap (once_released l.0 Wakes) down;
    end = puts_down seen (ap (λ (k : Knowledge). k.share.held) down) step;
  }

  -- or its exchange missed
  pub missed_outside : (found : ℕ) (w : Knowledge) → found ≢ seen → IsWellFormed (word_of found)
      → w ≡ seeing w.seen (looked old l.0 (word_of found))
      → Makes floor (Looks old.thread l.0 (counts old l.0) ∷ []) old w
      → ReleasesOn floor l mode (places.Drops seen) (outside mode found) old w
  missed_outside found w other formed view miss =
      let x = m.may in
      let quiet : counts old l.0 ≡ false = counts_not floor old l.0 mode x.no_round x.held in
      record {
        there = stands_outside floor l.0 mode found w
            (leaving_behind floor l.0 mode old w (word_of found) view x)
            (subst (λ t. IsOwn t mode found) (sym (ap (λ (k : Knowledge). k.thread) view))
            (saw_own floor l.0 mode found (counts old l.0) old w x.held formed view miss));
        kept = holds_outside l.0 mode found w
            ∙ ap (once_released l.0 ComesTo) (looks_on floor l.0 mode old w (word_of found) view x.no_round x.held);
        leg = misses seen found other (ap (λ (k : Knowledge). k.share.held) view)
            (ap (λ (k : Knowledge). k.share.doing.last_look) view)
            (subst (λ b. Makes floor (Looks old.thread l.0 b ∷ []) old w) quiet miss);
      }
