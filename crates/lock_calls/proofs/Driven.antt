-- A take and a release that wait, part after part.
use Rattle.lock_calls.proofs.Names
use Names.{inl, inr, false, [], length, refl, ap, subst, arith, Event, Reversal, LockNo, ThreadNo, Mode, Excl, Shared}
use Names.{without_lock, Description, Stamps, Makes, MakesEach, Knowledge, ReleaseAt, Wakes, TakeAt, Checks, Pass}
use Names.{IsAtRest, MakesEntry, Next, Done, Again, Sleep, Wake, Reversed, Halted, IsUnderRelease, HasBegunRelease}
use Names.{StandsInRelease, ReleasesAtOnce, EndsRelease, WakesOne, GoesOnReleasing, outside, Locks, Release, ByDrop}
use Names.{IsReleaseIn, unlocks, at_once, IsUnderTake, HasTaken, IsRefused, HasBegunTake, TakesAtOnce, BeginsTake}
use Names.{StandsInTake, StandsAndWakes, TakesOn, EndsRefused, EndsHalted, WasHalted, GoesOnTaking, kept_at, Kept}
use Names.{kept_of}
use Rattle.std.proofs.Common.{◌≡◌, ◌⊎◌, ◌<◌, ◌∷◌, ◌∙◌}
use Rattle.lock_floor.specs.declared.calls.Call.TheVariants as calls
use Rattle.lock_calls.specs.Releases as released
use Rattle.lock_calls.proofs.Let as let_go
use Rattle.lock_calls.proofs.Let.{HasNoted, Noted, noted_of}
use Rattle.lock_calls.proofs.Taken as taken
use Rattle.lock_calls.proofs.Taken.{begins_at, goes_on, ends, halts, entry_since, refused_since, under_take_on}

-- 1. A take

-- what it is and has made
pub record HasLocked (floor : Description) (l : LockNo) (mode : Mode) (begun new : Knowledge) : Type 0 where
  pub taken : HasTaken floor l mode begun new
  pub locks : Locks floor l mode begun new

-- where it stands
abbrev pub StandsSince : Description → LockNo → Mode → Knowledge → Pass Knowledge → Type 0
StandsSince floor l mode begun p =
    (at : TakeAt) × (p.call ≡ calls.Take l mode at) × IsUnderTake floor l mode at p.view
    × (kept_at at p.view ≡ kept_of begun) × taken.IsAt floor l.0 mode false begun at p.view

module _ (floor : Description) (l : LockNo) (mode : Mode) (next : Next) (p q : Pass Knowledge)
    (b : HasBegunTake floor l mode next p q) where
  pub locked_at_once : next ≡ Done → HasLocked floor l mode p.view q.view
  locked_at_once is =
      let d : TakesAtOnce floor l mode p q = subst (λ n. HasBegunTake floor l mode n p q) is b in
      record {
        taken = d.taken;
        locks = record { gained = d.gained; gains = at_once refl d.bare d.gains; notes = d.notes };
      }

  pub stands_begun : next ≡ Again → StandsSince floor l mode p.view q
  stands_begun is =
      let d : BeginsTake floor l mode p q = subst (λ n. HasBegunTake floor l mode n p q) is b in (
        Checks,
        d.call,
        d.there,
        d.kept,
        begins_at floor l.0 mode p.view q.view d.missed d.first,
      )

  pub begins_on : (next ≡ Sleep)
      ⊎ (((t : ThreadNo) × (next ≡ Wake t)) ⊎ (((r : Reversal) × (next ≡ Reversed r)) ⊎ (next ≡ Halted))) → ⊥
  begins_on (inl is) = subst (λ n. HasBegunTake floor l mode n p q) is b
  begins_on (inr (inl is)) = subst (λ n. HasBegunTake floor l mode n p q) is.1 b
  begins_on (inr (inr (inl is))) = subst (λ n. HasBegunTake floor l mode n p q) is.1 b
  begins_on (inr (inr (inr is))) = subst (λ n. HasBegunTake floor l mode n p q) is b

module _ (floor : Description) (l : LockNo) (mode : Mode) (begun : Knowledge) (p : Pass Knowledge)
    (s : StandsSince floor l mode begun p) (next : Next) (q : Pass Knowledge)
    (w : GoesOnTaking floor l mode s.0 next p q) where
  its : p.view.thread ≡ begun.thread
  its = ap (λ (k : Kept). k.thread) s.3

  pub locked : next ≡ Done → HasLocked floor l mode begun q.view
  locked is =
      let d = subst (λ n. GoesOnTaking floor l mode s.0 n p q) is w in
      record {
        taken = assumption (entry_since floor l mode s.0 begun p.view q.view s.3 d.1.entry, d.1);
        locks = record {
          gained = d.2.gained;
          gains = ends floor l mode false begun p.view d.2.gained its s.0 s.4 d.2.gains;
          notes = subst (λ t. Makes floor (Stamps t (Event.Locked l mode) ∷ []) d.2.gained q.view) its d.2.notes;
        };
      }

  stands : (to : TakeAt) → q.call ≡ calls.Take l mode to → TakesOn floor l mode s.0 to p.view q.view
      → StandsSince floor l mode begun q
  stands to call on = (
    to,
    call,
    under_take_on floor l mode s.0 to p.view q.view s.2 on,
    on.kept ∙ s.3,
    goes_on floor l mode false begun p.view q.view its (ap (λ (k : Kept). k.thread) on.kept ∙ its) s.0 to
        s.2.calling.no_wait s.2.there s.4 on.leg,
  )

  pub stands_on : next ≡ Again → StandsSince floor l mode begun q
  stands_on is =
      let d : StandsInTake floor l mode s.0 Again p q = subst (λ n. GoesOnTaking floor l mode s.0 n p q) is w in
      stands d.to d.call d.on

  pub stands_asleep : next ≡ Sleep → StandsSince floor l mode begun q
  stands_asleep is =
      let d : StandsInTake floor l mode s.0 Sleep p q = subst (λ n. GoesOnTaking floor l mode s.0 n p q) is w in
      stands d.to d.call d.on

  module _ (t : ThreadNo) (is : next ≡ Wake t) where
    woke : StandsAndWakes floor l mode s.0 t.0 p q
    woke = subst (λ n. GoesOnTaking floor l mode s.0 n p q) is w

    pub halts_low : t.0 < length floor.threads
    halts_low = woke.wakes.of_floor

    pub stands_waking : StandsSince floor l mode begun q
    stands_waking = stands woke.to woke.call woke.wakes.on

  pub was_refused : (r : Reversal) → next ≡ Reversed r → IsRefused floor l r begun q.view
  was_refused r is =
      let d : EndsRefused floor l s.0 r p q = subst (λ n. GoesOnTaking floor l mode s.0 n p q) is w in
      refused_since floor l mode s.0 begun p.view q.view r s.3
      (subst (λ a. taken.IsAt floor l.0 mode false begun a p.view) d.at_check s.4) d.refused

  pub was_halted : next ≡ Halted → WasHalted floor l mode begun q.view
  was_halted is =
      let d : EndsHalted floor l s.0 p q = subst (λ n. GoesOnTaking floor l mode s.0 n p q) is w in
      halts floor l mode begun p.view q.view its s.0 s.4 s.3 d.halted

-- 2. A release

-- what it is and has made
pub record HasUnlocked (floor : Description) (l : LockNo) (mode : Mode) (begun new : Knowledge) : Type 0 where
  pub rest : IsAtRest floor new
  pub entry : MakesEntry floor (Event.Unlocked l mode) (without_lock l.0 begun.share.held) begun new
  pub how : Release
  pub is_so : IsReleaseIn mode how
  pub steps : MakesEach floor (unlocks floor begun.thread l mode how) begun new

-- one exchange makes a release in each mode
at_once_so : (mode : Mode) → IsReleaseIn mode (ByDrop 0)
at_once_so Excl = refl
at_once_so Shared = tt

-- where it stands, and what it has made since it was noted
pub record ReleasesSince (floor : Description) (l : LockNo) (mode : Mode) (begun : Knowledge) (p : Pass Knowledge) :
    Type 0 where
  pub at : ReleaseAt
  pub call : p.call ≡ calls.Release l mode at
  pub under : IsUnderRelease floor l mode at p.view
  pub noted : HasNoted floor l mode begun p.view
  pub behind : Knowledge
  pub notes : Makes floor (Stamps begun.thread (Event.Unlocked l mode) ∷ []) begun behind
  pub is_at : let_go.IsAt floor l mode 1 begun.thread begun.share.held behind at p.view

noted_thread : (floor : Description) (l : LockNo) (mode : Mode) (begun now : Knowledge)
    → HasNoted floor l mode begun now → now.thread ≡ begun.thread
noted_thread floor l mode begun now n = ap (λ (k : Noted). k.thread) n.still ∙ n.entry.thread

module _ (floor : Description) (l : LockNo) (mode : Mode) (next : Next) (p q : Pass Knowledge)
    (b : HasBegunRelease floor l mode next p q) where
  pub unlocked_at_once : next ≡ Done → HasUnlocked floor l mode p.view q.view
  unlocked_at_once is =
      let d = (subst (λ n. HasBegunRelease floor l mode n p q) is b).1 in
      record { rest = d.rest; entry = d.entry; how = ByDrop 0; is_so = at_once_so mode; steps = d.steps }

  pub releases_begun : next ≡ Again → ReleasesSince floor l mode p.view q
  releases_begun is =
      let d : released.BeginsRelease floor l mode p q = subst (λ n. HasBegunRelease floor l mode n p q) is b in
      record {
        at = outside mode d.found;
        call = d.call;
        under = d.there;
        noted = record { first = q.view; entry = d.entry; still = refl };
        behind = d.steps.0;
        notes = d.steps.1;
        is_at = let_go.at_outside floor l mode 1 p.view.thread p.view.share.held d.steps.0 q.view d.found
            (record { k = 1; some = omega arith; few = λ e. omega arith; each = d.steps.2 }) d.entry.held;
      }

  pub release_begins_on : (next ≡ Sleep)
      ⊎ (((t : ThreadNo) × (next ≡ Wake t)) ⊎ (((r : Reversal) × (next ≡ Reversed r)) ⊎ (next ≡ Halted))) → ⊥
  release_begins_on (inl is) = subst (λ n. HasBegunRelease floor l mode n p q) is b
  release_begins_on (inr (inl is)) = subst (λ n. HasBegunRelease floor l mode n p q) is.1 b
  release_begins_on (inr (inr (inl is))) = subst (λ n. HasBegunRelease floor l mode n p q) is.1 b
  release_begins_on (inr (inr (inr is))) = subst (λ n. HasBegunRelease floor l mode n p q) is b

module _ (floor : Description) (l : LockNo) (mode : Mode) (begun : Knowledge) (p : Pass Knowledge)
    (s : ReleasesSince floor l mode begun p) (next : Next) (q : Pass Knowledge)
    (w : GoesOnReleasing floor l mode s.at next p q) where
  its_own : p.view.thread ≡ begun.thread
  its_own = noted_thread floor l mode begun p.view s.noted

  pub unlocked : next ≡ Done → HasUnlocked floor l mode begun q.view
  unlocked is =
      let d : EndsRelease floor l mode s.at p q = subst (λ n. GoesOnReleasing floor l mode s.at n p q) is w in
      let end = let_go.ends_at floor l mode 1 begun.thread begun.share.held s.behind p.view q.view s.at its_own s.is_at
      d.released.end in
      record {
        rest = d.rest;
        entry = let_go.entry_since floor l mode begun s.noted.first q.view s.noted.entry
            (ap noted_of d.released.kept ∙ s.noted.still) end.held;
        how = end.how;
        is_so = let_go.release_in mode end.how end.is_so;
        steps = (s.behind, s.notes, end.steps);
      }

  pub releases_on : next ≡ Again → ReleasesSince floor l mode begun q
  releases_on is =
      let d : StandsInRelease floor l mode s.at p q = subst (λ n. GoesOnReleasing floor l mode s.at n p q) is w in
      record {
        at = d.to;
        call = d.call;
        under = d.there;
        noted = record {
          first = s.noted.first;
          entry = s.noted.entry;
          still = ap noted_of d.on.kept ∙ s.noted.still;
        };
        behind = s.behind;
        notes = s.notes;
        is_at = let_go.goes_on floor l mode 1 begun.thread begun.share.held s.behind p.view q.view its_own s.at d.to
            s.is_at d.on.leg;
      }

  pub releases_awake : (next ≡ Sleep) ⊎ (((r : Reversal) × (next ≡ Reversed r)) ⊎ (next ≡ Halted)) → ⊥
  releases_awake (inl is) = subst (λ n. GoesOnReleasing floor l mode s.at n p q) is w
  releases_awake (inr (inl is)) = subst (λ n. GoesOnReleasing floor l mode s.at n p q) is.1 w
  releases_awake (inr (inr is)) = subst (λ n. GoesOnReleasing floor l mode s.at n p q) is w

  module _ (t : ThreadNo) (is : next ≡ Wake t) where
    one : WakesOne floor l mode s.at t.0 p q
    one = subst (λ n. GoesOnReleasing floor l mode s.at n p q) is w

    pub wakes_low : t.0 < length floor.threads
    wakes_low = one.woken.of_floor

    pub releases_waking : ReleasesSince floor l mode begun q
    releases_waking =
        let x = one.woken in
        let h : let_go.IsAt floor l mode 1 begun.thread begun.share.held s.behind Wakes p.view =
        subst (λ a. let_go.IsAt floor l mode 1 begun.thread begun.share.held s.behind a p.view) x.at_end s.is_at in
        record {
          at = Wakes;
          call = one.call;
          under = one.there;
          noted = record {
            first = s.noted.first;
            entry = s.noted.entry;
            still = ap noted_of x.wakes.view ∙ s.noted.still;
          };
          behind = s.behind;
          notes = s.notes;
          is_at = let_go.wakes_on floor l mode 1 begun.thread begun.share.held s.behind p.view q.view its_own t.0 h
              x.wakes;
        }
